-- `stream_index::seek`'s loop: the type is sought among the rows that are left.
use Rattle.std.proofs.Common.{◌-◌, ℕ, length}
use Rattle.stream_index.specs.Index.{sought}
use Rattle.stream.specs.Stream.{outer_from}
use Rattle.stream_index.proofs.Seeking.{Sought}
use Rattle.stream_index.proofs.seek.Given as goal

abbrev pub invariant-loop-at : goal.invariant-loop-at
invariant-loop-at l =
    (low : ℕ) × Sought l.table l.namespace l.bytes l.kind (sought l.kind (outer_from l.begin l.table l.namespace l.bytes)) l.at low

abbrev pub decreases-loop-at : goal.decreases-loop-at
decreases-loop-at l = length l.bytes - l.at
