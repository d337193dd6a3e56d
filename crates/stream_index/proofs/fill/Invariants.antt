-- `stream_index::fill`'s loop: what is left of the stream goes into the rest of the index.
use Rattle.std.proofs.Common.{◌-◌, ◌≡◌, ℕ, length}
use Rattle.answer.specs.Answer.{mapped, filled}
use Rattle.stream_index.specs.Index.{numbers}
use Rattle.stream.specs.Stream.{outer_from}
use Rattle.stream_index.proofs.Filling.{Left}
use Rattle.table.specs.Search.{Cursor}
use Rattle.stream_index.proofs.fill.Given as goal

abbrev pub invariant-loop-at : goal.invariant-loop-at
invariant-loop-at l =
    (length l.index ≡ length l.initial.index) × (low : ℕ) ×
    Left l.table l.namespace l.bytes (filled (mapped numbers (outer_from l.begin l.table l.namespace l.bytes)) l.initial.index) l.index l.at low l.i ×
    Cursor l.table l.namespace low l.row

abbrev pub decreases-loop-at : goal.decreases-loop-at
decreases-loop-at l = length l.bytes - l.at
