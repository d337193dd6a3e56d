-- `stream_writer::drop_marks`'s loop: what is left, put behind what was put, is the whole.
use Rattle.std.proofs.Common.{◌-◌, ◌*◌, ◌≤◌, ◌≡◌, length, take, drop}
use lib.Seq.{sets}
use Rattle.stream_writer.specs.Back.{without_marks}
use Rattle.stream_writer.proofs.drop_marks.Given as goal

abbrev pub invariant-loop-r : goal.invariant-loop-r
invariant-loop-r l =
    (l.r ≤ l.records) × (length l.triples ≡ length l.initial.triples) ×
    (sets l.triples (l.r * 3) (without_marks (take (4 * (l.records - l.r)) (drop (l.r * 4) l.index))) ≡
    sets l.initial.triples 0 (without_marks (take (4 * l.records) l.index)))

abbrev pub decreases-loop-r : goal.decreases-loop-r
decreases-loop-r l = l.records - l.r
