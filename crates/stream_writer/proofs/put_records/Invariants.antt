-- `stream_writer::put_records`'s loop: what is left, put behind what was put, is the whole.
use Rattle.std.proofs.Common.{◌+◌, ◌*◌, ◌≤◌, ◌≡◌, length, drop}
use lib.Seq.{sets}
use Rattle.stream_writer.specs.Writer.{bytes_of}
use Rattle.stream_writer.proofs.RowLaws.{Judged}
use Rattle.stream_writer.proofs.put_records.Given as goal

abbrev pub invariant-loop-row : goal.invariant-loop-row
invariant-loop-row l =
    (length l.out ≡ length l.initial.out) ×
    (l.at + length (bytes_of (drop (l.row * 3) l.triples) l.source) ≤ length l.out) × Judged l.source l.row (drop (l.row * 3) l.triples) ×
    (sets l.out l.at (bytes_of (drop (l.row * 3) l.triples) l.source) ≡ sets l.initial.out 0 (bytes_of l.triples l.source))
