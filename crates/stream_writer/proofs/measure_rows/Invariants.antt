-- `stream_writer::measure_rows`'s loop: what is left, over what was summed up, is the whole sum.
use Rattle.std.proofs.Common.{◌*◌, ◌≤◌, ◌≡◌, length, drop}
use Prim.Native.Nat.{min}
use Rattle.frame.specs.Frame.{lowest}
use Rattle.answer.specs.Answer.{mapped}
use Rattle.stream_writer.specs.Writer.{bytes_of, rows_judged}
use Rattle.stream_writer.proofs.RowLaws.{measured}
use Rattle.table.specs.Search.{Cursor}
use Rattle.stream_writer.proofs.measure_rows.Given as goal

abbrev pub invariant-loop-r : goal.invariant-loop-r
invariant-loop-r l =
    (l.size ≤ 65536) × Cursor l.table l.namespace (lowest l.last) l.row ×
    (measured l.table l.namespace l.source l.r (lowest l.last) l.size (drop (l.r * 3) l.triples) ≡
    mapped (λ _. min (length (bytes_of l.triples l.source)) 65536) (rows_judged l.table l.namespace l.source 0 0 l.triples))
