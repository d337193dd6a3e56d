-- `stream_writer::measure_row` meets its contract: the value's answer, told at the row, or the length of the record. Assumes nothing.
use Rattle.std.specs.Prelude.{Ok, Err}
use Rattle.std.proofs.Common.{arith, ℕ, sym, ap, ◌≡◌, ◌+◌, length, List}
use native.Mathlib.Nat.{add-sub_cancel_left}
use Rattle.bigsize.proofs.Laws.{width_le}
use Rattle.laws.proofs.Lists.{length_part}
use Rattle.answer.specs.Answer.{Answer}
use Rattle.answer.proofs.Answer.{mapped_accepted, mapped_refused}
use Rattle.stream.specs.Stream.{judged}
use Rattle.table.specs.Table.{lookup}
use Rattle.stream_writer.specs.Writer.{part, record_of}
use Rattle.stream_writer.proofs.RowLaws.{length_record}
use Rattle.stream_writer.proofs.measure_row.Goals as goal

pub overflow_add-to : goal.overflow_add-to
overflow_add-to c = omega (arith, c.requires.1)

pub slice_bounds-judge_found-end : goal.slice_bounds-judge_found-end
slice_bounds-judge_found-end c = omega (arith, c.requires.1)

pub judge_found-requires : goal.judge_found-requires
judge_found-requires c = record { table_value = c.requires.0; found_value = c.requires.2 }

pub overflow_add-result : goal.overflow_add-result
overflow_add-result c = omega (arith, c.width.ensures, c.width-2.ensures, width_le c.args.kind, width_le c.args.size)

pub overflow_add-result-2 : goal.overflow_add-result-2
overflow_add-result-2 c =
    omega (arith, c.width.ensures, c.width-2.ensures, width_le c.args.kind, width_le c.args.size, c.requires.1)

-- the judgement of the value
abbrev judgement : List ℕ → (namespace kind start size : ℕ) → List ℕ → Answer ℕ
judgement table namespace kind start size source = judged table 3 (lookup table namespace kind) 0 kind 0 (part start size source)

pub returns-in-Err : goal.returns-in-Err
returns-in-Err c =
    let a = c.args in
    let e = mapped_refused _ (judgement a.table.now a.namespace a.kind a.start a.size a.source.now) _ (sym (rw add-sub_cancel_left at c.in-Err.ensures)) in
    rw e (ap Err c.lacking.ensures)

pub returns : goal.returns
returns c =
    let a = c.args in
    let v = length_part a.source.now a.start a.size c.requires.1 in
    let n : c.width.result + c.width-2.result + a.size ≡ length (record_of a.kind (part a.start a.size a.source.now)) =
    rw (length_record, v) (omega (arith, c.width.ensures, c.width-2.ensures)) in
    let fine =
    mapped_accepted _ (judgement a.table.now a.namespace a.kind a.start a.size a.source.now) tt (sym (rw add-sub_cancel_left at c.in_default.ensures)) in
    rw fine.1 (ap Ok n)
