-- `stream_writer::write_record` meets its contract: the record fits, or it does not. Assumes nothing.
use Rattle.std.specs.Prelude.{Ok, Err}
use Rattle.std.proofs.Common.{arith, refl, ap, ◌∙◌, ◌≤◌, length}
use native.Mathlib.Nat.{zero-add}
use Rattle.answer.proofs.Answer.{fitting_short, fitting_fits}
use Rattle.bigsize.proofs.Laws.{width_le}
use Rattle.laws.proofs.Lists.{sets_front}
use Rattle.stream_writer.specs.Writer.{record_of}
use Rattle.stream_writer.proofs.RowLaws.{length_record}
use Rattle.stream_writer.proofs.write_record.Goals as goal

pub returns-then-out-n : goal.returns-then-out-n
returns-then-out-n c =
    let a = c.args in
    let short = fitting_short length (length a.out.now) _ (record_of a.kind a.value.now) refl (omega (arith, length_record a.kind a.value.now)) in
    record { result_value = rw short (ap Err c.bare.ensures); out_after = rw short }

pub overflow_add-width : goal.overflow_add-width
overflow_add-width c = omega (arith, width_le c.args.kind, width_le (length c.args.value.now), c.width-2.ensures, c.width.ensures)

pub returns-then-out-n-2 : goal.returns-then-out-n-2
returns-then-out-n-2 c =
    let a = c.args in
    let short =
    fitting_short length (length a.out.now) _ (record_of a.kind a.value.now) refl
    (omega (arith, length_record a.kind a.value.now, c.width-2.ensures, c.width.ensures, c.if-out-n-2.true)) in
    record { result_value = rw short (ap Err c.bare-then-out-n-2.ensures); out_after = rw short }

pub put_record-requires : goal.put_record-requires
put_record-requires c = omega (arith, length_record c.args.kind c.args.value.now, c.width-2.ensures, c.width.ensures, c.if-out-n-2.false)

pub returns : goal.returns
returns c =
    let a = c.args in
    let r = record_of a.kind a.value.now in
    let room : length r ≤ length a.out.now = omega (arith, length_record a.kind a.value.now, c.width-2.ensures, c.width.ensures, c.if-out-n-2.false) in
    let fits = fitting_fits length (length a.out.now) _ r refl room in
    record {
      result_value = rw fits (ap Ok (c.put_record.ensures.0 ∙ zero-add _));
      out_after = rw fits (c.put_record.ensures.1 ∙ sets_front a.out.now r room);
    }
