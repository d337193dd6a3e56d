-- `stream_writer::write` meets its contract: the measure, the room, then the records. Assumes nothing.
use Rattle.std.specs.Prelude.{Ok, Err}
use Rattle.std.proofs.Common.{arith, sym, ap, ◌∙◌, length}
use Rattle.laws.proofs.Lists.{sets_front}
use Rattle.answer.proofs.Answer.{handed_on, mapped_accepted, mapped_refused}
use Rattle.stream_writer.proofs.Composing.{composed, writing_refused, writing_short, writing_fits}
use Rattle.stream_writer.proofs.write.Goals as goal

pub returns-then-out-size : goal.returns-then-out-size
returns-then-out-size c =
    let b = mapped_accepted _ _ _ (sym c.in_ok-size.ensures) in
    let short = writing_short _ _ _ _ (length c.args.out.now) b.0 b.1 (omega (arith, b.2, c.if-out-size.true)) in
    record { result_value = rw short (ap Err c.bare.ensures); out_after = rw short }

pub put_records-requires : goal.put_records-requires
put_records-requires c =
    let b = mapped_accepted _ _ _ (sym c.in_ok-size.ensures) in
    let d = composed _ _ _ _ b.0 b.1 in
    record {
      by_index = (c.args.table.now, c.args.namespace, d.judged);
      source_in_bounds = omega (arith, ap length d.is, b.2, c.if-out-size.false);
    }

pub returns-in_err-size : goal.returns-in_err-size
returns-in_err-size c =
    let a = c.args in
    let no = writing_refused a.table.now a.namespace a.triples.now a.source.now (length a.out.now) _ (mapped_refused _ _ _ (sym c.in_err-size.ensures)) in
    record { result_value = handed_on c.from_residual.ensures.1 ∙ rw no; out_after = rw no }

pub returns : goal.returns
returns c =
    let a = c.args in
    let b = mapped_accepted _ _ _ (sym c.in_ok-size.ensures) in
    let d = composed _ _ _ _ b.0 b.1 in
    let fits = writing_fits _ _ _ _ (length a.out.now) b.0 b.1 (omega (arith, b.2, c.if-out-size.false)) in
    record {
      result_value = rw fits (ap Ok (sym b.2));
      out_after = rw fits (c.put_records.ensures ∙ rw (← d.is) (sets_front a.out.now b.0 (omega (arith, b.2, c.if-out-size.false))));
    }
