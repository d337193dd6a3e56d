-- `message_writer::payload::measure` meets its contract: the front, then the last part. Assumes nothing.
use Rattle.std.proofs.Common.{arith, sym, ap, Ok}
use Rattle.answer.proofs.Answer.{handed_on, mapped_accepted, mapped_refused}
use Rattle.message_writer.proofs.PayloadLaws.{length_payload, payload_refused, payload_is}
use Rattle.message_writer.proofs.payload.measure.Goals as goal

pub returns-in_err-n : goal.returns-in_err-n
returns-in_err-n c wanted =
    let a = c.args in
    rw (payload_refused a.front a.kind a.first.now a.last.now wanted _ (mapped_refused _ _ _ (sym (c.in_err-n.ensures wanted)))) (handed_on c.from_residual.ensures.1)

pub returns : goal.returns
returns c wanted =
    let a = c.args in
    let j = mapped_accepted _ _ _ (sym (c.in_ok-n.ensures wanted)) in
    rw (payload_is a.front a.kind a.first.now a.last.now wanted _ j.1)
    (ap Ok (omega (arith, c.sum.ensures, j.2, length_payload a.kind j.0 a.last.now)))
