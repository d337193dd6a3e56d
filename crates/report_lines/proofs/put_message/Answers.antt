-- The number, then what is said of the message. Assumes nothing.
use Rattle.std.specs.Prelude.{Ok}
use Rattle.std.proofs.Common.{sym, ap, ◌∙◌, arith}
use Rattle.answer.proofs.Answer.{then_accepted}
use Rattle.message.proofs.MessageLaws.{answer_refused, answer_passed, answer_accepted, read_is}
use Rattle.message.specs.Message.{judging as judgingMessage, address_in}
use Rattle.report_lines.proofs.Putting.{puts_then, puts_laid}
use Rattle.report_lines.proofs.put_message.Goals as goal

pub put_address-end-requires : goal.put_address-end-requires
put_address-end-requires c =
    let t = answer_accepted _ (judgingMessage _) _ _ (sym c.judge-judged.ensures.message_value ∙ c.in-Ok-Accepted.is ∙ ap Ok (rw c.in-Ok-Accepted.is at c.in-Ok-Accepted.field-0-is)) in (
      omega (arith, c.put_worded-begin.ensures.1, c.put_worded-typed.ensures.1, c.put_worded-counted.ensures.1),
      c.judge-judged.ensures.address_value,
      (read_is _ _ t.0 t.1).short,
    )

pub returns-in-Err-clause-size_value : goal.returns-in-Err-clause-size_value
returns-in-Err-clause-size_value c =
    let e = answer_refused _ (judgingMessage _) _ (sym c.judge-judged.ensures.message_value ∙ c.in-Err.is) in
    rw e (puts_laid _ _ _ _ (puts_then c.put_worded-begin.ensures.0 c.put_refusal.ensures))

pub returns-in-Ok-PassedOver-clause-size_value : goal.returns-in-Ok-PassedOver-clause-size_value
returns-in-Ok-PassedOver-clause-size_value c =
    let e = answer_passed _ (judgingMessage _) _ (sym c.judge-judged.ensures.message_value ∙ c.in-Ok-PassedOver.is ∙ ap Ok (rw c.in-Ok-PassedOver.is at c.in-Ok-PassedOver.field-0-is)) in
    rw e (puts_laid _ _ _ _ (puts_then c.put_worded-begin.ensures.0 c.put_ending.ensures.0))

pub returns-in-Ok-Accepted-clause-size_value : goal.returns-in-Ok-Accepted-clause-size_value
returns-in-Ok-Accepted-clause-size_value c =
    let t = answer_accepted _ (judgingMessage _) _ _ (sym c.judge-judged.ensures.message_value ∙ c.in-Ok-Accepted.is ∙ ap Ok (rw c.in-Ok-Accepted.is at c.in-Ok-Accepted.field-0-is)) in
    let address = c.judge-judged.ensures.address_value ∙ then_accepted _ address_in _ t.1 in
    rw t.1
    (puts_laid _ _ _ _
    (puts_then c.put_worded-begin.ensures.0
    (puts_then c.put_worded-typed.ensures.0
    (puts_then (rw (← t.2) at c.put_worded-counted.ensures.0)
    (puts_then (rw address at c.put_address-end.ensures.0) c.put_byte.ensures)))))
