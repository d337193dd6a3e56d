-- `message::address_of` meets its contract: an init's record, or none. Assumes nothing.
use Rattle.std.proofs.Common.{sym, ◌∙◌}
use Rattle.answer.proofs.Answer.{handed_on}
use Rattle.message.proofs.AddressLaws.{address_init, address_other, address_refused}
use Rattle.message.proofs.address_of.Goals as goal

pub returns-then-kind-eq16 : goal.returns-then-kind-eq16
returns-then-kind-eq16 c p x is e = e ∙ sym (address_init p x (is ∙ c.if-kind-eq16.true))

pub returns-in_err-located : goal.returns-in_err-located
returns-in_err-located c p x is e = handed_on c.from_residual.ensures.1 ∙ sym (address_refused p x _ (sym e ∙ c.in_err-located.was))

pub returns : goal.returns
returns c p x is e =
    c.no_address.ensures ∙ sym (address_other p x (λ init. c.if-kind-eq16.false (sym is ∙ init)) _ (sym e ∙ c.in_ok-located.was))
