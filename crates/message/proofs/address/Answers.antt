-- `message::address` meets its contract: as the judge, of the address alone. Assumes nothing.
use Rattle.std.proofs.Common.{refl, sym, ap, ◌∙◌}
use Rattle.answer.specs.Answer.{◌>>=◌}
use Rattle.answer.proofs.Answer.{then_accepted, then_refused}
use Rattle.stream_index.specs.Index.{locating_from}
use Rattle.message.specs.Message.{address_in}
use Rattle.message.proofs.LayoutLaws.{namespace_le}
use Rattle.message.proofs.address.Goals as goal

pub returns-in-Err : goal.returns-in-Err
returns-in-Err c = sym (then_refused _ address_in _ c.in-Err.ensures.message_value)

pub returns-in-Ok-PassedOver : goal.returns-in-Ok-PassedOver
unfolding address_in
returns-in-Ok-PassedOver c =
    c.no_address.ensures ∙ sym (then_accepted _ address_in _ (rw c.in-Ok-PassedOver.field-0-is at c.in-Ok-PassedOver.ensures.message_value))

pub judge_extension-counted-requires : goal.judge_extension-counted-requires
judge_extension-counted-requires c = namespace_le _ _ _ (rw c.in-Ok-Known.field-0-is at c.in-Ok-Known.ensures.told).0

pub returns-in-Err-payload : goal.returns-in-Err-payload
returns-in-Err-payload c =
    let read = rw c.in-Ok-Known.field-0-is at c.in-Ok-Known.ensures.message_value in
    let told = rw c.in-Ok-Known.field-0-is at c.in-Ok-Known.ensures.told in
    sym (then_refused _ address_in _ (read ∙ c.in-Err-payload.ensures.parsed_by _ told.0))

pub returns-in-Ok : goal.returns-in-Ok
unfolding locating_from
returns-in-Ok c =
    let read = rw c.in-Ok-Known.field-0-is at c.in-Ok-Known.ensures.message_value in
    let told = rw c.in-Ok-Known.field-0-is at c.in-Ok-Known.ensures.told in
    c.address_of.ensures _ _ refl c.judge_extension-counted.ensures.located_value ∙ ap (λ x. x >>= address_in) (sym (read ∙ c.in-Ok.ensures.parsed_by _ told.0))
