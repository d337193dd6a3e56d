-- `message::judge` meets its contract: the payload, then the extension, and the address in it. Assumes nothing.
use Rattle.std.proofs.Common.{refl, sym, ap, ◌∙◌}
use Rattle.answer.specs.Answer.{◌>>=◌}
use Rattle.answer.proofs.Answer.{then_accepted, then_refused}
use Rattle.stream_index.specs.Index.{locating_from}
use Rattle.message.specs.Message.{address_in, answer_of}
use Rattle.message.proofs.LayoutLaws.{namespace_le}
use Rattle.message.proofs.judge.Goals as goal

pub returns-in-Err : goal.returns-in-Err
returns-in-Err c =
    let e = c.in-Err.ensures.message_value in
    record {
      message_value = c.refused.ensures.0 ∙ sym (ap (answer_of c.args.message.now) e);
      address_value = c.refused.ensures.1 ∙ sym (then_refused _ address_in _ e);
    }

pub returns-in-Ok-PassedOver : goal.returns-in-Ok-PassedOver
unfolding address_in
returns-in-Ok-PassedOver c =
    let e = rw c.in-Ok-PassedOver.field-0-is at c.in-Ok-PassedOver.ensures.message_value in
    record { message_value = sym (ap (answer_of c.args.message.now) e); address_value = c.no_address.ensures ∙ sym (then_accepted _ address_in _ e) }

pub judge_extension-counted-requires : goal.judge_extension-counted-requires
judge_extension-counted-requires c = namespace_le _ _ _ (rw c.in-Ok-Known.field-0-is at c.in-Ok-Known.ensures.told).0

pub returns-in-Err-payload : goal.returns-in-Err-payload
returns-in-Err-payload c =
    let read = rw c.in-Ok-Known.field-0-is at c.in-Ok-Known.ensures.message_value in
    let told = rw c.in-Ok-Known.field-0-is at c.in-Ok-Known.ensures.told in
    let e = read ∙ c.in-Err-payload.ensures.parsed_by _ told.0 in
    record {
      message_value = c.refused-in-Err-payload.ensures.0 ∙ sym (ap (answer_of c.args.message.now) e);
      address_value = c.refused-in-Err-payload.ensures.1 ∙ sym (then_refused _ address_in _ e);
    }

pub returns-in-Ok : goal.returns-in-Ok
unfolding locating_from
returns-in-Ok c =
    let m = c.args.message.now in
    let read = rw c.in-Ok-Known.field-0-is at c.in-Ok-Known.ensures.message_value in
    let told = rw c.in-Ok-Known.field-0-is at c.in-Ok-Known.ensures.told in
    let e = sym (read ∙ c.in-Ok.ensures.parsed_by _ told.0) in
    record {
      message_value = c.with_extension.ensures m _ refl c.judge_extension-counted.ensures.reading_value ∙ ap (answer_of m) e;
      address_value = c.address_of.ensures _ _ refl c.judge_extension-counted.ensures.located_value ∙ ap (λ x. x >>= address_in) e;
    }
