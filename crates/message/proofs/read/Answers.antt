-- `message::read` meets its contract: the payload, then the extension into the index. Assumes nothing.
use Rattle.std.proofs.Common.{arith, refl, sym, ap, ◌≡◌, ◌∙◌, List, ℕ, Err, length}
use Rattle.answer.specs.Answer.{Answer, mapped, fitting, filled}
use Rattle.answer.specs.declared.Refusal.{Refusal}
use Rattle.answer.proofs.Answer.{handed_on, fitting_refused, fitting_fits}
use Rattle.message.specs.Message.{passed_over, judging, reading, index_of, answer_of}
use Rattle.message.proofs.LayoutLaws.{namespace_le}
use Rattle.message.proofs.MessageLaws.{extension_fits, extension_index}
use Rattle.message.proofs.read.Goals as goal

-- a refusal leaves the index as it is
refused_is : (m : List ℕ) (room : ℕ) (r : Refusal) → judging m ≡ Err r → reading m room ≡ Err r
refused_is m room r h = fitting_refused (λ o. length (index_of o)) _ _ r h

pub returns-in_err-typed : goal.returns-in_err-typed
returns-in_err-typed c =
    let a = c.args in
    rw (refused_is a.message.now (length a.index.now) _ c.in_err-typed.ensures.message_value) record {
      value = handed_on c.from_residual.ensures.1;
      index_after = refl;
    }

pub returns-in-PassedOver : goal.returns-in-PassedOver
returns-in-PassedOver c =
    let a = c.args in
    let e = rw c.in-PassedOver.is at c.in_ok-typed.ensures.message_value in
    let o = passed_over c.in-PassedOver.kind in
    rw (fitting_fits (λ o. length (index_of o)) (length a.index.now) (judging a.message.now) o e (omega arith)) record { value = refl; index_after = refl }

pub read_extension-reading-requires : goal.read_extension-reading-requires
read_extension-reading-requires c = namespace_le _ _ _ (rw c.in-Known.is at c.in_ok-typed.ensures.told).0

pub returns-in_err-parsed-in-Known : goal.returns-in_err-parsed-in-Known
returns-in_err-parsed-in-Known c =
    let a = c.args in
    let read = rw c.in-Known.is at c.in_ok-typed.ensures.message_value in
    let told = rw c.in-Known.is at c.in_ok-typed.ensures.told in
    rw (refused_is a.message.now (length a.index.now) _ (read ∙ c.in_err-parsed-in-Known.ensures.parsed_by _ told.0)) record {
      value = handed_on c.from_residual-in_err-parsed-in-Known.ensures.1;
      index_after = refl;
    }

-- the extension's rows are read into the index
pub returns-in_ok-parsed-in-Known : goal.returns-in_ok-parsed-in-Known
returns-in_ok-parsed-in-Known c =
    let a = c.args in
    let read = rw c.in-Known.is at c.in_ok-typed.ensures.message_value in
    let told = rw c.in-Known.is at c.in_ok-typed.ensures.told in
    let is = ap (fitting (λ o. length (index_of o)) (length a.index.now)) (read ∙ c.in_ok-parsed-in-Known.ensures.parsed_by _ told.0) ∙ extension_fits _ _ _ _ _ in
    record {
      value = c.with_extension.ensures a.message.now _ refl c.read_extension-reading.ensures.result_value ∙ ap (answer_of a.message.now) (sym is);
      index_after =
          c.read_extension-reading.ensures.index_after
          ∙ ap (λ (x : Answer (List ℕ)). filled x a.index.now) (sym (ap (mapped index_of) is ∙ extension_index _ _));
    }
