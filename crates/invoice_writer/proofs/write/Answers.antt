-- The questions, the length, the room, and the text.
use Rattle.std.specs.Prelude.{Ok, Err}
use native.Mathlib.Omega.{arith}
use mathlib.Core.List.{List, ◌++◌, map}
use mathlib.Core.Path.{◌≡◌, refl, sym, ap, ◌∙◌}
use Prim.Native.Nat.{ℕ, ◌+◌}
use lib.ListN.{length}
use lib.Seq.{sets}
use Rattle.laws.proofs.Lists.{sets_front}
use Rattle.answer.proofs.Answer.{handed_on, mapped_accepted, mapped_refused}
use Rattle.letters.specs.Letters.{lower}
use Rattle.invoice_writer.specs.Private.{name_of}
use Rattle.invoice_writer.specs.Writer.{groups_from, text_of, composing}
use Rattle.invoice_writer.proofs.Composing.{Composed, composed, length_composed, writing_refused, writing_long, writing_short, writing_fits}
use Rattle.invoice_writer.proofs.TextLaws.{length_name, name_lower}
use Rattle.invoice_writer.proofs.write.Goals as goal
use Rattle.invoice_writer.proofs.write.Goals.{In_ok-name}

-- what was found sound, with its length
record Made (s : In_ok-name) : Type 0 where
  text : List ℕ
  is : composing s.args.prefix s.args.amount.now s.args.time s.args.fields.now s.args.signature.now ≡ Ok text
  say : Composed s.args.prefix s.args.amount.now s.args.time s.args.fields.now s.args.signature.now text
  name : s.in_ok-name.name ≡ name_of s.args.prefix
  count : length s.in_ok-name.name ≡ 4
  size : length text ≡ 4 + length s.args.amount.now + 118 + length s.args.fields.now

made : (k : In_ok-name) → Made k
made k =
    let a = k.args in
    let m = mapped_accepted (λ _. name_of a.prefix) (composing a.prefix a.amount.now a.time a.fields.now a.signature.now) _ (sym k.judge.ensures ∙ k.in_ok-name.was) in
    let say = composed a.prefix a.amount.now a.time a.fields.now a.signature.now m.0 m.1 in
    let four = length_name a.prefix say.named in
    record {
      text = m.0;
      is = m.1;
      say = say;
      name = sym m.2;
      count = ap length (sym m.2) ∙ four;
      size = omega (arith, four, length_composed a.prefix a.amount.now a.time a.fields.now a.signature.now m.0 say);
    }

pub returns-in_err-name : goal.returns-in_err-name
returns-in_err-name c =
    let a = c.args in
    let r = mapped_refused (λ _. name_of a.prefix) (composing a.prefix a.amount.now a.time a.fields.now a.signature.now) _ (sym c.judge.ensures ∙ c.in_err-name.was) in
    rw (handed_on c.from_residual.ensures.1, writing_refused a.prefix a.amount.now a.time a.fields.now a.signature.now (length a.out.now) _ r) record { result_value = refl; out_after = refl }

pub overflow_sub-around : goal.overflow_sub-around
overflow_sub-around c = omega (arith, (made (goal.at.overflow_sub-around c).In_ok-name).say.short)

pub returns-then-around-fields : goal.returns-then-around-fields
returns-then-around-fields c =
    let m = made (goal.at.returns-then-around-fields c).In_ok-name in
    let a = c.args in
    let w = writing_long a.prefix a.amount.now a.time a.fields.now a.signature.now (length a.out.now) m.text m.is (omega (arith, m.size, m.say.short, c.if-around-fields.true)) in
    rw w record { result_value = ap Err c.bare.ensures; out_after = refl }

pub returns-then-out-size : goal.returns-then-out-size
returns-then-out-size c =
    let m = made (goal.at.returns-then-out-size c).In_ok-name in
    let a = c.args in
    let w = writing_short a.prefix a.amount.now a.time a.fields.now a.signature.now (length a.out.now) m.text m.is (omega (arith, m.size, m.say.short, c.if-around-fields.false)) (omega (arith, m.size, c.if-out-size.true)) in
    rw w record { result_value = ap Err c.bare-then-out-size.ensures; out_after = refl }

pub text-requires : goal.text-requires
text-requires c =
    let m = made (goal.at.text-requires c).In_ok-name in
    record {
      fields_in_bounds = (omega (arith, c.if-out-size.false, m.count), rw m.name (name_lower _ m.say.named));
      signature_len = (m.say.whole, m.say.groups.0, m.say.groups.1);
    }

pub returns : goal.returns
returns c =
    let m = made (goal.at.returns c).In_ok-name in
    let a = c.args in
    let w = writing_fits a.prefix a.amount.now a.time a.fields.now a.signature.now (length a.out.now) m.text m.is (omega (arith, m.size, m.say.short, c.if-around-fields.false)) (omega (arith, m.size, c.if-out-size.false)) in
    rw w record {
      result_value = ap Ok (omega (arith, m.size));
      out_after =
          c.text.ensures
          ∙ ap (λ (x : List ℕ). sets a.out.now 0 (text_of (x ++ map lower a.amount.now) (groups_from a.time a.fields.now a.signature.now))) m.name
          ∙ ap (sets a.out.now 0) (sym m.say.is)
          ∙ sets_front a.out.now m.text (omega (arith, m.size, c.if-out-size.false));
    }
