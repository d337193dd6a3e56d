-- The signature's length, the fields, the recovery byte, the first usable p.
use Rattle.std.specs.Prelude.{Option, Some, None, ok_or, Ok, Err}
use Rattle.std.proofs.Common.{◌≡◌, ℕ, ◌+◌, ◌*◌, List, length, get_or, refl, sym, ap, ◌∙◌}
use Rattle.std.proofs.lemmas.Result.{err_from_is_err_and}
use lib.Bits.{bit_and, and_mask}
use Rattle.answer.proofs.Answer.{mapped_accepted, mapped_refused}
use Rattle.field.specs.Fields.{fields_in, payment_hash, recovery_of, fields_of}
use Rattle.field.specs.Private.{surveyed}
use Rattle.answer.specs.declared.Refusal.{Refusal}
use Rattle.field.specs.declared.Field.{Field}
use Rattle.field.specs.declared.First.{First}
use Rattle.field.specs.declared.Surveyed.{Surveyed}
use Rattle.field.proofs.SurveyLaws.{recovery_two, signature_short, fielding_refused, fielding_recovery, fielding_none, fielding_fine, has_first, has_no_first, first_row}
use Rattle.field.proofs.judge.Goals as goal
use Rattle.field.proofs.judge.Goals.{In_ok-found}

pub returns-then-signature-ne104 : goal.returns-then-signature-ne104
returns-then-signature-ne104 c = rw (signature_short c.args.middle.now c.args.signature.now c.if-signature-ne104.true, c.bare.ensures)

pub returns-in_err-found : goal.returns-in_err-found
returns-in_err-found c =
    let p = err_from_is_err_and c.from_residual.result c.from_residual.ensures.1 in
    rw (p.1, p.2, fielding_refused _ _ c.if-signature-ne104.false _ (mapped_refused surveyed _ _ (sym c.survey.ensures ∙ c.in_err-found.was)))

-- what the survey says of the fields
said : (c : In_ok-found) → (fields : List Field) × (fields_in c.args.middle.now ≡ Ok fields) × (surveyed fields ≡ c.in_ok-found.found)
said c = mapped_accepted surveyed _ _ (sym c.survey.ensures ∙ c.in_ok-found.was)

-- the recovery byte of a signature of 104 groups
recovery : (s : List ℕ) (bits : ℕ) → length s ≡ 104 → bits ≡ get_or s 102 0 * 32 + get_or s 103 0 → bit_and bits 255 ≡ recovery_of s
recovery s bits h e = and_mask bits 8 ∙ rw e (sym (recovery_two s h))

pub returns-then-ten_bits-gt3 : goal.returns-then-ten_bits-gt3
returns-then-ten_bits-gt3 c =
    let j = said (goal.at.returns-then-ten_bits-gt3 c).In_ok-found in
    let high = rw (recovery _ _ c.if-signature-ne104.false c.ten_bits.ensures) at c.if-ten_bits-gt3.true in
    rw (fielding_recovery _ _ c.if-signature-ne104.false j.0 j.1 high, c.bare-then-ten_bits-gt3.ensures)

missing : {A : Type 0} (o : Option A) (q r : Refusal) → ok_or o q ≡ Err r → (o ≡ None) × (q ≡ r)
missing None q r h = (refl, cc)
missing (Some x) q r h = cc

there : {A : Type 0} (o : Option A) (q : Refusal) (x : A) → ok_or o q ≡ Ok x → o ≡ Some x
there None q x h = cc
there (Some y) q x h = cc

pub returns-in_err-payment : goal.returns-in_err-payment
returns-in_err-payment c =
    let j = said (goal.at.returns-in_err-payment c).In_ok-found in
    let low = rw (recovery _ _ c.if-signature-ne104.false c.ten_bits.ensures) at c.if-ten_bits-gt3.false in
    let m = missing _ _ _ (sym c.ok_or.ensures.value ∙ c.in_err-payment.was) in
    let none = ap (λ (x : Surveyed). x.payment) j.2 ∙ m.0 in
    let p = err_from_is_err_and c.from_residual-in_err-payment.result c.from_residual-in_err-payment.ensures.1 in
    rw (p.1, p.2, fielding_none _ _ c.if-signature-ne104.false j.0 j.1 low (has_no_first payment_hash j.0 none), ← m.1, c.bare-2.ensures)

accepted : (fs : List Field) (s : Surveyed) (x : First) → surveyed fs ≡ s → s.payment ≡ Some x →
    record { count = s.count; payment = x.row; expiry = s.expiry; delta = s.delta } ≡ fields_of fs
accepted fs s x e h = rw (← e, ← first_row payment_hash fs x (ap (λ (y : Surveyed). y.payment) e ∙ h))

pub returns : goal.returns
returns c =
    let j = said (goal.at.returns c).In_ok-found in
    let low = rw (recovery _ _ c.if-signature-ne104.false c.ten_bits.ensures) at c.if-ten_bits-gt3.false in
    let found = there _ _ _ (sym c.ok_or.ensures.value ∙ c.in_ok-payment.was) in
    let there = ap (λ (x : Surveyed). x.payment) j.2 ∙ found in
    rw (fielding_fine _ _ c.if-signature-ne104.false j.0 j.1 low (has_first payment_hash j.0 _ there)) (ap Ok (accepted j.0 _ _ j.2 found))
