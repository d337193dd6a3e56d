-- The fields and the signature, the numbers of the first usable x and c.
use Rattle.std.specs.Prelude.{Option, Ok}
use native.Mathlib.Omega.{arith}
use mathlib.Core.Bool.{true}
use mathlib.Core.List.{List}
use mathlib.Core.Path.{◌≡◌, refl, sym, ap, ◌∙◌, subst}
use Prim.Native.Nat.{ℕ, ◌+◌, ◌-◌, ◌≤◌}
use lib.ListN.{length, drop, length-take, length-drop}
use Rattle.laws.proofs.Lists.{part_tail}
use Rattle.answer.proofs.Answer.{mapped_accepted}
use Rattle.field.specs.declared.Field.{Field}
use Rattle.field.specs.declared.Fields.{Fields}
use Rattle.field.specs.declared.First.{First}
use Rattle.field.specs.Fields.{expiry, delta, is_usable, first_of, fielding, number_or, fields_of}
use Rattle.field.proofs.FieldLaws.{expiry_few, delta_few}
use Rattle.field.proofs.SurveyLaws.{fielding_fields}
use Rattle.invoice.specs.Invoice.{middle_of, signature_of, time_of}
use Rattle.invoice.specs.Edition.{default_expiry, default_delta}
use Rattle.invoice.specs.Private.{Lies, field_in, data_of}
use Rattle.invoice.proofs.GroupText.{part_number, middle_part, first_lies, first_field}
use Rattle.invoice.proofs.judge_groups.Goals as goal
use Rattle.invoice.proofs.judge_groups.Goals.{In_ok-told}

-- What is judged are the groups between the time and the signature, and the signature.

abbrev groups_of : In_ok-told → List ℕ
groups_of k = k.args.content.now

-- the fields
fields : (k : In_ok-told) → (fs : List Field) × (fielding (middle_of (groups_of k)) (signature_of (groups_of k)) ≡ Ok fs) × (fields_of fs ≡ k.in_ok-told.told)
fields k =
    let gs = groups_of k in
    mapped_accepted fields_of _ _ (sym (rw (middle_part gs _ refl, part_tail gs (length gs - 104)) at k.judge.ensures) ∙ k.in_ok-told.was)

-- the middle ends in the groups
middle_in : (k : In_ok-told) → 7 + length (middle_of (groups_of k)) ≤ length (groups_of k)
middle_in k =
    let gs = groups_of k in
    omega (arith, k.requires.0, length-take (length gs - 111) (drop 7 gs), length-drop 7 gs)

-- the first usable field of a type lies in the groups
lies : (k : In_ok-told) (kind : ℕ) (x : Option First) → first_of kind (fields k).0 ≡ x → ((f : Field) → is_usable kind f ≡ true → f.size ≤ 12) →
    Lies x (length (groups_of k))
lies k kind x is few =
    subst (λ (y : Option First). Lies y (length (groups_of k))) is
    (first_lies kind (middle_of (groups_of k)) (fields k).0 (length (groups_of k)) (fielding_fields _ _ (fields k).0 (fields k).1) (middle_in k) few)

pub number_or-requires : goal.number_or-requires
number_or-requires c =
    let k = (goal.at.number_or-requires c).In_ok-told in
    (c.requires.2, lies k expiry _ (ap (λ (x : Fields). x.expiry) (fields k).2) expiry_few)

pub number_or-requires-2 : goal.number_or-requires-2
number_or-requires-2 c =
    let k = (goal.at.number_or-requires-2 c).In_ok-told in
    (c.requires.2, lies k delta _ (ap (λ (x : Fields). x.delta) (fields k).2) delta_few)

-- what is said, by the fields
said : (gs : List ℕ) (fs : List Field) (told : Fields) (time x c : ℕ) → fields_of fs ≡ told → time ≡ time_of gs →
    x ≡ number_or default_expiry (field_in told.expiry) gs → c ≡ number_or default_delta (field_in told.delta) gs →
    record { time = time; fields = told.count; payment = told.payment; expiry = x; delta = c } ≡ data_of gs fs
said gs fs told time x c is t e d = rw (t, e, d, ← is, first_field expiry fs, first_field delta fs)

pub returns : goal.returns
returns c =
    let k = (goal.at.returns c).In_ok-told in
    let gs = groups_of k in
    let j = fields k in
    rw j.1 (ap Ok (said gs j.0 _ _ _ _ j.2 (c.number.ensures ∙ part_number gs 0 c.requires.2 7 (omega arith)) c.number_or.ensures c.number_or-2.ensures))
