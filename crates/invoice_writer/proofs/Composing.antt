-- The questions of the writer: an equation for each answer, and what an accepted one says. Assumes nothing.
use Rattle.std.specs.Prelude.{Option, Ok, Err}
use mathlib.Core.Bool.{Bool, true, false, not, ◌||◌}
use mathlib.Core.List.{List, [], ◌∷◌, ◌++◌, map}
use mathlib.Core.Path.{◌≡◌, refl, sym, ap, ◌∙◌}
use Prim.Native.Nat.{ℕ, ◌+◌, ◌^◌, ◌≤◌, ◌<◌}
use native.Mathlib.Omega.{arith}
use lib.ListN.{length, length-append, length-map}
use borrow.Author.Tests.{ltb-true, ltb-false, le-leb, lt-leb, lt-ltb, le-ltb, not-true}
use Rattle.bech32.specs.Groups.{AreGroups}
use Rattle.field.specs.Fields.{fielding}
use Rattle.field.proofs.SurveyLaws.{fielding_signature}
use Rattle.invoice.specs.Edition.{prefixed}
use Rattle.invoice.specs.Invoice.{asking}
use Rattle.invoice.proofs.EditionLaws.{prefixed_is}
use Rattle.field.specs.declared.Field.{Field}
use Rattle.invoice_text.specs.Text.{has, is_above31}
use Rattle.invoice_text.proofs.FirstWhere.{has_append}
use Rattle.invoice_text.proofs.GroupTest.{all_groups}
use Rattle.letters.specs.Letters.{lower}
use Rattle.money.specs.declared.Msat.{Msat}
use Rattle.money.proofs.Accepted.{accepted_length}
use Rattle.answer.specs.Answer.{Answer, bare, mapped, ◌>>=◌}
use Rattle.answer.specs.declared.Refusal.{Refusal}
use Rattle.answer.proofs.Answer.{then_accepted, then_refused, ensure_yes, ensure_no, ensured, both, fitting_short, fitting_fits}
use Rattle.invoice_writer.specs.Private.{name_of}
use Rattle.invoice_writer.specs.Writer.{groups_from, text_of, composing, writing}
use Rattle.invoice_writer.proofs.GroupLaws.{length_from}
use Rattle.invoice_writer.proofs.TextLaws.{length_text}

-- The prefix of a number that is not refused.
pub named_is : (prefix : ℕ) (name : List ℕ) → prefixed prefix ≡ Ok name → name ≡ name_of prefix
named_is prefix name e = (prefixed_is prefix name e).2

-- an answer, whatever is made of what it accepts
mapped_then : {A : Type 0} (x : Answer A) (f : A → List ℕ) (n : List ℕ) → mapped (λ _. n) (x >>= λ a. Ok (f a)) ≡ mapped (λ _. n) x
unfolding ◌>>=◌
mapped_then (Ok l) f n = refl
mapped_then (Err r) f n = refl

module _ (prefix : ℕ) (amount : List ℕ) (time : ℕ) (fields signature : List ℕ) where
  abbrev answer : Answer (List ℕ)
  answer = composing prefix amount time fields signature

  pub time_refused : 2 ^ 35 ≤ time → answer ≡ Err (bare 42)
  unfolding composing
  time_refused h = ensure_no _ _ _ (le-ltb time (2 ^ 35) h)

  module _ (early : time < 2 ^ 35) where
    pub group_refused : (has is_above31 fields || has is_above31 signature) ≡ true → answer ≡ Err (bare 34)
    unfolding composing
    group_refused h = ensure_yes _ _ _ (lt-ltb time (2 ^ 35) early) ∙ ensure_no _ _ _ (ap not (has_append is_above31 fields signature ∙ h))

    module _ (groups : (has is_above31 fields || has is_above31 signature) ≡ false) where
      pub prefix_refused : (r : Refusal) → prefixed prefix ≡ Err r → answer ≡ Err r
      unfolding composing
      prefix_refused r none =
          ensure_yes _ _ _ (lt-ltb time (2 ^ 35) early)
          ∙ ensure_yes _ _ _ (ap not (has_append is_above31 fields signature ∙ groups))
          ∙ then_refused r _ _ none

      module _ (named : prefixed prefix ≡ Ok (name_of prefix)) where
        pub amount_refused : (r : Refusal) → asking (map lower amount) ≡ Err r → answer ≡ Err r
        unfolding composing
        amount_refused r e =
            ensure_yes _ _ _ (lt-ltb time (2 ^ 35) early)
            ∙ ensure_yes _ _ _ (ap not (has_append is_above31 fields signature ∙ groups))
            ∙ then_accepted (name_of prefix) _ _ named
            ∙ then_refused r _ _ e

        -- what is left are the fields and the signature
        pub groups_left : (m : Option Msat) → asking (map lower amount) ≡ Ok m →
            mapped (λ _. name_of prefix) answer ≡ mapped (λ _. name_of prefix) (fielding fields signature)
        unfolding composing
        groups_left m e =
            ap (mapped (λ _. name_of prefix))
            (ensure_yes _ _ _ (lt-ltb time (2 ^ 35) early)
            ∙ ensure_yes _ _ _ (ap not (has_append is_above31 fields signature ∙ groups))
            ∙ then_accepted (name_of prefix) _ _ named
            ∙ then_accepted m _ _ e)
            ∙ mapped_then (fielding fields signature) _ (name_of prefix)

-- What an accepted answer says.

-- an amount has at most 20 characters
asked_short : (t : List ℕ) (m : Option Msat) → asking t ≡ Ok m → length t ≤ 20
unfolding asking
asked_short [] m h = omega arith
asked_short (c ∷ t) m h = let a = both _ _ m h in (accepted_length (c ∷ t) a.is a.first).1

both_false : (a b : Bool) → (a || b) ≡ false → (a ≡ false) × (b ≡ false)
both_false true b h = absurd (let z : ◌≡◌ {A = ℕ} 0 1 = cc in omega arith)
both_false false b h = (refl, h)

-- no group above 31 in either run
pub are_groups : (fields signature : List ℕ) → (has is_above31 fields || has is_above31 signature) ≡ false → AreGroups fields × AreGroups signature
are_groups fields signature h =
    let b = both_false (has is_above31 fields) (has is_above31 signature) h in
    (all_groups fields (ltb-false _ _ b.0), all_groups signature (ltb-false _ _ b.1))

module _ (prefix : ℕ) (amount : List ℕ) (time : ℕ) (fields signature : List ℕ) where
  pub record Composed (text : List ℕ) : Type 0 where
    pub early : time < 2 ^ 35
    pub groups : AreGroups fields × AreGroups signature
    pub named : prefixed prefix ≡ Ok (name_of prefix)
    pub msat : Option Msat
    pub asked : asking (map lower amount) ≡ Ok msat
    pub short : length amount ≤ 20
    pub whole : length signature ≡ 104
    pub list : List Field
    pub fielded : fielding fields signature ≡ Ok list
    pub is : text ≡ text_of (name_of prefix ++ map lower amount) (groups_from time fields signature)

  pub composed : (text : List ℕ) → composing prefix amount time fields signature ≡ Ok text → Composed text
  unfolding composing
  composed text h =
      let a = ensured _ _ _ text h in
      let b = ensured _ _ _ text a.rest in
      let c = both _ _ text b.rest in
      let d = both _ _ text c.second in
      let e = both _ _ text d.second in
      let name = (prefixed_is prefix c.is c.first).2 in
      let text-is : text_of (c.is ++ map lower amount) (groups_from time fields signature) ≡ text = cc e.second in
      record {
        early = ltb-true time (2 ^ 35) a.holds;
        groups = are_groups fields signature (sym (has_append is_above31 fields signature) ∙ not-true _ b.holds);
        named = c.first ∙ ap Ok name;
        msat = d.is;
        asked = d.first;
        short = rw length-map at (asked_short (map lower amount) d.is d.first);
        whole = fielding_signature fields signature e.is e.first;
        list = e.is;
        fielded = e.first;
        is = sym text-is ∙ ap (λ (x : List ℕ). text_of (x ++ map lower amount) (groups_from time fields signature)) name;
      }

  pub length_composed : (text : List ℕ) → Composed text → length text ≡ length (name_of prefix) + length amount + 118 + length fields
  length_composed text c =
      let hrp = name_of prefix ++ map lower amount in
      omega (arith, ap length c.is, length_text hrp (groups_from time fields signature), length-append (name_of prefix) (map lower amount), length-map amount lower, length_from time fields signature, c.whole)

  -- With an output.
  module _ (room : ℕ) where
    pub writing_refused : (r : Refusal) → composing prefix amount time fields signature ≡ Err r → writing prefix amount time fields signature room ≡ Err r
    unfolding writing
    writing_refused r e = then_refused r _ _ e

    module _ (text : List ℕ) (made : composing prefix amount time fields signature ≡ Ok text) where
      pub writing_long : 4096 < length text → writing prefix amount time fields signature room ≡ Err (bare 30)
      unfolding writing
      writing_long h = then_accepted text _ _ made ∙ ensure_no _ _ _ (lt-leb (length text) 4096 h)

      module _ (few : length text ≤ 4096) where
        pub writing_short : room < length text → writing prefix amount time fields signature room ≡ Err (bare 12)
        unfolding writing
        writing_short h = then_accepted text _ _ made ∙ ensure_yes _ _ _ (le-leb (length text) 4096 few) ∙ fitting_short length room _ text refl h

        pub writing_fits : length text ≤ room → writing prefix amount time fields signature room ≡ Ok text
        unfolding writing
        writing_fits h = then_accepted text _ _ made ∙ ensure_yes _ _ _ (le-leb (length text) 4096 few) ∙ fitting_fits length room _ text refl h
