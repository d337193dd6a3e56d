-- How many fields of a type the rules speak of, and how many of these are not clean. Assumes nothing.
use borrow.Author.Tests.{eqb-true, eqb-false, ne_eqb}
use mathlib.Core.Bool.{Bool, false, not, ◌&&◌}
use mathlib.Core.List.Memᴰ
use mathlib.Core.List.{List, [], ◌∷◌, ◌++◌, Memᴰ}
use mathlib.Core.Logic.{⊎_elim}
use mathlib.Core.Path.{◌≡◌, refl, sym, ap, ◌∙◌}
use Prim.Native.Nat.{ℕ, suc, ◌+◌, ◌≤◌, ◌<◌}
use native.Mathlib.Nat.{add-zero, add_assoc}
use native.Mathlib.Omega.{arith}
use lib.Dec.{eqb}
use lib.ListN.{length, get_or, set, replicate, length-set, length-replicate, get_or-replicate}
use lib.Seq.{get_or-set_same, get_or-set_other}
use Rattle.field.specs.Fields.{content_of}
use Rattle.field.specs.declared.Field.{Field}
use Rattle.laws.specs.Test.{pick}
use Rattle.laws.proofs.Test.{pick_yes, pick_no, pick_all, by_test}
use Rattle.till.specs.Private.{is_clean, is_unclean, Counts}
use Rattle.till.specs.Till.{is_judged, how_many}

-- no field is of another type
abbrev pub Own : (ℕ → Field → Bool) → Type 0
Own test = (kind : ℕ) (f : Field) → (f.kind ≡ kind → ⊥) → test kind f ≡ false

pub judged_own : Own is_judged
judged_own kind f other = rw (ne_eqb f.kind kind other) refl

pub unclean_own : (groups : List ℕ) → Own (is_unclean groups)
unclean_own groups kind f other = ap (λ (b : Bool). b && not (is_clean kind (content_of f groups))) (judged_own kind f other)

-- How many pass a test.
module _ {A : Type 0} (test : A → Bool) where
  pub many_none : how_many test [] ≡ 0
  unfolding how_many
  many_none = refl

  many_behind : (l : List A) (a : A) → how_many test (l ++ a ∷ []) ≡ how_many test l + pick (test a) 1 0
  unfolding how_many
  many_behind [] a = omega arith
  many_behind (x ∷ l) a = ap (λ (n : ℕ). pick (test x) 1 0 + n) (many_behind l a) ∙ sym (add_assoc (pick (test x) 1 0) (how_many test l) (pick (test a) 1 0))

  pub many_most : (l : List A) → how_many test l ≤ length l
  unfolding how_many
  many_most [] = omega arith
  many_most (x ∷ l) = pick_all (λ (n : ℕ). n + how_many test l ≤ suc (length l)) (test x) 1 0 (λ _. omega (arith, many_most l)) (λ _. omega (arith, many_most l))

  -- none exactly where each one fails it
  pub none_pass : (l : List A) → how_many test l ≡ 0 → (a : A) → Memᴰ a l → test a ≡ false
  unfolding how_many
  none_pass [] h a m = absurd (Memᴰ.not-nil m)
  none_pass (x ∷ l) h a m =
      by_test (test x)
      (λ yes. absurd (omega (arith, pick_yes {A = ℕ} (test x) 1 0 yes, h)))
      λ fails.
      ⊎_elim (λ e. ap test e ∙ fails) (λ more. none_pass l (omega (arith, pick_no {A = ℕ} (test x) 1 0 fails, h)) a more) (Memᴰ.cases_cons m)

  pub all_fail : (l : List A) → ((a : A) → Memᴰ a l → test a ≡ false) → how_many test l ≡ 0
  unfolding how_many
  all_fail [] h = refl
  all_fail (x ∷ l) h = rw (pick_no {A = ℕ} (test x) 1 0 (h x (Memᴰ.head refl))) (omega (arith, all_fail l (λ a m. h a (Memᴰ.tail m))))

-- A count for each type.
module _ (test : ℕ → Field → Bool) (own : Own test) where
  pub counts_none : Counts test [] (replicate 32 0)
  counts_none =
      record { types = length-replicate {A = ℕ} 32 0; each = λ kind h. get_or-replicate {A = ℕ} 32 kind 0 0 h ∙ sym (many_none (test kind)) }

  -- with one more field
  module _ (fields : List Field) (counts : List ℕ) (h : Counts test fields counts) (f : Field) (is : f.kind < 32) where
    abbrev more : List ℕ
    more = set counts f.kind (get_or counts f.kind 0 + pick (test f.kind f) 1 0)

    next : (kind : ℕ) → kind < 32 → get_or more kind 0 ≡ how_many (test kind) (fields ++ f ∷ [])
    next kind low =
        by_test (eqb kind f.kind)
        (λ same.
        rw (eqb-true kind f.kind same)
        (get_or-set_same counts f.kind _ 0 (omega (arith, h.types))
        ∙ ap (λ (n : ℕ). n + pick (test f.kind f) 1 0) (h.each f.kind is)
        ∙ sym (many_behind (test f.kind) fields f)))
        λ differs.
        let other = eqb-false kind f.kind differs in
        get_or-set_other counts f.kind kind _ 0 other
        ∙ h.each kind low
        ∙ sym (many_behind (test kind) fields f ∙ rw (pick_no {A = ℕ} (test kind f) 1 0 (own kind f (λ e. other (sym e)))) (add-zero (how_many (test kind) fields)))

    pub counts_next : Counts test (fields ++ f ∷ []) more
    counts_next = record { types = length-set counts f.kind _ ∙ h.types; each = next }

    -- it is no larger than the number of fields
    pub counts_most : get_or counts f.kind 0 ≤ length fields
    counts_most = omega (arith, h.each f.kind is, many_most (test f.kind) fields)
