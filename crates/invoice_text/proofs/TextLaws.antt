-- What callers use of the definitions of a text: the last "1", an equation for each answer, and what an accepted text says. Assumes nothing.
use Rattle.std.specs.Prelude.{Ok, Err}
use mathlib.Core.Path.{◌≡◌, refl, sym, ap, ◌∙◌}
use mathlib.Core.Bool.{Bool, true, false, not, ◌&&◌, and-eq-true_iff}
use mathlib.Core.List.{List, [], ◌∷◌, ◌++◌, map}
use Prim.Native.Char.{code}
use Prim.Native.Nat.{ℕ, zero, suc, ◌+◌, ◌-◌, ◌≤◌, ◌<◌}
use native.Mathlib.Nat.{zero-add, suc-add}
use native.Mathlib.Omega.{arith}
use lib.Dec.{ltb, leb, eqb, lit≤}
use lib.ListN.{length, get_or, length-drop}
use borrow.Author.Tests.{leb-true, ltb-false, le-leb, lt-leb, lt-ltb, le-ltb, eq-eqb, ne_eqb, not-true, not-false}
use Rattle.bech32.specs.Alphabet.{groups_in}
use Rattle.bech32.specs.Checksum.{verify_checksum}
use Rattle.bech32.specs.Groups.{AreGroups}
use Rattle.letters.specs.Letters.{is_upper, is_lower, lower}
use Rattle.laws.proofs.Test.{pick_yes, pick_no, pick_all}
use Rattle.answer.specs.Answer.{mapped, refuse, bare, ensure}
use Rattle.answer.specs.declared.Refusal.{Refusal}
use Rattle.answer.proofs.Answer.{holds, fails, ensure_yes, ensure_no, ensured, both, then_accepted, then_refused, mapped_accepted}
use Rattle.invoice_text.specs.Text.{first_where, has, is_outside, is_above31, up_to_last_one, hrp_of, data_of, parting, sealing, spelling}
use Rattle.invoice_text.proofs.FirstWhere.{has_false}
use Rattle.invoice_text.proofs.GroupTest.{all_groups}

-- The last "1".

pub last_most : (t : List ℕ) → up_to_last_one t ≤ length t
unfolding up_to_last_one
last_most [] = lit≤ tt
last_most (c ∷ cs) =
    let most = last_most cs in
    pick_all (λ (n : ℕ). n ≤ suc (length cs)) (ltb 0 (up_to_last_one cs)) _ _ (λ _. omega arith)
    (λ _. pick_all (λ (n : ℕ). n ≤ suc (length cs)) (eqb c (code "1")) _ _ (λ _. omega arith) (λ _. omega arith))

-- of two texts, one behind the other: it stands in the second, or that has none
pub last_behind : (s t : List ℕ) → 0 < up_to_last_one t → up_to_last_one (s ++ t) ≡ length s + up_to_last_one t
unfolding up_to_last_one
last_behind [] t some = sym (zero-add (up_to_last_one t))
last_behind (c ∷ s) t some =
    let is = last_behind s t some in
    pick_yes _ _ _ (lt-ltb 0 (up_to_last_one (s ++ t)) (omega arith)) ∙ ap suc is ∙ sym (suc-add (length s) (up_to_last_one t))

pub last_front : (s t : List ℕ) → up_to_last_one t ≡ 0 → up_to_last_one (s ++ t) ≡ up_to_last_one s
unfolding up_to_last_one
last_front [] t none = none
last_front (c ∷ s) t none = rw (last_front s t none)

-- a text without one
pub last_none : (t : List ℕ) → ((k : ℕ) → k < length t → get_or t k 0 ≡ code "1" → ⊥) → up_to_last_one t ≡ 0
unfolding up_to_last_one
last_none [] none = refl
last_none (c ∷ cs) none =
    let rest = last_none cs (λ k h. none (suc k) (omega arith)) in
    pick_no _ _ _ (le-ltb 0 (up_to_last_one cs) (omega arith)) ∙ pick_no _ _ _ (ne_eqb c (code "1") (none 0 (omega arith)))

-- one behind which there is none
pub last_at : (t : List ℕ) (i : ℕ) → i < length t → get_or t i 0 ≡ code "1" → ((k : ℕ) → i < k → k < length t → get_or t k 0 ≡ code "1" → ⊥) →
    up_to_last_one t ≡ i + 1
unfolding up_to_last_one
last_at [] i within is none = absurd (omega arith)
last_at (c ∷ cs) zero within is none =
    let rest = last_none cs (λ k h. none (suc k) (omega arith) (omega arith)) in
    pick_no _ _ _ (le-ltb 0 (up_to_last_one cs) (omega arith)) ∙ pick_yes _ _ _ (eq-eqb c (code "1") is)
last_at (c ∷ cs) (suc i) within is none =
    let rest = last_at cs i (omega arith) is (λ k more h. none (suc k) (omega arith) (omega arith)) in
    pick_yes _ _ _ (lt-ltb 0 (up_to_last_one cs) (omega arith)) ∙ omega (arith, rest)

-- The questions 30 to 33.

module _ (t : List ℕ) where
  pub parting_long : 4096 < length t → parting t ≡ Err (bare 30)
  unfolding parting
  parting_long h = ensure_no _ _ _ (lt-leb (length t) 4096 h)

  module _ (short : length t ≤ 4096) where
    first : leb (length t) 4096 ≡ true
    first = le-leb (length t) 4096 short

    pub parting_outside : has is_outside t ≡ true → parting t ≡ Err (refuse 31 (first_where is_outside t) 0)
    unfolding parting
    parting_outside h = ensure_yes _ _ _ first ∙ ensure_no _ _ _ (ap not h)

    module _ (inside : has is_outside t ≡ false) where
      pub parting_cases : (has is_upper t && has is_lower t) ≡ true → parting t ≡ Err (bare 32)
      unfolding parting
      parting_cases h = ensure_yes _ _ _ first ∙ ensure_yes _ _ _ (ap not inside) ∙ ensure_no _ _ _ (ap not h)

      module _ (one_case : (has is_upper t && has is_lower t) ≡ false) where
        pub parting_none : up_to_last_one t < 2 → parting t ≡ Err (bare 33)
        unfolding parting
        parting_none h =
            ensure_yes _ _ _ first ∙ ensure_yes _ _ _ (ap not inside) ∙ ensure_yes _ _ _ (ap not one_case)
            ∙ ensure_no _ _ _ (lt-leb 2 (up_to_last_one t) h)

        module _ (some : 2 ≤ up_to_last_one t) where
          pub parting_short : length t - up_to_last_one t < 117 → parting t ≡ Err (bare 33)
          unfolding parting
          parting_short h =
              ensure_yes _ _ _ first ∙ ensure_yes _ _ _ (ap not inside) ∙ ensure_yes _ _ _ (ap not one_case)
              ∙ ensure_yes _ _ _ (le-leb 2 (up_to_last_one t) some)
              ∙ fails _ _ (lt-leb 117 (length (data_of t)) (omega (arith, length-drop (up_to_last_one t) t)))

          pub parting_right : 117 ≤ length t - up_to_last_one t → parting t ≡ Ok tt
          unfolding parting
          parting_right h =
              ensure_yes _ _ _ first ∙ ensure_yes _ _ _ (ap not inside) ∙ ensure_yes _ _ _ (ap not one_case)
              ∙ ensure_yes _ _ _ (le-leb 2 (up_to_last_one t) some)
              ∙ holds _ _ (le-leb 117 (length (data_of t)) (omega (arith, length-drop (up_to_last_one t) t)))

-- The questions 34 and 35.

module _ (begin : ℕ) (hrp groups : List ℕ) where
  pub sealing_above : has is_above31 groups ≡ true → sealing begin hrp groups ≡ Err (refuse 34 (begin + first_where is_above31 groups) 0)
  unfolding sealing
  sealing_above h = ensure_no _ _ _ (ap not h)

  module _ (none : has is_above31 groups ≡ false) where
    pub sealing_wrong : verify_checksum (map lower hrp) groups ≡ false → sealing begin hrp groups ≡ Err (bare 35)
    unfolding sealing
    sealing_wrong h = ensure_yes _ _ _ (ap not none) ∙ fails _ _ h

    pub sealing_right : verify_checksum (map lower hrp) groups ≡ true → sealing begin hrp groups ≡ Ok tt
    unfolding sealing
    sealing_right h = ensure_yes _ _ _ (ap not none) ∙ holds _ _ h

-- Both, one behind the other.

module _ (t : List ℕ) where
  pub spelling_refused : (r : Refusal) → parting t ≡ Err r → spelling t ≡ Err r
  unfolding spelling
  spelling_refused r h = then_refused r _ _ h

  pub spelling_parted : parting t ≡ Ok tt → spelling t ≡ sealing (up_to_last_one t) (hrp_of t) (groups_in (data_of t))
  unfolding spelling
  spelling_parted h = then_accepted tt _ _ h

-- What an accepted text says.

-- a test by itself held where its answer is accepted
held : (c : Bool) (r : Refusal) → ensure c r ≡ Ok tt → c ≡ true
unfolding ensure
held true r h = refl
held false r h = absurd (let z : ◌≡◌ {A = ℕ} 0 1 = cc in omega arith)

-- a byte that is not outside
inside_range : (c : ℕ) → is_outside c ≡ false → (33 ≤ c) × (c ≤ 126)
inside_range c h =
    let both = (and-eq-true_iff (leb 33 c) (leb c 126)).0 (not-false _ h) in
    (leb-true 33 c both.0, leb-true c 126 both.1)

-- a text in two parts
pub record Parted (t : List ℕ) : Type 0 where
  pub short : length t ≤ 4096
  pub inside : (k : ℕ) → k < length t → (33 ≤ get_or t k 0) × (get_or t k 0 ≤ 126)
  pub one_case : (has is_upper t && has is_lower t) ≡ false
  pub separator : 2 ≤ up_to_last_one t
  pub enough : up_to_last_one t + 117 ≤ length t

pub accepted_parted : (t : List ℕ) → parting t ≡ Ok tt → Parted t
unfolding parting
accepted_parted t h =
    let a = ensured _ _ _ tt h in
    let b = ensured _ _ _ tt a.rest in
    let c = ensured _ _ _ tt b.rest in
    let d = ensured _ _ _ tt c.rest in
    record {
      short = leb-true (length t) 4096 a.holds;
      inside = λ k within. inside_range (get_or t k 0) (has_false is_outside t 0 (not-true _ b.holds) k within);
      one_case = not-true _ c.holds;
      separator = leb-true 2 (up_to_last_one t) d.holds;
      enough = omega (arith, leb-true 117 (length (data_of t)) (held _ _ d.rest), length-drop (up_to_last_one t) t);
    }

-- the same from an answer of `parted`
pub parted_begin : (t : List ℕ) (n : ℕ) → mapped (λ _. up_to_last_one t) (parting t) ≡ Ok n →
    (parting t ≡ Ok tt) × (n ≡ up_to_last_one t) × Parted t
parted_begin t n h =
    let is = mapped_accepted (λ _. up_to_last_one t) (parting t) n h in
    (is.1, sym is.2, accepted_parted t is.1)

-- groups that stand for characters of the alphabet, with the right checksum
pub record Sealed (hrp groups : List ℕ) : Type 0 where
  pub are : AreGroups groups
  pub checked : verify_checksum (map lower hrp) groups ≡ true

pub accepted_sealed : (begin : ℕ) (hrp groups : List ℕ) → sealing begin hrp groups ≡ Ok tt → Sealed hrp groups
unfolding sealing
accepted_sealed begin hrp groups h =
    let a = ensured _ _ _ tt h in
    record {
      are = all_groups groups (ltb-false (first_where is_above31 groups) (length groups) (not-true _ a.holds));
      checked = held _ _ a.rest;
    }

-- the whole text
pub record Spelled (t : List ℕ) : Type 0 where
  pub parts : Parted t
  pub seal : Sealed (hrp_of t) (groups_in (data_of t))

pub accepted_spelled : (t : List ℕ) → spelling t ≡ Ok tt → Spelled t
unfolding spelling
accepted_spelled t h =
    let a = both _ _ tt h in
    record { parts = accepted_parted t a.first; seal = accepted_sealed (up_to_last_one t) (hrp_of t) (groups_in (data_of t)) a.second }
