-- Tables row by row: what an accepted row is, and where what is known stands. Assumes nothing.
use Rattle.std.specs.Prelude.{Ok}
use mathlib.Core.Path.{◌≡◌, ◌∙◌}
use mathlib.Core.Bool.{true, ◌&&◌, and-eq-true_iff}
use mathlib.Core.List.{List, [], ◌∷◌}
use mathlib.Core.Logic.{inl, inr}
use Prim.Native.Nat.{ℕ, suc, ◌≤◌, ◌<◌}
use native.Mathlib.Omega.{arith}
use lib.Dec.{leb, eqb, lit<}
use lib.ListN.{length}
use borrow.Author.Tests.{le-ltb, leb-true, eqb-true}
use Rattle.laws.proofs.Test.{split, by_order}
use Rattle.answer.proofs.Answer.{ensured}
use Rattle.table.specs.Table.{HasRow, allowed, not_below, rising, checking, known, lookup}
use Rattle.table.proofs.Laws.{lookup_here, lookup_other, lookup_few, known_once}

-- a run of numbers: less than a row, or a row and the run behind it
pub data Rows : List ℕ → Type 0 where
  few : (t : List ℕ) → length t < 4 → Rows t
  more : (ns k f p : ℕ) (t : List ℕ) → Rows t → Rows (ns ∷ k ∷ f ∷ p ∷ t)

pub in_rows : (t : List ℕ) → Rows t
in_rows [] = few _ (lit< tt)
in_rows (_ ∷ []) = few _ (lit< tt)
in_rows (_ ∷ _ ∷ []) = few _ (lit< tt)
in_rows (_ ∷ _ ∷ _ ∷ []) = few _ (lit< tt)
in_rows (ns ∷ k ∷ f ∷ p ∷ t) = more ns k f p t (in_rows t)

-- what comes no earlier, in numbers
pub not_below_means : (least from ns k : ℕ) → not_below least from ns k ≡ true → (least ≤ ns) × (ns ≤ least → from ≤ k)
unfolding not_below
not_below_means least from ns k h =
    by_order least ns (λ lower. (omega arith, λ no. absurd (omega arith))) λ no.
    let both = (and-eq-true_iff (eqb least ns) (leb from k)).0 (rw (le-ltb least ns no) at h) in
    let same = eqb-true least ns both.0 in
    (omega arith, λ _. leb-true from k both.1)

-- the first of some accepted rows
pub record First (least from ns k f p : ℕ) (t : List ℕ) : Type 0 where
  pub above : not_below least from ns k ≡ true
  pub good : allowed f p ≡ true
  pub rest : rising ns (suc k) t ≡ Ok tt

pub first : (least from ns k f p : ℕ) (t : List ℕ) → rising least from (ns ∷ k ∷ f ∷ p ∷ t) ≡ Ok tt → First least from ns k f p t
unfolding rising
first least from ns k f p t h =
    let a = ensured _ _ _ tt h in
    let b = ensured _ _ _ tt a.rest in
    let c = ensured _ _ _ tt b.rest in
    record { above = b.holds; good = c.holds; rest = c.rest }

module _ (namespace kind form parameter : ℕ) where
  -- less than a row has none
  pub no_row : (t : List ℕ) → length t < 4 → HasRow namespace kind form parameter t → ⊥
  unfolding HasRow
  no_row [] _ h = h
  no_row (_ ∷ []) _ h = h
  no_row (_ ∷ _ ∷ []) _ h = h
  no_row (_ ∷ _ ∷ _ ∷ []) _ h = h
  no_row (_ ∷ _ ∷ _ ∷ _ ∷ t) short h = absurd (omega arith)

  -- what is known stands in a row
  pub known_row : {t : List ℕ} → Rows t → lookup t namespace kind ≡ known form parameter → HasRow namespace kind form parameter t
  unfolding HasRow lookup
  known_row (few t h) e = absurd (let no = lookup_few t namespace kind h in let z : ◌≡◌ {A = ℕ} 0 1 = cc in omega arith)
  known_row (more ns k f p t rows) e =
      split (eqb ns namespace && eqb k kind) _ _ _ e
      (λ same here.
      let both = (and-eq-true_iff (eqb ns namespace) (eqb k kind)).0 same in
      let is = known_once here in
      inl (eqb-true ns namespace both.0, eqb-true k kind both.1, is.0, is.1))
      (λ _ later. inr (known_row rows later))

  -- one of some accepted rows
  pub record Accepted (least from : ℕ) (t : List ℕ) : Type 0 where
    pub high : least ≤ namespace
    pub above : namespace ≤ least → from ≤ kind
    pub good : allowed form parameter ≡ true
    pub once : lookup t namespace kind ≡ known form parameter

  pub accepted_row : (least from : ℕ) {t : List ℕ} → Rows t → rising least from t ≡ Ok tt → HasRow namespace kind form parameter t → Accepted least from t
  unfolding HasRow
  accepted_row least from (few t h) e here = absurd (no_row t h here)
  accepted_row least from (more ns k f p t rows) e (inl here) =
      let a = first least from ns k f p t e in
      let b = not_below_means least from ns k a.above in
      record {
        high = omega arith;
        above = λ h. omega (arith, b.1 (omega arith));
        good = rw (← here.2, ← here.3) a.good;
        once = lookup_here ns k f p t namespace kind here.0 here.1 ∙ cc;
      }
  accepted_row least from (more ns k f p t rows) e (inr later) =
      let a = first least from ns k f p t e in
      let b = not_below_means least from ns k a.above in
      let i = accepted_row ns (suc k) rows a.rest later in
      record {
        high = omega arith;
        above = λ h. omega (arith, b.1 (omega arith), i.above (omega arith));
        good = i.good;
        once = lookup_other ns k f p t namespace kind (λ n m. omega (arith, i.above (omega arith))) ∙ i.once;
      }

-- the rows of an accepted table rise
pub rising_of : (t : List ℕ) → checking t ≡ Ok tt → rising 0 0 t ≡ Ok tt
unfolding checking
rising_of t h = (ensured _ _ _ tt h).rest
