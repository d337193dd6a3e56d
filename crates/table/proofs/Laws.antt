-- What the code and the theorems use of the definitions of a table: an equation for each case. Assumes nothing.
use Rattle.std.specs.Prelude.{Err, None}
use mathlib.Core.Path.{◌≡◌, refl, ◌∙◌, ap}
use mathlib.Core.Bool.{Bool, true, false, and-false, and-eq-true_iff}
use mathlib.Core.List.{List, [], ◌∷◌}
use Prim.Native.Nat.{ℕ, zero, suc, ◌+◌, ◌*◌, ◌-◌, ◌%◌, ◌≤◌, ◌<◌}
use native.Mathlib.Numerals.{towards_suc}
use native.Mathlib.Omega.{arith}
use lib.Dec.{eqb}
use lib.ListN.{length, get_or, drop}
use lib.Seq.{drop-cons}
use borrow.Author.Tests.{lt-ltb, le-leb, lt-leb, eq-eqb, ne_eqb, eqb-true}
use Rattle.laws.proofs.Test.{pick_yes, pick_no}
use Rattle.answer.specs.Answer.{Answer, bare}
use Rattle.answer.proofs.Answer.{ensure_yes, ensure_no}
use Rattle.table.specs.Table.{allowed, not_below, rising, checking, known, lookup}
use Rattle.table.specs.declared.Known.{Known}

-- a test that cannot hold
false_unless : (b : Bool) → (b ≡ true → ⊥) → b ≡ false
false_unless true h = absurd (h refl)
false_unless false h = refl

-- The row r of a table, taken off the front.
pub row_at : (t : List ℕ) (r : ℕ) → r * 4 + 4 ≤ length t →
    drop (r * 4) t ≡ get_or t (r * 4) 0 ∷ get_or t (r * 4 + 1) 0 ∷ get_or t (r * 4 + 2) 0 ∷ get_or t (r * 4 + 3) 0 ∷ drop ((r + 1) * 4) t
row_at t r h =
    let e : (r + 1) * 4 ≡ r * 4 + 4 = omega arith in
    let at = r * 4 in
    rw e (simp towards_suc
    (rw (drop-cons t at 0 (omega arith), drop-cons t (suc at) 0 (omega arith), drop-cons t (suc (suc at)) 0 (omega arith), drop-cons t (suc (suc (suc at))) 0 (omega arith))))

-- The rows of a table, from a least row on.
module _ (namespace kind ns k f p : ℕ) (rows : List ℕ) where
  pub rising_61 : 63 < ns → rising namespace kind (ns ∷ k ∷ f ∷ p ∷ rows) ≡ Err (bare 61)
  unfolding rising
  rising_61 h = ensure_no _ _ _ (lt-leb ns 63 h)

  module _ (small : ns ≤ 63) where
    pub rising_62 : not_below namespace kind ns k ≡ false → rising namespace kind (ns ∷ k ∷ f ∷ p ∷ rows) ≡ Err (bare 62)
    unfolding rising
    rising_62 h = ensure_yes _ _ _ (le-leb ns 63 small) ∙ ensure_no _ _ _ h

    module _ (above : not_below namespace kind ns k ≡ true) where
      pub rising_63 : allowed f p ≡ false → rising namespace kind (ns ∷ k ∷ f ∷ p ∷ rows) ≡ Err (bare 63)
      unfolding rising
      rising_63 h = ensure_yes _ _ _ (le-leb ns 63 small) ∙ ensure_yes _ _ _ above ∙ ensure_no _ _ _ h

      pub rising_next : allowed f p ≡ true → rising namespace kind (ns ∷ k ∷ f ∷ p ∷ rows) ≡ rising ns (suc k) rows
      unfolding rising
      rising_next h = ensure_yes _ _ _ (le-leb ns 63 small) ∙ ensure_yes _ _ _ above ∙ ensure_yes _ _ _ h

-- A whole table.
module _ (t : List ℕ) where
  pub checking_cut : (length t % 4 ≡ 0 → ⊥) → checking t ≡ Err (bare 60)
  unfolding checking
  checking_cut h = ensure_no _ _ _ (rw (ne_eqb (length t % 4) 0 h))

  pub checking_long : 1024 < length t → checking t ≡ Err (bare 60)
  unfolding checking
  checking_long h = ensure_no _ _ _ (rw (lt-leb (length t) 1024 h) (and-false (eqb (length t % 4) 0)))

  pub checking_rows : length t % 4 ≡ 0 → length t ≤ 1024 → checking t ≡ rising 0 0 t
  unfolding checking
  checking_rows fours short = ensure_yes _ _ _ (rw (eq-eqb (length t % 4) 0 fours, le-leb (length t) 1024 short))

-- The least row that may stand at row r: at the first any, later one above the row before.
abbrev pub least_namespace : (t : List ℕ) (r : ℕ) → ℕ
least_namespace t zero = 0
least_namespace t (suc r) = get_or t (r * 4) 0

abbrev pub least_kind : (t : List ℕ) (r : ℕ) → ℕ
least_kind t zero = 0
least_kind t (suc r) = suc (get_or t (r * 4 + 1) 0)

pub least_first : (t : List ℕ) (r ns k : ℕ) → r ≤ 0 → not_below (least_namespace t r) (least_kind t r) ns k ≡ true
unfolding not_below
least_first t zero zero k h = le-leb 0 k (omega arith)
least_first t zero (suc ns) k h = rw (lt-ltb 0 (suc ns) (omega arith))
least_first t (suc r) ns k h = absurd (omega arith)

pub least_later : (t : List ℕ) (r ns k : ℕ) → 0 < r →
    not_below (least_namespace t r) (least_kind t r) ns k ≡ not_below (get_or t (r * 4 - 4) 0) (suc (get_or t (r * 4 - 3) 0)) ns k
least_later t zero ns k h = absurd (omega arith)
least_later t (suc r) ns k h =
    let a : suc r * 4 - 4 ≡ r * 4 = omega arith in
    let b : suc r * 4 - 3 ≡ r * 4 + 1 = omega arith in
    rw (a, b)

-- the rows of a table that are left at row r
abbrev pub left : (t : List ℕ) (r : ℕ) → Answer (Unit {0})
left t r = rising (least_namespace t r) (least_kind t r) (drop (r * 4) t)

-- What a table knows of a type.
module _ (ns k f p : ℕ) (rows : List ℕ) (namespace kind : ℕ) where
  pub lookup_here : ns ≡ namespace → k ≡ kind → lookup (ns ∷ k ∷ f ∷ p ∷ rows) namespace kind ≡ known f p
  unfolding lookup
  lookup_here a b = pick_yes _ _ _ (rw (eq-eqb ns namespace a, eq-eqb k kind b))

  pub lookup_other : (ns ≡ namespace → k ≡ kind → ⊥) → lookup (ns ∷ k ∷ f ∷ p ∷ rows) namespace kind ≡ lookup rows namespace kind
  unfolding lookup
  lookup_other h =
      pick_no _ _ _
      (false_unless _ λ e.
      let same = (and-eq-true_iff (eqb ns namespace) (eqb k kind)).0 e in
      h (eqb-true ns namespace same.0) (eqb-true k kind same.1))

-- what is known is known once
pub known_once : {f g p q : ℕ} → known f p ≡ known g q → (f ≡ g) × (p ≡ q)
known_once {f = f} {g = g} {p = p} {q = q} e = let is : ◌≡◌ {A = Known} (record { form = f; parameter = p }) (record { form = g; parameter = q }) = cc in (ap (λ (x : Known). x.form) is, ap (λ (x : Known). x.parameter) is)

pub lookup_few : (t : List ℕ) (namespace kind : ℕ) → length t < 4 → lookup t namespace kind ≡ None
unfolding lookup
lookup_few [] namespace kind h = refl
lookup_few (_ ∷ []) namespace kind h = refl
lookup_few (_ ∷ _ ∷ []) namespace kind h = refl
lookup_few (_ ∷ _ ∷ _ ∷ []) namespace kind h = refl
lookup_few (_ ∷ _ ∷ _ ∷ _ ∷ rows) namespace kind h = absurd (omega arith)
