-- The table of prefixes: a prefix by its number, and a number by its prefix. Assumes nothing.
use Rattle.std.specs.Prelude.{Ok, Err}
use mathlib.Core.Bool.{and-false, and-eq-true_iff}
use mathlib.Core.List.{List, []}
use mathlib.Core.Path.{◌≡◌, refl, sym, ap, ◌∙◌, subst}
use Prim.Native.Nat.{ℕ, suc, ◌-◌, ◌≤◌, ◌<◌}
use native.Mathlib.Omega.{arith}
use lib.Dec.{leb}
use lib.ListN.{length, get_or}
use borrow.Author.Tests.{leb-true, le-leb, lt-leb, lt-ltb, le-ltb}
use Rattle.laws.proofs.Test.{by_order}
use Rattle.answer.specs.Answer.{bare}
use Rattle.answer.proofs.Answer.{ensure_yes, ensure_no, ensured}
use Rattle.invoice_text.specs.Text.{first_where}
use Rattle.invoice.specs.Edition.{same, prefixes, prefix_number, prefixed}

module _ (n : ℕ) where
  pub prefixed_some : 1 ≤ n → n ≤ length prefixes → prefixed n ≡ Ok (get_or prefixes (n - 1) [])
  unfolding prefixed
  prefixed_some low high = ensure_yes _ _ _ (rw (le-leb 1 n low, le-leb n (length prefixes) high) refl)

  pub prefixed_zero : n < 1 → prefixed n ≡ Err (bare 36)
  unfolding prefixed
  prefixed_zero low = ensure_no _ _ _ (rw (lt-leb 1 n low) refl)

  pub prefixed_over : length prefixes < n → prefixed n ≡ Err (bare 36)
  unfolding prefixed
  prefixed_over high = ensure_no _ _ _ (rw (lt-leb n (length prefixes) high) (and-false (leb 1 n)))

  -- a number that is not refused is one of the table
  pub prefixed_is : (name : List ℕ) → prefixed n ≡ Ok name → (1 ≤ n) × (n ≤ length prefixes) × (name ≡ get_or prefixes (n - 1) [])
  unfolding prefixed
  prefixed_is name e =
      let a = ensured _ _ _ name e in
      let b = (and-eq-true_iff (leb 1 n) (leb n (length prefixes))).0 a.holds in
      let is : get_or prefixes (n - 1) [] ≡ name = cc a.rest in
      (leb-true 1 n b.0, leb-true n (length prefixes) b.1, sym is)

-- what holds of each number of the table
pub by_prefix : (Q : ℕ → Type 0) (n : ℕ) (name : List ℕ) → prefixed n ≡ Ok name → Q 1 → Q 2 → Q n
by_prefix Q n name e one two =
    let p = prefixed_is n name e in
    by_order n 2 (λ h. subst Q (let is : 1 ≡ n = omega (arith, p.0) in is) one) λ h.
    subst Q (let is : 2 ≡ n = omega (arith, p.1) in is) two

-- The number of a text, by the place in the table where it stands.
module _ (text : List ℕ) (k : ℕ) (is : first_where (same text) prefixes ≡ k) where
  pub number_some : k < length prefixes → prefix_number text ≡ Ok (suc k)
  unfolding prefix_number
  number_some h = ensure_yes _ _ _ (rw is (lt-ltb k (length prefixes) h)) ∙ ap (λ (n : ℕ). Ok (suc n)) is

  pub number_none : length prefixes ≤ k → prefix_number text ≡ Err (bare 36)
  unfolding prefix_number
  number_none h = ensure_no _ _ _ (rw is (le-ltb k (length prefixes) h))
