-- The entries of a field, by its type and its size. Assumes nothing.
use mathlib.Core.Bool.{true, false, ◌&&◌, and-false, and-eq-true_iff}
use mathlib.Core.Path.{◌≡◌, refl, sym, ◌∙◌}
use Prim.Native.Nat.{ℕ, ◌*◌, ◌/◌, ◌%◌, ◌≤◌, ◌<◌}
use native.Mathlib.Omega.{arith}
use lib.Dec.{leb, eqb}
use borrow.Author.Tests.{leb-true, eqb-true, eq-eqb, ne_eqb}
use Rattle.field.specs.Fields.{route, whole_bytes, usable}
use Rattle.field.proofs.UsableLaws.{usable_r}
use Rattle.laws.proofs.Test.{pick_yes, pick_no, pick_all}
use Rattle.invoice_content.specs.Content.{entries_in}

module _ (kind size : ℕ) where
  pub entries_usable : kind ≡ route → usable kind size ≡ true → entries_in kind size ≡ whole_bytes size / 51
  unfolding entries_in
  entries_usable r t = pick_yes _ _ _ (rw (eq-eqb kind route r) t)

  pub entries_other : (kind ≡ route → ⊥) → entries_in kind size ≡ 0
  unfolding entries_in
  entries_other n = pick_no _ _ _ (rw (ne_eqb kind route n) refl)

  pub entries_unusable : usable kind size ≡ false → entries_in kind size ≡ 0
  unfolding entries_in
  entries_unusable t = pick_no _ _ _ (rw t (and-false (eqb kind route)))

  -- they lie in its whole bytes
  pub entries_whole : 51 * entries_in kind size ≤ whole_bytes size
  unfolding entries_in
  entries_whole =
      pick_all (λ (n : ℕ). 51 * n ≤ whole_bytes size) (eqb kind route && usable kind size) (whole_bytes size / 51) 0 (λ _. omega arith) (λ _. omega arith)

-- a usable r has an entry, and its entries are all of its whole bytes
pub entries_all : (size : ℕ) → usable route size ≡ true → (0 < entries_in route size) × (51 * entries_in route size ≡ whole_bytes size)
entries_all size t =
    let w = whole_bytes size in
    let both = (and-eq-true_iff (leb 1 w) (eqb (w % 51) 0)).0 (sym (usable_r size) ∙ t) in
    let count = entries_usable route size refl t in
    (omega (arith, leb-true 1 w both.0, eqb-true (w % 51) 0 both.1), omega (arith, eqb-true (w % 51) 0 both.1))
