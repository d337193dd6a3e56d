-- The answers of the forms, one law each, over the parameter n. Assumes nothing.
use Rattle.std.specs.Prelude.{Ok, Err}
use mathlib.Core.Bool.{true, false}
use mathlib.Core.Path.{◌≡◌, ◌∙◌}
use mathlib.Core.List.{List}
use Prim.Native.Nat.{ℕ, ◌+◌, ◌%◌, ◌≤◌, ◌<◌}
use native.Mathlib.Nat.{mod-zero}
use lib.ListN.{length, get_or}
use borrow.Author.Tests.{le-leb, lt-leb, eq-eqb, ne_eqb}
use Rattle.address.specs.Address.{is_descriptor}
use Rattle.laws.proofs.Test.{pick_no}
use Rattle.laws.specs.Test.{pick}
use Rattle.answer.specs.Answer.{refuse}
use Rattle.answer.proofs.Answer.{holds, fails, ensure_yes, ensure_no}
use Rattle.form.specs.Form.{exactly, integer, items, point, address, plain}

module _ (place kind : ℕ) (v : List ℕ) where
  pub address_yes : is_descriptor v ≡ true → address place kind v ≡ Ok tt
  unfolding address
  address_yes e = holds _ _ e

  pub address_no : is_descriptor v ≡ false → address place kind v ≡ Err (refuse 8 place kind)
  unfolding address
  address_no e = fails _ _ e

module _ (n place kind : ℕ) (v : List ℕ) where
  pub exactly_yes : length v ≡ n → exactly n place kind v ≡ Ok tt
  unfolding exactly
  exactly_yes e = holds _ _ (eq-eqb _ _ e)

  pub exactly_no : (length v ≡ n → ⊥) → exactly n place kind v ≡ Err (refuse 8 place kind)
  unfolding exactly
  exactly_no h = fails _ _ (ne_eqb _ _ h)

  pub integer_long : n < length v → integer n place kind v ≡ Err (refuse 8 place kind)
  unfolding integer
  integer_long h = ensure_no _ _ _ (lt-leb (length v) n h)

  module _ (fits : length v ≤ n) where
    pub integer_empty : length v ≡ 0 → integer n place kind v ≡ Ok tt
    unfolding integer
    integer_empty e = ensure_yes _ _ _ (le-leb (length v) n fits) ∙ holds _ _ (rw (eq-eqb _ _ e))

    pub integer_zero : (length v ≡ 0 → ⊥) → get_or v 0 0 ≡ 0 → integer n place kind v ≡ Err (refuse 9 place kind)
    unfolding integer
    integer_zero h e = ensure_yes _ _ _ (le-leb (length v) n fits) ∙ fails _ _ (rw (ne_eqb _ _ h, eq-eqb _ _ e))

    pub integer_yes : (length v ≡ 0 → ⊥) → (get_or v 0 0 ≡ 0 → ⊥) → integer n place kind v ≡ Ok tt
    unfolding integer
    integer_yes h k = ensure_yes _ _ _ (le-leb (length v) n fits) ∙ holds _ _ (rw (ne_eqb _ _ h, ne_eqb _ _ k))

  -- of items of no bytes there are none
  pub items_none : n ≡ 0 → items n place kind v ≡ exactly 0 place kind v
  unfolding items exactly
  items_none e = rw (e, mod-zero (length v))

  pub items_yes : length v % n ≡ 0 → items n place kind v ≡ Ok tt
  unfolding items
  items_yes e = holds _ _ (eq-eqb _ _ e)

  pub items_no : (length v % n ≡ 0 → ⊥) → items n place kind v ≡ Err (refuse 8 place kind)
  unfolding items
  items_no h = fails _ _ (ne_eqb _ _ h)

  pub point_long : (length v ≡ 33 + n → ⊥) → point n place kind v ≡ Err (refuse 8 place kind)
  unfolding point
  point_long h = ensure_no _ _ _ (ne_eqb _ _ h)

  module _ (fits : length v ≡ 33 + n) where
    pub point_even : get_or v 0 0 ≡ 2 → point n place kind v ≡ Ok tt
    unfolding point
    point_even e = ensure_yes _ _ _ (eq-eqb _ _ fits) ∙ holds _ _ (rw (eq-eqb _ _ e))

    pub point_odd : (get_or v 0 0 ≡ 2 → ⊥) → get_or v 0 0 ≡ 3 → point n place kind v ≡ Ok tt
    unfolding point
    point_odd h e = ensure_yes _ _ _ (eq-eqb _ _ fits) ∙ holds _ _ (rw (ne_eqb _ _ h, eq-eqb _ _ e))

    pub point_byte : (get_or v 0 0 ≡ 2 → ⊥) → (get_or v 0 0 ≡ 3 → ⊥) → point n place kind v ≡ Err (refuse 10 place kind)
    unfolding point
    point_byte h k = ensure_yes _ _ _ (eq-eqb _ _ fits) ∙ fails _ _ (rw (ne_eqb _ _ h, ne_eqb _ _ k))

  module _ (form : ℕ) where
    pub plain_1 : form ≡ 1 → plain form n place kind v ≡ exactly n place kind v
    unfolding plain pick
    plain_1 e = rw e

    pub plain_2 : form ≡ 2 → plain form n place kind v ≡ integer n place kind v
    unfolding plain pick
    plain_2 e = rw e

    pub plain_3 : form ≡ 3 → plain form n place kind v ≡ items n place kind v
    unfolding plain pick
    plain_3 e = rw e

    pub plain_4 : form ≡ 4 → plain form n place kind v ≡ point n place kind v
    unfolding plain pick
    plain_4 e = rw e

    pub plain_6 : form ≡ 6 → plain form n place kind v ≡ address place kind v
    unfolding plain pick
    plain_6 e = rw e

    pub plain_0 : (form ≡ 1 → ⊥) → (form ≡ 2 → ⊥) → (form ≡ 3 → ⊥) → (form ≡ 4 → ⊥) → (form ≡ 6 → ⊥) → plain form n place kind v ≡ Ok tt
    unfolding plain
    plain_0 not-1 not-2 not-3 not-4 not-6 =
        pick_no _ _ _ (ne_eqb _ _ not-1)
        ∙ pick_no _ _ _ (ne_eqb _ _ not-2)
        ∙ pick_no _ _ _ (ne_eqb _ _ not-3)
        ∙ pick_no _ _ _ (ne_eqb _ _ not-4)
        ∙ pick_no _ _ _ (ne_eqb _ _ not-6)
