-- The groups of a number, as few as hold it. Assumes nothing.
use mathlib.Core.Path.{◌≡◌, refl, sym, ap, ◌∙◌}
use mathlib.Core.List.{List, [], ◌∷◌}
use Prim.Native.Nat.{ℕ, zero, suc, ◌+◌, ◌-◌, ◌*◌, ◌/◌, ◌%◌, ◌^◌, ◌≤◌, ◌<◌}
use native.Mathlib.Nat.{zero-add, zero-mul, suc-add, div-eq_of_lt, div-add-mod', mod-lt, lt_of_lt_of_le}
use native.Mathlib.Omega.{arith}
use lib.Dec.{eqb}
use lib.ListN.{length, get_or}
use lib.Pow.{pow_pos, pow_mono, shr-shr}
use borrow.Author.Tests.{eqb-true, eqb-false}
use Rattle.laws.specs.Digits.{from_digits, to_digits}
use Rattle.bech32.specs.Groups.{AreGroups, number, digits}
use Rattle.bech32.proofs.GroupLaws.{digits_groups, length_groups, number_below, number_digits, digits_number}
use Rattle.laws.specs.Test.{pick}
use Rattle.laws.proofs.Test.{pick_all, by_order}
use Rattle.field_writer.specs.Field.{stripped, shortest}

-- Groups without the zero groups at their front.

pub stripped_groups : (gs : List ℕ) → AreGroups gs → AreGroups (stripped gs)
unfolding stripped
stripped_groups [] h = h
stripped_groups (g ∷ gs) h =
    pick_all (λ (l : List ℕ). AreGroups l) (eqb g 0) (stripped gs) (g ∷ gs) (λ _. stripped_groups gs (λ k. h (suc k))) (λ _. h)

pub stripped_number : (gs : List ℕ) → number (stripped gs) ≡ number gs
unfolding stripped from_digits
stripped_number [] = refl
stripped_number (g ∷ gs) =
    pick_all (λ (l : List ℕ). number l ≡ number (g ∷ gs)) (eqb g 0) (stripped gs) (g ∷ gs)
    (λ e. stripped_number gs ∙ rw (eqb-true g 0 e, zero-mul, zero-add))
    (λ _. refl)

stripped_length : (gs : List ℕ) → length (stripped gs) ≤ length gs
unfolding stripped
stripped_length [] = omega arith
stripped_length (g ∷ gs) =
    pick_all (λ (l : List ℕ). length l ≤ suc (length gs)) (eqb g 0) (stripped gs) (g ∷ gs) (λ _. omega (arith, stripped_length gs)) (λ _. omega arith)

pub stripped_first : (gs : List ℕ) → get_or (stripped gs) 0 1 ≡ 0 → ⊥
unfolding stripped
stripped_first [] e = omega arith
stripped_first (g ∷ gs) e =
    pick_all (λ (l : List ℕ). get_or l 0 1 ≡ 0 → ⊥) (eqb g 0) (stripped gs) (g ∷ gs) (λ _. stripped_first gs) (λ z. eqb-false g 0 z) e

-- k groups more than hold a number are zero
above : (n m k : ℕ) → n < 2 ^ (5 * m) → stripped (digits (k + m) n) ≡ stripped (digits m n)
unfolding stripped to_digits pick
above n m zero h = rw zero-add
above n m (suc k) h =
    let zero-group : n / 2 ^ (5 * (k + m)) % 32 ≡ 0 =
    let below : n < 2 ^ (5 * (k + m)) = lt_of_lt_of_le h (pow_mono {i = 5 * m} {j = 5 * (k + m)} (omega arith)) in
    ap (λ (x : ℕ). x % 32) (div-eq_of_lt below) in
    rw (suc-add, zero-group) (above n m k h)

-- m groups that hold a number are at least as many
pub fewest : (n m : ℕ) → n < 2 ^ (5 * m) → length (shortest n) ≤ m
fewest n m h =
    by_order m 13
    (λ few.
    let k = 13 - m in
    let count : 13 ≡ k + m = omega arith in
    omega (arith, ap (λ (c : ℕ). length (stripped (digits c n))) count, ap length (above n m k h), stripped_length (digits m n), length_groups m n))
    (λ many. omega (arith, stripped_length (digits 13 n), length_groups 13 n))

pub shortest_groups : (n : ℕ) → AreGroups (shortest n)
shortest_groups n = stripped_groups (digits 13 n) (digits_groups 13 n)

module _ (n : ℕ) (fits : n < 2 ^ 64) where
  pub shortest_number : number (shortest n) ≡ n
  shortest_number = stripped_number (digits 13 n) ∙ number_digits 13 n (omega arith)

  -- the groups of that many digits
  pub shortest_digits : digits (length (shortest n)) n ≡ shortest n
  shortest_digits = ap (digits (length (shortest n))) (sym shortest_number) ∙ digits_number (shortest n) (shortest_groups n)

  pub shortest_below : n < 2 ^ (5 * length (shortest n))
  shortest_below = rw shortest_number at (number_below (shortest n) (shortest_groups n))

  -- as many groups as hold it, of which none can be left out
  pub shortest_size : (m : ℕ) → n < 2 ^ (5 * m) → ((k : ℕ) → k < m → 2 ^ (5 * k) ≤ n) → length (shortest n) ≡ m
  shortest_size m h least =
      by_order (length (shortest n)) m (λ less. absurd (omega (arith, least (length (shortest n)) less, shortest_below))) (λ more. omega (arith, fewest n m h))

-- What is left of a number above m groups.
module _ (n m rest : ℕ) (e : rest ≡ n / 2 ^ (5 * m)) where
  -- something: it needs one more
  pub more_left : (rest ≡ 0 → ⊥) → 2 ^ (5 * m) ≤ n
  more_left h = by_order n (2 ^ (5 * m)) (λ less. absurd (h (e ∙ div-eq_of_lt less))) (λ k. k)

  -- nothing: they hold it
  pub none_left : rest ≡ 0 → n < 2 ^ (5 * m)
  none_left z =
      let d = 2 ^ (5 * m) in
      let quotient : n / d * d ≡ 0 = ap (λ (q : ℕ). q * d) (sym e ∙ z) ∙ zero-mul d in
      omega (arith, div-add-mod' n d, quotient, mod-lt n (pow_pos (5 * m)))

  pub left_turn : rest / 32 ≡ n / 2 ^ (5 * (m + 1))
  left_turn =
      let five : 5 * m + 5 ≡ 5 * (m + 1) = omega arith in
      ap (λ (x : ℕ). x / 32) e ∙ shr-shr n (5 * m) 5 ∙ ap (λ (k : ℕ). n / 2 ^ k) five
