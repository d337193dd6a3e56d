-- Sums in two halves are exact, and so are a thousandth and the digits: document 02 (iv). Assumes nothing.
use Rattle.std.specs.Prelude.{Some, None}
use Rattle.std.proofs.Common.{◌≡◌, ℕ, zero, suc, ◌+◌, ◌-◌, ◌*◌, ◌/◌, ◌%◌, ◌^◌, ◌<◌, List, [], ◌∷◌, ◌++◌, refl, ap, ◌∙◌, lt_of_le_of_lt, add-zero, add_assoc, div-add-mod', zero-add, div-le_self, arith}
use native.Mathlib.Nat.{add-sub_cancel_left}
use Rattle.laws.proofs.Test.{pick_all, by_order}
use Rattle.halves.specs.Exact.{summed, total, spelled}
use Rattle.halves.specs.Halves.{value, halves, thousandths, thousandth_in, digits, decimal}
use Rattle.halves.specs.declared.Halves.{Halves}
use Rattle.halves.proofs.DigitLaws.{few_digits, quotient_fits}
use Rattle.halves.proofs.Laws.{value_halves, halves_add, thousandths_whole, thousandths_not}

-- Numbers added one after the other give the halves of their total.
pub summed_halves : (n : ℕ) (xs : List ℕ) → summed (halves n) xs ≡ halves (n + total xs)
unfolding summed total
summed_halves n [] = rw add-zero
summed_halves n (x ∷ xs) = ap (λ (h : Halves). summed h xs) (halves_add n x) ∙ summed_halves (n + x) xs ∙ rw add_assoc

-- From 0 on a sum is exactly the total, where that is below 2^128.
pub exact_sum : (xs : List ℕ) → total xs < 2 ^ 128 → value (summed (halves 0) xs) ≡ total xs
exact_sum xs h = ap value (summed_halves 0 xs ∙ ap halves (zero-add (total xs))) ∙ value_halves (total xs) h

-- with a rest or without
by_rest : {G : Type 0} (n : ℕ) → (n % 1000 ≡ 0 → G) → ((n % 1000 ≡ 0 → ⊥) → G) → G
by_rest n f g = by_order (n % 1000) 1 (λ h. f (omega arith)) (λ h. g (λ e. omega arith))

-- A thousandth that is given is exact: a thousand times it is the sum.
pub exact_thousandth : (n : ℕ) (h : Halves) → n < 2 ^ 128 → thousandth_in (thousandths n) ≡ Some h → value h * 1000 ≡ n
exact_thousandth n h fits e =
    by_rest n
    (λ whole.
    let is : halves (n / 1000) ≡ h = cc (ap thousandth_in (thousandths_whole n whole)) in
    let below : n / 1000 < 2 ^ 128 = lt_of_le_of_lt (div-le_self n 1000) fits in
    rw (← is, value_halves (n / 1000) below) (omega (arith, div-add-mod' n 1000)))
    (λ other. absurd (let k = ap thousandth_in (thousandths_not n other) in cc))

-- None is given only where there is none.
pub no_thousandth : (n : ℕ) → thousandth_in (thousandths n) ≡ None → n % 1000 ≡ 0 → ⊥
no_thousandth n e whole = let k = ap thousandth_in (thousandths_whole n whole) in cc

-- Digits in two parts.
spelled_append : (before : ℕ) (a b : List ℕ) → spelled before (a ++ b) ≡ spelled (spelled before a) b
unfolding spelled
spelled_append before [] b = refl
spelled_append before (c ∷ a) b = spelled_append (before * 10 + (c - 48)) a b

spelled_one : (before d : ℕ) → spelled before ((48 + d) ∷ []) ≡ before * 10 + d
unfolding spelled
spelled_one before d = rw (add-sub_cancel_left 48 d)

digits_spell : (most n : ℕ) → n < 10 ^ most → spelled 0 (digits most n) ≡ n
unfolding digits spelled
digits_spell zero n h = omega arith
digits_spell (suc most) n h =
    pick_all (λ ds. spelled 0 ds ≡ n) _ _ _
    (λ _. spelled_one 0 n ∙ zero-add n)
    (λ _. spelled_append 0 (digits most (n / 10)) _ ∙ spelled_one _ (n % 10) ∙ rw (digits_spell most (n / 10) (quotient_fits most n h)) (div-add-mod' n 10))

-- The digits of a sum spell it.
pub exact_digits : (n : ℕ) → n < 2 ^ 128 → spelled 0 (decimal n) ≡ n
exact_digits n h = digits_spell 39 n (few_digits h)
