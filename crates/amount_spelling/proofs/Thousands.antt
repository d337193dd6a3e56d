-- Three zeros and a letter at the end of an amount: the next unit spells it shorter. Assumes nothing.
use Rattle.std.specs.Prelude.{Ok}
use mathlib.Core.Bool.{false}
use mathlib.Core.List.{List, [], ◌∷◌, ◌++◌}
use mathlib.Core.Logic.{inl, inr}
use mathlib.Core.Path.{◌≡◌, refl, sym, ap, ◌∙◌}
use Prim.Native.Char.{code}
use Prim.Native.Nat.{ℕ, zero, suc, ◌+◌, ◌*◌, ◌-◌, ◌%◌, ◌≤◌, ◌<◌}
use native.Mathlib.Omega.{arith}
use lib.Arith.{digits_mod}
use lib.ListN.{length, get_or, take, length-append, length-drop, get_or-append}
use lib.Seq.{length-take-le, take_at, drop_at, get_or-take}
use Rattle.laws.specs.Test.{pick}
use Rattle.laws.proofs.Test.{by_order, pick_yes, pick_no}
use Rattle.money.specs.Amount.{is_digit, digit_count, from_decimal, capped, valued, amounting}
use Rattle.money.specs.Exact.{unit}
use Rattle.money.specs.declared.Msat.{Msat}
use Rattle.money.proofs.Accepted.{IsLetter, accepted_spelled}
use Rattle.money.proofs.AmountLaws.{capped_yes, valued_none, valued_m, valued_u, valued_n, amounting_valued}
use Rattle.money.proofs.DigitLaws.{digit_range, digit_at, digit_above, count_le, decimal_next}
use Rattle.money.proofs.Exact.{accepted_exact}
use Rattle.amount_spelling.specs.Shortest.{Shortest}
use Rattle.amount_spelling.proofs.Spellings.{number_in, letter_in}

-- Three digits behind others: their number is a thousandfold exactly where all three are 0.
module _ (s : List ℕ) (n : ℕ) (few : suc (suc (suc n)) ≤ digit_count s) where
  three_digits : from_decimal (take (suc (suc (suc n))) s)
      ≡ from_decimal (take n s) * 1000 + ((get_or s n 0 - code "0") * 100 + (get_or s (suc n) 0 - code "0") * 10 + (get_or s (suc (suc n)) 0 - code "0"))
  three_digits =
      let long = count_le s in
      omega (arith, decimal_next s n (omega arith), decimal_next s (suc n) (omega arith), decimal_next s (suc (suc n)) (omega arith))

  digit : (k : ℕ) → k < digit_count s → (code "0" ≤ get_or s k 0) × (get_or s k 0 ≤ code "9")
  digit k h = digit_range (get_or s k 0) (digit_at s k h)

  pub record Zeros : Type 0 where
    pub first : get_or s n 0 ≡ code "0"
    pub second : get_or s (suc n) 0 ≡ code "0"
    pub third : get_or s (suc (suc n)) 0 ≡ code "0"

  thousandth : Zeros → from_decimal (take (suc (suc (suc n))) s) ≡ 1000 * from_decimal (take n s)
  thousandth z = omega (arith, three_digits, z.first, z.second, z.third)

  pub zeros : from_decimal (take (suc (suc (suc n))) s) % 1000 ≡ 0 → Zeros
  zeros h =
      let a = digit n (omega arith) in
      let b = digit (suc n) (omega arith) in
      let c = digit (suc (suc n)) (omega arith) in
      let last = digits_mod (from_decimal (take n s)) {m = 1000} {r = (get_or s n 0 - 48) * 100 + (get_or s (suc n) 0 - 48) * 10 + (get_or s (suc (suc n)) 0 - 48)} (omega arith) in
      let least : (get_or s n 0 - 48) * 100 + (get_or s (suc n) 0 - 48) * 10 + (get_or s (suc (suc n)) 0 - 48) ≡ 0 = sym last ∙ sym (ap (λ (k : ℕ). k % 1000) three_digits) ∙ h in
      record { first = omega arith; second = omega arith; third = omega arith }

-- what no digit begins
abbrev Undigit : List ℕ → Type 0
Undigit [] = Unit {0}
Undigit (c ∷ cs) = is_digit c ≡ false

-- the digits of some digits and what begins with none
count_front : (s cs : List ℕ) (n : ℕ) → n ≤ digit_count s → Undigit cs → digit_count (take n s ++ cs) ≡ n
unfolding digit_count
count_front s [] zero h other = refl
count_front s (c ∷ cs) zero h other = pick_no _ _ _ other
count_front [] cs (suc n) h other = absurd (omega arith)
count_front (c ∷ s) cs (suc n) h other =
    let digit = digit_at (c ∷ s) 0 (omega arith) in
    let more : digit_count (c ∷ s) ≡ suc (digit_count s) = pick_yes _ _ _ digit in
    pick_yes _ _ _ digit ∙ ap suc (count_front s cs n (omega (arith, more)) other)

-- An accepted amount.
module _ (m : Msat) (t : List ℕ) (of-t : amounting t ≡ Ok m) where
  abbrev digits : ℕ
  digits = digit_count t

  -- a shorter spelling, of some digits and what follows them
  spelled : (n : ℕ) (cs : List ℕ) → 1 ≤ n → n ≤ digits → Undigit cs → valued (from_decimal (take n t)) cs ≡ Ok m → amounting (take n t ++ cs) ≡ Ok m
  spelled n cs some few undigit value =
      let s = accepted_spelled t m of-t in
      let count : digit_count (take n t ++ cs) ≡ n = count_front t cs n few undigit in
      let long : length (take n t) ≡ n = length-take-le n t (omega (arith, count_le t)) in
      let front : get_or (take n t ++ cs) 0 0 ≡ get_or t 0 0 = get_or-append (take n t) cs 0 0 (omega arith) ∙ get_or-take n t 0 0 some in
      amounting_valued (take n t ++ cs) (omega arith) (omega (arith, s.few)) (λ e. s.first (sym front ∙ e))
      ∙ rw (count, take_at (take n t) cs n long, drop_at (take n t) cs n long) value

  -- the value of a thousandth of the number, in the next unit
  next_value : (k n : ℕ) → n * k ≡ m.0 → capped (n * k) ≡ Ok m
  next_value k n e = rw e (capped_yes m.0 (accepted_spelled t m of-t).cap)

  abbrev Next : (n : ℕ) → Type 0
  Next n = (cs : List ℕ) × Undigit cs × (length cs ≤ 1) × (valued n cs ≡ Ok m)

  next : (n c : ℕ) → 10 * m.0 ≡ 1000 * n * unit (c ∷ []) → IsLetter c → Next n
  unfolding unit pick
  next n c tenths (inl e) = ([], tt, omega arith, valued_none n ∙ next_value 100_000_000_000 n (omega (arith, rw e at tenths)))
  next n c tenths (inr (inl e)) =
      (code "m" ∷ [], digit_above (code "m") (omega arith), omega arith, valued_m n ∙ next_value 100_000_000 n (omega (arith, rw e at tenths)))
  next n c tenths (inr (inr (inl e))) =
      (code "u" ∷ [], digit_above (code "u") (omega arith), omega arith, valued_u n ∙ next_value 100_000 n (omega (arith, rw e at tenths)))
  next n c tenths (inr (inr (inr e))) =
      (code "n" ∷ [], digit_above (code "n") (omega arith), omega arith, valued_n n ∙ next_value 100 n (omega (arith, rw e at tenths)))

  -- what follows the digits makes up the rest of the length
  pub long : length t ≡ digits + length (letter_in t)
  long = omega (arith, count_le t, length-drop digits t)

  -- With a letter and a number that divides by a thousand, the next unit spells the amount with fewer characters.
  module _ (n c : ℕ) (count : digits ≡ suc (suc (suc n))) (is : letter_in t ≡ c ∷ []) (letter : IsLetter c) (z : Zeros t n (omega arith)) where
    number : number_in t ≡ 1000 * from_decimal (take n t)
    number = ap (λ (k : ℕ). from_decimal (take k t)) count ∙ thousandth t n (omega arith) z

    more : 1 ≤ n
    more =
        let s = accepted_spelled t m of-t in
        by_order 0 n (λ h. h) λ zero. absurd (s.first (ap (λ (k : ℕ). get_or t k 0) (let e : 0 ≡ n = omega arith in e) ∙ z.first))

    pub longer : Shortest t → ⊥
    longer shortest =
        let tenths : 10 * m.0 ≡ 1000 * from_decimal (take n t) * unit (c ∷ []) = (accepted_exact t m of-t).tenfold ∙ rw (number, is) refl in
        let other = next (from_decimal (take n t)) c tenths letter in
        let less = shortest m of-t (take n t ++ other.0) (spelled n other.0 more (omega arith) other.1 other.3) in
        omega (arith, less, length-append (take n t) other.0, length-take-le n t (omega (arith, count_le t)), other.2, long, ap length is)
