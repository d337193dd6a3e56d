-- Digits: by their codes, in lower case, counted at the front of a text, and their number. Assumes nothing.
use mathlib.Core.Path.{◌≡◌, refl, sym, ◌∙◌}
use mathlib.Core.Bool.{true, false}
use mathlib.Core.List.{List, [], ◌∷◌, ◌++◌, map}
use Prim.Native.Char.{code}
use Prim.Native.Nat.{ℕ, zero, suc, ◌+◌, ◌*◌, ◌-◌, ◌%◌, ◌^◌, ◌≤◌, ◌<◌}
use native.Mathlib.Nat.{add_assoc, add-mul, mul_assoc, mul-pos, pow-succ', pow-le-pow_right, lt_of_lt_of_le}
use native.Mathlib.Omega.{arith}
use lib.Arith.{digits_lt}
use lib.Dec.{lit<}
use lib.ListN.{length, get_or, take, drop, length-append, drop_of_length-le}
use lib.Pow.{pow-add}
use lib.Seq.{drop-cons, take-suc, length-take-le}
use borrow.Author.Tests.{le-leb, lt-leb}
use Rattle.letters.specs.Letters.{lower}
use Rattle.laws.proofs.Test.{pick_yes, pick_no, pick_all, split, by_order}
use Rattle.money.specs.Amount.{is_digit, digit_count, from_decimal}
use Rattle.letters.proofs.LetterLaws.{lower_before, lower_upper, lower_behind}

-- A digit by its code.

pub digit_below : (c : ℕ) → c < code "0" → is_digit c ≡ false
digit_below c h = rw (lt-leb 48 c h)

pub digit_above : (c : ℕ) → code "9" < c → is_digit c ≡ false
digit_above c h = rw (le-leb 48 c (omega arith)) (lt-leb c 57 h)

pub digit_range : (c : ℕ) → is_digit c ≡ true → (code "0" ≤ c) × (c ≤ code "9")
digit_range c d =
    by_order c 48 (λ h. absurd (let z : ◌≡◌ {A = ℕ} 0 1 = cc (digit_below c h) in omega arith)) λ low.
    by_order 57 c (λ h. absurd (let z : ◌≡◌ {A = ℕ} 0 1 = cc (digit_above c h) in omega arith)) λ high.
    (low, high)

-- Digits in lower case.

pub lower_digit : (c : ℕ) → is_digit c ≡ true → lower c ≡ c
lower_digit c d = lower_before c (omega (arith, digit_range c d))

pub digit_lower : (c : ℕ) → is_digit (lower c) ≡ is_digit c
digit_lower c =
    by_order c 65 (λ h. rw (lower_before c h)) λ low.
    by_order 90 c (λ h. rw (lower_behind c h)) λ high.
    rw (lower_upper c low high) (digit_above (c + 32) (omega arith) ∙ sym (digit_above c (omega arith)))

-- The digits at the front of a text.

module _ (s : List ℕ) (i : ℕ) where
  pub count_digit : i < length s → is_digit (get_or s i 0) ≡ true → digit_count (drop i s) ≡ suc (digit_count (drop (suc i) s))
  unfolding digit_count
  count_digit h d = rw (drop-cons s i 0 h) (pick_yes _ _ _ d)

  pub count_other : i < length s → is_digit (get_or s i 0) ≡ false → digit_count (drop i s) ≡ 0
  unfolding digit_count
  count_other h d = rw (drop-cons s i 0 h) (pick_no _ _ _ d)

  pub count_end : length s ≤ i → digit_count (drop i s) ≡ 0
  unfolding digit_count
  count_end h = rw (drop_of_length-le s {i = i} h)

pub count_le : (s : List ℕ) → digit_count s ≤ length s
unfolding digit_count
count_le [] = omega arith
count_le (c ∷ s) = pick_all (λ n. n ≤ suc (length s)) (is_digit c) _ _ (λ _. omega (arith, count_le s)) (λ _. omega arith)

-- a first character that is counted
first_digit : (c : ℕ) (s : List ℕ) → 0 < digit_count (c ∷ s) → (is_digit c ≡ true) × (digit_count (c ∷ s) ≡ suc (digit_count s))
unfolding digit_count
first_digit c s h =
    split (is_digit c) (suc (digit_count s)) 0 _ refl (λ d e. (d, sym e)) (λ _ e. absurd (omega (arith, rw (← e) at h)))

-- every counted character is a digit
pub digit_at : (s : List ℕ) (i : ℕ) → i < digit_count s → is_digit (get_or s i 0) ≡ true
digit_at [] i h = absurd (omega (arith, count_le []))
digit_at (c ∷ s) zero h = (first_digit c s h).0
digit_at (c ∷ s) (suc i) h = digit_at s i (omega (arith, (first_digit c s (omega arith)).1))

-- in lower case they are as many, and the same
pub count_lower : (s : List ℕ) → digit_count (map lower s) ≡ digit_count s
unfolding digit_count
count_lower [] = refl
count_lower (c ∷ s) = rw (digit_lower c, count_lower s)

pub digits_lower : (n : ℕ) (s : List ℕ) → n ≤ digit_count s → take n (map lower s) ≡ take n s
digits_lower zero s h = refl
digits_lower (suc n) [] h = refl
digits_lower (suc n) (c ∷ s) h =
    let f = first_digit c s (omega arith) in
    rw (lower_digit c f.0, digits_lower n s (omega arith))

pub first_lower : (s : List ℕ) → 0 < digit_count s → get_or (map lower s) 0 0 ≡ get_or s 0 0
first_lower [] h = refl
first_lower (c ∷ s) h = lower_digit c (first_digit c s h).0

-- The number of digits.

-- one digit behind others
decimal_more : (s : List ℕ) (c : ℕ) → from_decimal (s ++ c ∷ []) ≡ from_decimal s * 10 + (c - code "0")
unfolding from_decimal
decimal_more [] c = omega arith
decimal_more (d ∷ s) c = simp (from_decimal, length-append s (c ∷ []), pow-add, decimal_more s c, add-mul, mul_assoc, add_assoc)

pub decimal_next : (s : List ℕ) (i : ℕ) → i < length s → from_decimal (take (suc i) s) ≡ from_decimal (take i s) * 10 + (get_or s i 0 - code "0")
decimal_next s i h = rw (take-suc s i 0 h) (decimal_more (take i s) (get_or s i 0))

pub decimal_below : (s : List ℕ) (n : ℕ) → n ≤ digit_count s → from_decimal (take n s) < 10 ^ n
unfolding from_decimal
decimal_below s zero h = lit< tt
decimal_below [] (suc n) h = absurd (omega (arith, count_le []))
decimal_below (c ∷ s) (suc n) h =
    let f = first_digit c s (omega arith) in
    let range = digit_range c f.0 in
    rw (length-take-le n s (omega (arith, count_le s)), pow-succ')
    (digits_lt {q = c - 48} {m = 10} (omega arith) (decimal_below s n (omega arith)))

-- of m digits at most
pub decimal_few : (m : ℕ) (s : List ℕ) (n : ℕ) → n ≤ digit_count s → n ≤ m → from_decimal (take n s) < 10 ^ m
decimal_few m s n h few = lt_of_lt_of_le (decimal_below s n h) (pow-le-pow_right (lit< tt) few)

-- without a leading zero
pub decimal_above : (s : List ℕ) (n : ℕ) → 1 ≤ n → n ≤ digit_count s → (get_or s 0 0 ≡ code "0" → ⊥) → 1 ≤ from_decimal (take n s)
unfolding from_decimal
decimal_above s zero some h first = absurd (omega arith)
decimal_above [] (suc n) some h first = absurd (omega (arith, count_le []))
decimal_above (c ∷ s) (suc n) some h first =
    let range = digit_range c (first_digit c s (omega arith)).0 in
    let digit : 1 ≤ c - 48 = by_order 48 c (λ above. omega arith) λ zero. absurd (first (omega arith)) in
    omega (arith, mul-pos digit (pow-le-pow_right {n = 10} (lit< tt) (let least : 0 ≤ length (take n s) = omega arith in least)))

-- the last digit is what is left of it by ten
pub decimal_last : (s : List ℕ) (i : ℕ) → i < digit_count s → get_or s i 0 ≡ code "0" + from_decimal (take (suc i) s) % 10
decimal_last s i h =
    let range = digit_range (get_or s i 0) (digit_at s i h) in
    omega (arith, decimal_next s i (omega (arith, count_le s)))
