-- Laws of numbers as digits of w bits each, over the width. Assumes nothing.
use mathlib.Core.Path.{◌≡◌, refl, sym, ap, ◌∙◌}
use mathlib.Core.List.{List, [], ◌∷◌, ◌++◌}
use Prim.Native.Nat.{ℕ, zero, suc, ◌+◌, ◌*◌, ◌/◌, ◌%◌, ◌^◌, ◌≤◌, ◌<◌}
use native.Mathlib.Nat.{add-zero, zero-add, suc-add, add_comm, add_assoc, add-mul, mul-add, mul-zero, mul-suc, mul-one, mul_assoc, div-one, mod-one, mod-lt, mod-eq_of_lt, mul-add-div_right, mul-add-mod_self_right}
use native.Mathlib.Numerals.{add-one}
use native.Mathlib.Omega.{arith}
use lib.Arith.{digits_lt}
use lib.ListN.{length, get_or, take, drop, length-append}
use lib.Pow.{pow_pos, pow-add, mod-pow-add, high, shr-shr}
use lib.Seq.{sets, drop-cons, get_or-drop, take-suc}
use Rattle.laws.specs.Digits.{AreDigits, from_digits, to_digits}
use Rattle.laws.proofs.Lists.{sets_append, length_part, part_add}

module _ (w : ℕ) where
  -- one digit more
  pub digit_more : (n : ℕ) → 2 ^ (w * suc n) ≡ 2 ^ w * 2 ^ (w * n)
  digit_more n = rw (mul-suc, add_comm (w * n) w, pow-add)

  -- The digits of a number.

  pub length_digits : (n v : ℕ) → length (to_digits w n v) ≡ n
  unfolding to_digits
  length_digits zero v = refl
  length_digits (suc n) v = ap suc (length_digits n v)

  pub digits_are : (n v : ℕ) → AreDigits w (to_digits w n v)
  unfolding to_digits
  digits_are zero v k = pow_pos w
  digits_are (suc n) v zero = mod-lt (v / 2 ^ (w * n)) (pow_pos w)
  digits_are (suc n) v (suc k) = digits_are n v k

  -- what stands above the last n digits does not show in them
  digits_low : (n a v : ℕ) → to_digits w n (a * 2 ^ (w * n) + v) ≡ to_digits w n v
  unfolding to_digits
  digits_low zero a v = refl
  digits_low (suc n) a v =
      rw (digit_more n, ← mul_assoc a (2 ^ w) (2 ^ (w * n)), mul-add-div_right (pow_pos (w * n)) (a * 2 ^ w) v, mul-add-mod_self_right a (2 ^ w) (v / 2 ^ (w * n)), digits_low n (a * 2 ^ w) v)

  pub to_append : (m n v : ℕ) → to_digits w (m + n) v ≡ to_digits w m (v / 2 ^ (w * n)) ++ to_digits w n v
  unfolding to_digits
  to_append zero n v = rw zero-add
  to_append (suc m) n v = rw (suc-add, to_digits, mul-add, add_comm (w * m) (w * n), shr-shr, to_append m n v)

  -- the last digit alone
  pub to_one : (v : ℕ) → to_digits w 1 v ≡ v % 2 ^ w ∷ []
  unfolding to_digits
  to_one v = rw (mul-zero, div-one)

  -- and behind the others
  pub to_last : (n v : ℕ) → to_digits w (suc n) v ≡ to_digits w n (v / 2 ^ w) ++ v % 2 ^ w ∷ []
  to_last n v = rw (← add-one n, to_append n 1 v, mul-one, to_one v)

  -- the last m + n digits stored in two runs
  pub sets_digits : (m n v at : ℕ) (l l₁ l₂ : List ℕ) → l₁ ≡ sets l at (to_digits w m (v / 2 ^ (w * n))) → l₂ ≡ sets l₁ (at + m) (to_digits w n v) →
      l₂ ≡ sets l at (to_digits w (m + n) v)
  sets_digits m n v at l l₁ l₂ first second = second ∙ rw (first, to_append, sets_append, length_digits)

  -- The number of digits.

  pub from_below : (ds : List ℕ) → AreDigits w ds → from_digits w ds < 2 ^ (w * length ds)
  unfolding from_digits
  from_below [] h = pow_pos (w * 0)
  from_below (d ∷ ds) h = rw digit_more (digits_lt (h 0) (from_below ds (λ k. h (suc k))))

  pub from_append : (a b : List ℕ) → from_digits w (a ++ b) ≡ from_digits w a * 2 ^ (w * length b) + from_digits w b
  unfolding from_digits
  from_append [] b = omega arith
  from_append (x ∷ a) b = simp (from_digits, length-append a b, mul-add, pow-add, from_append a b, add-mul, mul_assoc, add_assoc)

  -- one digit
  pub from_one : (d : ℕ) → from_digits w (d ∷ []) ≡ d
  unfolding from_digits
  from_one d = rw (mul-zero, mul-one d, add-zero)

  -- the number of the digits up to a place, one more
  pub from_turn : (s : List ℕ) (i : ℕ) → i < length s → from_digits w (take (i + 1) s) ≡ from_digits w (take i s) * 2 ^ w + get_or s i 0
  from_turn s i h = rw (add-one, take-suc s i 0) (from_append (take i s) (get_or s i 0 ∷ []) ∙ rw (mul-one w, from_one (get_or s i 0)))

  -- There and back.

  pub from_to : (n v : ℕ) → from_digits w (to_digits w n v) ≡ v % 2 ^ (w * n)
  unfolding from_digits to_digits
  from_to zero v = rw mul-zero (sym (mod-one v))
  from_to (suc n) v = rw (mul-suc, add_comm (w * n) w, length_digits n v, from_to n v, to_digits, from_digits) (sym (mod-pow-add v w (w * n)))

  pub from_to_whole : (n v : ℕ) → v < 2 ^ (w * n) → from_digits w (to_digits w n v) ≡ v
  from_to_whole n v h = from_to n v ∙ mod-eq_of_lt h

  pub to_from : (ds : List ℕ) → AreDigits w ds → to_digits w (length ds) (from_digits w ds) ≡ ds
  unfolding to_digits from_digits
  to_from [] h = refl
  to_from (d ∷ ds) h =
      let below : from_digits w ds < 2 ^ (w * length ds) = from_below ds (λ k. h (suc k)) in
      rw (high d (w * length ds) below, mod-eq_of_lt (h 0), digits_low (length ds) d (from_digits w ds), to_from ds (λ k. h (suc k)))

  -- The digits in a part of a list, and their number.

  pub take_digits : (n : ℕ) (s : List ℕ) → AreDigits w s → AreDigits w (take n s)
  take_digits zero s h k = pow_pos w
  take_digits (suc n) [] h k = pow_pos w
  take_digits (suc n) (d ∷ s) h zero = h 0
  take_digits (suc n) (d ∷ s) h (suc k) = take_digits n s (λ j. h (suc j)) k

  pub drop_digits : (n : ℕ) (s : List ℕ) → AreDigits w s → AreDigits w (drop n s)
  drop_digits n s h k = rw get_or-drop (h (n + k))

  pub part_digits : (s : List ℕ) (at n : ℕ) → AreDigits w s → AreDigits w (take n (drop at s))
  part_digits s at n h = take_digits n (drop at s) (drop_digits at s h)

  pub from_part_below : (s : List ℕ) (at n : ℕ) → at + n ≤ length s → AreDigits w s → from_digits w (take n (drop at s)) < 2 ^ (w * n)
  from_part_below s at n fits h = rw length_part at (from_below (take n (drop at s)) (part_digits s at n h))

  -- one digit
  pub from_part_one : (s : List ℕ) (at : ℕ) → at < length s → from_digits w (take 1 (drop at s)) ≡ get_or s at 0
  from_part_one s at h = rw (drop-cons s at 0 h) (from_one (get_or s at 0))

  -- m digits, and n behind them
  pub from_part_add : (s : List ℕ) (at m n : ℕ) → at + m + n ≤ length s →
      from_digits w (take (m + n) (drop at s)) ≡ from_digits w (take m (drop at s)) * 2 ^ (w * n) + from_digits w (take n (drop (at + m) s))
  from_part_add s at m n fits = rw (part_add, from_append, length_part)
