-- The digits of a number, from the last one on. Assumes nothing.
use Rattle.std.proofs.Common.{◌≡◌, ℕ, zero, suc, ◌+◌, ◌-◌, ◌/◌, ◌%◌, ◌^◌, ◌<◌, ◌≤◌, List, [], ◌∷◌, ◌++◌, length, take, drop, set, refl, ap, ◌∙◌, append_assoc, lt_of_lt_of_le, mod-lt, mod-eq_of_lt, div-lt_iff_lt-mul, pow-suc, div-add-mod', arith, length-append, length-take-le, take_all, drop_at, le-ltb, lt-ltb, leb-true}
use lib.Seq.{set_split}
use Rattle.laws.proofs.Test.{pick_yes, pick_no}
use Rattle.halves.specs.Halves.{digits}

module _ (most n : ℕ) where
  -- the last digit, where others stand before it
  pub digits_more : (n / 10 ≡ 0 → ⊥) → digits (suc most) n ≡ digits most (n / 10) ++ ((48 + n % 10) ∷ [])
  unfolding digits
  digits_more h = pick_no _ _ _ (le-ltb n 10 (omega (arith, div-add-mod' n 10)))

  -- the only digit
  pub digits_one : n / 10 ≡ 0 → digits (suc most) n ≡ (48 + n % 10) ∷ []
  unfolding digits
  digits_one h =
      let l : n < 10 = omega (arith, div-add-mod' n 10, mod-lt n {m = 10} (omega arith)) in
      pick_yes _ _ _ (lt-ltb n 10 l) ∙ rw (mod-eq_of_lt l)

-- a quotient has a digit less
pub quotient_fits : (most n : ℕ) → n < 10 ^ suc most → n / 10 < 10 ^ most
quotient_fits most n h = (div-lt_iff_lt-mul {k = 10} (omega arith)).1 (rw pow-suc at h)

-- a number that is not 0 has a digit
pub some_digit : (most n : ℕ) → n < 10 ^ most → (n ≡ 0 → ⊥) → 0 < most
some_digit zero n h other = absurd (other (omega arith))
some_digit (suc most) n h other = omega arith

-- One more digit is stored, in front of those that stand already.
module _ (l : List ℕ) (m n d : ℕ) (whole : List ℕ) (within : m < length l) (is : d ≡ 48 + n % 10) (so_far : digits (suc m) n ++ drop (suc m) l ≡ whole) where
  pub digit_next : (n / 10 ≡ 0 → ⊥) → digits m (n / 10) ++ drop m (set l m d) ≡ whole
  digit_next h =
      let e : drop m (set l m d) ≡ d ∷ drop (suc m) l =
      ap (drop m) (set_split l m d within) ∙ drop_at (take m l) (d ∷ drop (suc m) l) m (length-take-le m l (omega arith)) in
      rw e (rw (digits_more m n h, append_assoc, ← is) at so_far)

  pub digit_last : n / 10 ≡ 0 → set l m d ≡ take m l ++ whole
  digit_last h = set_split l m d within ∙ rw is (ap (λ (w : List ℕ). take m l ++ w) (rw (digits_one m n h) at so_far))

-- a number of 128 bits has at most 39 digits
pub few_digits : {n : ℕ} → n < 2 ^ 128 → n < 10 ^ 39
few_digits h = lt_of_lt_of_le h (leb-true (2 ^ 128) (10 ^ 39) refl)

-- A text of that size that ends with the digits w, from r on.
module _ (size : ℕ) (text before w : List ℕ) (r : ℕ) (is : text ≡ take r before ++ w) (long : length text ≡ size) (inside : r ≤ length before) where
  pub end_length : length w ≡ size - r
  end_length = omega (arith, simp length-append at (ap length is), length-take-le r before inside)

  pub end_part : take (size - r) (drop r text) ≡ w
  end_part = rw (is, drop_at (take r before) w r (length-take-le r before inside)) (take_all (size - r) w (omega (arith, end_length)))
