-- Two spellings of one amount: the one with the larger unit has fewer digits. Assumes nothing.
use Rattle.std.specs.Prelude.{Ok}
use mathlib.Core.List.{List, [], ◌∷◌}
use mathlib.Core.Logic.{inl, inr}
use mathlib.Core.Path.{◌≡◌, refl, sym, ap, ◌∙◌}
use Prim.Native.Char.{code}
use Prim.Native.Nat.{ℕ, suc, ◌+◌, ◌*◌, ◌-◌, ◌/◌, ◌%◌, ◌^◌, ◌≤◌, ◌<◌}
use native.Mathlib.Nat.{mul_assoc, mul_comm, eq_of_mul-eq-mul_right, le-mul_of_pos_right, mul-le-mul_right, mul-mod_right, pow-succ', pow-le-pow_right}
use native.Mathlib.Omega.{arith}
use lib.Dec.{lit<}
use lib.ListN.{length, get_or, take, drop, length-drop}
use lib.Pow.{pow-add}
use lib.Seq.{length-take-le}
use Rattle.laws.specs.Test.{pick}
use Rattle.laws.proofs.Test.{by_order}
use Rattle.money.specs.Amount.{digit_count, from_decimal, amounting}
use Rattle.money.specs.Exact.{unit}
use Rattle.money.specs.declared.Msat.{Msat}
use Rattle.money.proofs.Accepted.{Letter, none, one, accepted_letter, accepted_spelled}
use Rattle.money.proofs.DigitLaws.{digit_at, digit_range, count_le, decimal_below}
use Rattle.money.proofs.Exact.{accepted_exact}

-- the number of a spelling, and what follows it
abbrev pub number_in : (text : List ℕ) → ℕ
number_in t = from_decimal (take (digit_count t) t)

abbrev pub letter_in : (text : List ℕ) → List ℕ
letter_in t = drop (digit_count t) t

-- What follows a number counts by a power of a thousand, in tenths of a millisatoshi; only the largest, bitcoin, has no letter.
pub record Scale (cs : List ℕ) : Type 0 where
  pub power : ℕ
  pub is : unit cs ≡ 1000 ^ power
  pub most : power ≤ 4
  pub letters : length cs ≡ 1 - power / 4

pub scale : (cs : List ℕ) → Letter cs → Scale cs
unfolding unit pick
scale cs (none e) = rw e (record { power = 4; is = refl; most = omega arith; letters = refl })
scale cs (one c e (inl m)) = rw (e, m) (record { power = 3; is = refl; most = omega arith; letters = refl })
scale cs (one c e (inr (inl u))) = rw (e, u) (record { power = 2; is = refl; most = omega arith; letters = refl })
scale cs (one c e (inr (inr (inl n)))) = rw (e, n) (record { power = 1; is = refl; most = omega arith; letters = refl })
scale cs (one c e (inr (inr (inr p)))) = rw (e, p) (record { power = 0; is = refl; most = omega arith; letters = refl })

-- the number of some digits without a leading zero is no smaller than one of as many with only its first digit above 0
decimal_least : (s : List ℕ) (n : ℕ) → n < digit_count s → (get_or s 0 0 ≡ code "0" → ⊥) → 10 ^ n ≤ from_decimal (take (suc n) s)
unfolding from_decimal
decimal_least [] n h first = absurd (omega (arith, count_le []))
decimal_least (c ∷ s) n h first =
    let range = digit_range c (digit_at (c ∷ s) 0 (omega arith)) in
    let some : 1 ≤ c - 48 = by_order 48 c (λ above. omega arith) λ zero. absurd (first (omega arith)) in
    rw (length-take-le n s (omega (arith, count_le (c ∷ s))))
    (omega (arith, mul-le-mul_right (10 ^ n) some))

-- so a smaller number has no more digits
fewer_digits : (s t : List ℕ) → (get_or t 0 0 ≡ code "0" → ⊥) → number_in t ≤ number_in s → digit_count t ≤ digit_count s
fewer_digits s t first less =
    by_order (digit_count s) (digit_count t)
    (λ more.
    let n = digit_count t - 1 in
    let all : suc n ≡ digit_count t = omega arith in
    let least : 10 ^ n ≤ number_in t = rw all at (decimal_least t n (omega arith) first) in
    absurd (omega (arith, least, decimal_below s (digit_count s) (omega arith), pow-le-pow_right {n = 10} (lit< tt) {i = digit_count s} {j = n} (omega arith))))
    (λ h. h)

-- the larger of two units in the smaller one, by their powers
power_over : (a b : ℕ) → b ≤ a → 1000 ^ a ≡ 1000 ^ (a - b) * 1000 ^ b
power_over a b h =
    let e : a ≡ (a - b) + b = omega arith in
    ap (λ (n : ℕ). 1000 ^ n) e ∙ pow-add 1000 (a - b) b

power_some : (a : ℕ) → 1 ≤ 1000 ^ a
power_some a = pow-le-pow_right {n = 1000} (lit< tt) {i = 0} {j = a} (omega arith)

-- a number in units of one power, counted by a smaller one
recounted : (n k a b : ℕ) → b ≤ a → n * 1000 ^ a ≡ k * 1000 ^ b → k ≡ n * 1000 ^ (a - b)
recounted n k a b h e =
    eq_of_mul-eq-mul_right (1000 ^ b) (power_some b) k (n * 1000 ^ (a - b))
    (sym e ∙ ap (λ (x : ℕ). n * x) (power_over a b h) ∙ sym (mul_assoc n (1000 ^ (a - b)) (1000 ^ b)))

-- a larger unit leaves a multiple of a thousand of the smaller ones
thousand_more : (n j : ℕ) → n * 1000 ^ suc j % 1000 ≡ 0
thousand_more n j = rw (pow-succ', mul_comm n (1000 * 1000 ^ j), mul_assoc 1000 (1000 ^ j) n) (mul-mod_right 1000 (1000 ^ j * n))

thousandfold : (n k a b : ℕ) → b < a → n * 1000 ^ a ≡ k * 1000 ^ b → k % 1000 ≡ 0
thousandfold n k a b h e =
    let more : a - b ≡ suc (a - b - 1) = omega arith in
    ap (λ (x : ℕ). x % 1000) (recounted n k a b (omega arith) e ∙ ap (λ (x : ℕ). n * 1000 ^ x) more) ∙ thousand_more n (a - b - 1)

-- A spelling that has no letter, or whose number is no multiple of a thousand, has no more characters than any other of the same amount.
module _ (m : Msat) (t s : List ℕ) (of-t : amounting t ≡ Ok m) (of-s : amounting s ≡ Ok m) where
  abbrev power_of : (text : List ℕ) → amounting text ≡ Ok m → Scale (letter_in text)
  power_of text of = scale (letter_in text) (accepted_letter text m of)

  same_tenths : number_in s * 1000 ^ (power_of s of-s).power ≡ number_in t * 1000 ^ (power_of t of-t).power
  same_tenths =
      ap (λ (u : ℕ). number_in s * u) (sym (power_of s of-s).is)
      ∙ sym (accepted_exact s m of-s).tenfold ∙ (accepted_exact t m of-t).tenfold
      ∙ ap (λ (u : ℕ). number_in t * u) (power_of t of-t).is

  pub no_shorter : (number_in t % 1000 ≡ 0 → length (letter_in t) ≡ 0) → length t ≤ length s
  no_shorter odd =
      let a = power_of s of-s in
      let b = power_of t of-t in
      by_order b.power a.power
      (λ larger. absurd (omega (arith, odd (thousandfold (number_in s) (number_in t) a.power b.power larger same_tenths), b.letters, a.most)))
      λ smaller.
      let j = b.power - a.power in
      let is : number_in s ≡ number_in t * 1000 ^ j = recounted (number_in t) (number_in s) b.power a.power smaller (sym same_tenths) in
      let digits = fewer_digits s t (accepted_spelled t m of-t).first (rw is (le-mul_of_pos_right (number_in t) (power_some j))) in
      omega (arith, a.letters, b.letters, length-drop (digit_count s) s, length-drop (digit_count t) t, count_le s, count_le t)
