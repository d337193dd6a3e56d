-- The number that digits spell, held in 64 bits: a digit put behind it, and one turn of a loop. Assumes nothing.
use Rattle.std.proofs.Common.{◌≡◌, ℕ, ◌+◌, ◌-◌, ◌*◌, ◌/◌, ◌%◌, ◌^◌, ◌<◌, ◌≤◌, List, map, length, get_or, take, sym, ap, ◌∙◌, ap₂, add-zero, add_assoc, add-mul, div-add-mod', mul_right_comm, arith, take_all, pow_pos}
use native.Mathlib.Nat.{mul-add-mod_self_right}
use lib.Bits.{bit_or, or_shifted}
use lib.ListN.{length-map}
use Rattle.std.proofs.lemmas.List.{get_or-map}
use lib.Pow.{mod-pow-add, high, low}
use Rattle.laws.specs.Digits.{from_digits}
use Rattle.laws.proofs.Digits.{from_turn}

-- the low j + w bits of a number with a digit of w bits behind it
low_pushed : (j w n d : ℕ) → d < 2 ^ w → (n * 2 ^ w + d) % 2 ^ (j + w) ≡ n % 2 ^ j * 2 ^ w + d
low_pushed j w n d h = mod-pow-add (n * 2 ^ w + d) j w ∙ ap₂ (λ (a b : ℕ). a % 2 ^ j * 2 ^ w + b) (high n w h) (low n w h)

-- `(n << w) | d` at 64 bits
pub pushed : (w n d : ℕ) → w ≤ 64 → d < 2 ^ w → bit_or (n * 2 ^ w % 2 ^ 64) d ≡ (n * 2 ^ w + d) % 2 ^ 64
pushed w n d h k =
    let j = 64 - w in
    let e : 64 ≡ j + w = omega arith in
    let kept : n * 2 ^ w % 2 ^ (j + w) ≡ n % 2 ^ j * 2 ^ w =
    ap (λ (x : ℕ). x % 2 ^ (j + w)) (sym (add-zero (n * 2 ^ w))) ∙ low_pushed j w n 0 (pow_pos w) ∙ add-zero (n % 2 ^ j * 2 ^ w) in
    ap (λ (x : ℕ). bit_or (n * 2 ^ w % 2 ^ x) d) e
    ∙ ap (λ (x : ℕ). bit_or x d) kept
    ∙ or_shifted (n % 2 ^ j) w d k
    ∙ sym (low_pushed j w n d k)
    ∙ ap (λ (x : ℕ). (n * 2 ^ w + d) % 2 ^ x) (sym e)

-- what was lost before does not come back
lost : (m n c d : ℕ) → (n % m * c + d) % m ≡ (n * c + d) % m
lost m n c d =
    sym
    (ap (λ (x : ℕ). (x * c + d) % m) (sym (div-add-mod' n m))
    ∙ ap (λ (x : ℕ). (x + d) % m) (add-mul (n / m * m) (n % m) c ∙ ap (λ (x : ℕ). x + n % m * c) (mul_right_comm (n / m) m c))
    ∙ ap (λ (x : ℕ). x % m) (add_assoc (n / m * c * m) (n % m * c) d)
    ∙ mul-add-mod_self_right (n / m * c) m (n % m * c + d))

-- A loop over the digits that f makes of a list: the number so far.

module _ (w : ℕ) (f : ℕ → ℕ) (s : List ℕ) where
  pub number_turn : (i n : ℕ) → i < length s → n ≡ from_digits w (take i (map f s)) % 2 ^ 64 →
      (n * 2 ^ w + f (get_or s i 0)) % 2 ^ 64 ≡ from_digits w (take (i + 1) (map f s)) % 2 ^ 64
  number_turn i n h e =
      let d = f (get_or s i 0) in
      ap (λ (x : ℕ). (x * 2 ^ w + d) % 2 ^ 64) e
      ∙ lost (2 ^ 64) (from_digits w (take i (map f s))) (2 ^ w) d
      ∙ ap (λ (x : ℕ). (from_digits w (take i (map f s)) * 2 ^ w + x) % 2 ^ 64) (sym (get_or-map f s i 0 0 h))
      ∙ ap (λ (x : ℕ). x % 2 ^ 64) (sym (from_turn w (map f s) i (omega (arith, length-map s f))))

  pub number_end : (i n : ℕ) → length s ≤ i → n ≡ from_digits w (take i (map f s)) % 2 ^ 64 → n ≡ from_digits w (map f s) % 2 ^ 64
  number_end i n h e = e ∙ ap (λ (l : List ℕ). from_digits w l % 2 ^ 64) (take_all i (map f s) (omega (arith, length-map s f)))
