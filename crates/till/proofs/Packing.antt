-- Padding bits: those of the last group, where they are fewer than a group. Assumes nothing.
use borrow.Author.Tests.{ltb-true, eqb-true, lt-ltb, eq-eqb}
use mathlib.Core.Bool.{true}
use mathlib.Core.List.{List}
use mathlib.Core.Logic.{◌↔◌}
use mathlib.Core.Path.{◌≡◌, sym, ap, ◌∙◌}
use Prim.Native.Nat.{ℕ, ◌+◌, ◌*◌, ◌-◌, ◌/◌, ◌%◌, ◌^◌, ◌≤◌, ◌<◌}
use native.Mathlib.Nat.{mul_assoc, mul-add-mod_self_left, mul-add-mod_self_right, div-add-mod', one-mul}
use native.Mathlib.Omega.{arith}
use lib.Bits.{bit_and, and_mask}
use lib.Dec.{eqb, lit<}
use lib.ListN.{length, get_or, take}
use lib.Pow.{pow-add, shl_exact}
use lib.Seq.{take-length}
use Rattle.bech32.specs.Groups.{number}
use Rattle.laws.proofs.Digits.{from_turn}
use Rattle.laws.proofs.Test.{and_true, and_both}
use Rattle.till.specs.Private.{is_packed}
use Rattle.till.specs.Till.{left_over, Packed}

-- the bits left over, as the code counts them
pub left_is : (size : ℕ) → size % 8 * 5 % 8 ≡ left_over size
left_is size =
    let q = size / 8 in
    let whole : 5 * size ≡ 8 * (5 * q) + size % 8 * 5 = omega (arith, div-add-mod' size 8) in
    sym (ap (λ (n : ℕ). n % 8) whole ∙ mul-add-mod_self_left 8 (5 * q) (size % 8 * 5))

-- the low bits of groups, up to five, are those of the last one
low_bits : (s : List ℕ) (k : ℕ) → k ≤ 5 → 1 ≤ length s → number s % 2 ^ k ≡ get_or s (length s - 1) 0 % 2 ^ k
low_bits s k few some =
    let i = length s - 1 in
    let all : i + 1 ≡ length s = omega arith in
    let whole : number s ≡ number (take i s) * 2 ^ 5 + get_or s i 0 = sym (ap number (ap (λ (n : ℕ). take n s) all ∙ take-length s)) ∙ from_turn 5 s i (omega arith) in
    let wide : 2 ^ 5 ≡ 2 ^ (5 - k) * 2 ^ k = ap (λ (n : ℕ). 2 ^ n) (let e : 5 ≡ 5 - k + k = omega arith in e) ∙ pow-add 2 (5 - k) k in
    ap (λ (n : ℕ). n % 2 ^ k) (whole ∙ ap (λ (w : ℕ). number (take i s) * w + get_or s i 0) wide ∙ ap (λ (n : ℕ). n + get_or s i 0) (sym (mul_assoc (number (take i s)) (2 ^ (5 - k)) (2 ^ k))))
    ∙ mul-add-mod_self_right (number (take i s) * 2 ^ (5 - k)) (2 ^ k) (get_or s i 0)

-- so few bits shifted in a byte
pub mask : (k : ℕ) → k < 5 → 1 * 2 ^ k % 2 ^ 8 ≡ 2 ^ k
mask k h = shl_exact 1 k 8 (lit< tt) (omega arith) ∙ one-mul (2 ^ k)

-- The test, by the bits left over.
module _ (s : List ℕ) where
  abbrev left : ℕ
  left = left_over (length s)

  pub packed_last : left < 5 → 1 ≤ length s → is_packed s ≡ eqb (bit_and (get_or s (length s - 1) 0) (1 * 2 ^ left % 256 - 1)) 0
  packed_last h some =
      let last = get_or s (length s - 1) 0 in
      rw (lt-ltb left 5 h)
      (ap (λ (n : ℕ). eqb n 0) (low_bits s left (omega arith) some ∙ sym (and_mask last left) ∙ ap (λ (m : ℕ). bit_and last (m - 1)) (sym (mask left h))))

  -- it says whether the content is packed
  pub packed_test : (is_packed s ≡ true) ↔ Packed s
  packed_test = (
    (λ h. let t = and_true _ _ h in record { zero_padding = eqb-true _ _ t.1; no_spare_group = ltb-true _ _ t.0 }),
    λ p. and_both _ _ (lt-ltb left 5 p.no_spare_group) (eq-eqb _ _ p.zero_padding),
  )
