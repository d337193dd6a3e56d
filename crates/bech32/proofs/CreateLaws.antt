-- Behind the six groups of `create_checksum` the checksum holds, and behind no other six. Assumes nothing.
use Rattle.std.proofs.Common.{◌≡◌, ℕ, zero, suc, ◌+◌, ◌*◌, ◌/◌, ◌%◌, ◌^◌, ◌<◌, ◌≤◌, true, List, [], ◌∷◌, ◌++◌, length, replicate, sym, ap, ◌∙◌, ap₂, lt_of_lt_of_le, add-zero, add_assoc, mod-eq_of_lt, mul_assoc, add-mul, zero-mul, mul-one, arith, lit<, pow_mono, pow-add, eq-eqb, eqb-true}
use native.Mathlib.Nat.{div-eq_of_lt}
use lib.Arith.{digits_lt}
use lib.Bits.{bit_xor, xor_lt, xor_mod, xor_shifted, xor_shr, xor_zero_r}
use Rattle.bech32.specs.Checksum.{generator, reduced, polymod_step, polymod_from, checksum, verify_checksum, create_checksum}
use Rattle.laws.specs.Digits.{from_digits}
use Rattle.bech32.specs.Groups.{AreGroups, number, digits}
use Rattle.bech32.proofs.ChecksumLaws.{reduced_out, step_below, checksum_append}
use Rattle.laws.proofs.Digits.{digit_more}
use Rattle.bech32.proofs.GroupLaws.{digits_groups, length_groups, number_digits, digits_number}
use Rattle.std.specs.Int.Bits.{xor_assoc}
use Rattle.bech32.proofs.XorLaws.{xor_swap, xor_twice, xor_shl}

-- The step without a value, and the value.

step_zero : (c : ℕ) → polymod_step c 0 ≡ bit_xor (c % 2 ^ 25 * 2 ^ 5) (reduced generator (c / 2 ^ 25) 0)
unfolding polymod_step
step_zero c =
    let s = c % 2 ^ 25 * 2 ^ 5 in
    reduced_out generator (c / 2 ^ 25) (bit_xor s 0) ∙ ap (λ (x : ℕ). bit_xor x (reduced generator (c / 2 ^ 25) 0)) (xor_zero_r s)

-- a value comes in by xor
step_value : (c v : ℕ) → polymod_step c v ≡ bit_xor (polymod_step c 0) v
unfolding polymod_step
step_value c v =
    let s = c % 2 ^ 25 * 2 ^ 5 in
    reduced_out generator (c / 2 ^ 25) (bit_xor s v)
    ∙ xor_swap s v (reduced generator (c / 2 ^ 25) 0)
    ∙ ap (λ (x : ℕ). bit_xor x v) (sym (step_zero c))

-- what stands in the low 25 bits of the state moves up and chooses no constant
step_low : (c n : ℕ) → n < 2 ^ 25 → polymod_step (bit_xor c n) 0 ≡ bit_xor (polymod_step c 0) (n * 2 ^ 5)
step_low c n h =
    let s = c % 2 ^ 25 * 2 ^ 5 in
    let upper : bit_xor c n / 2 ^ 25 ≡ c / 2 ^ 25 = xor_shr c n 25 ∙ ap (bit_xor (c / 2 ^ 25)) (div-eq_of_lt h) ∙ xor_zero_r (c / 2 ^ 25) in
    let lower : bit_xor c n % 2 ^ 25 * 2 ^ 5 ≡ bit_xor s (n * 2 ^ 5) =
    ap (λ (x : ℕ). x * 2 ^ 5) (xor_mod c n 25 ∙ ap (bit_xor (c % 2 ^ 25)) (mod-eq_of_lt h)) ∙ sym (xor_shl (c % 2 ^ 25) n 5) in
    step_zero (bit_xor c n)
    ∙ ap₂ (λ (l u : ℕ). bit_xor l (reduced generator u 0)) lower upper
    ∙ xor_swap s (n * 2 ^ 5) (reduced generator (c / 2 ^ 25) 0)
    ∙ ap (λ (x : ℕ). bit_xor x (n * 2 ^ 5)) (sym (step_zero c))

-- Six groups behind a state: as if they were zeros, xor their number.

polymod_low : (vs : List ℕ) (c n j : ℕ) → n < 2 ^ j → j + 5 * length vs ≤ 30 → AreGroups vs →
    polymod_from (bit_xor c n) vs ≡ bit_xor (polymod_from c (replicate (length vs) 0)) (n * 2 ^ (5 * length vs) + number vs)
unfolding polymod_from from_digits
polymod_low [] c n j h l ok = ap (bit_xor c) (sym (add-zero (n * 1) ∙ mul-one n))
polymod_low (v ∷ vs) c n j h l ok =
    let p = 2 ^ (5 * length vs) in
    let low : n < 2 ^ 25 = lt_of_lt_of_le h (pow_mono {i = j} {j = 25} (omega arith)) in
    let first : polymod_step (bit_xor c n) v ≡ bit_xor (polymod_step c 0) (n * 2 ^ 5 + v) =
    step_value (bit_xor c n) v
    ∙ ap (λ (x : ℕ). bit_xor x v) (step_low c n low)
    ∙ xor_assoc (polymod_step c 0) (n * 2 ^ 5) v
    ∙ ap (bit_xor (polymod_step c 0)) (xor_shifted n 5 v (ok 0)) in
    let grown : n * 2 ^ 5 + v < 2 ^ (j + 5) = rw pow-add (digits_lt h (ok 0)) in
    let value : (n * 2 ^ 5 + v) * p + number vs ≡ n * 2 ^ (5 * suc (length vs)) + (v * p + number vs) =
    rw (digit_more 5 (length vs), add-mul, mul_assoc, add_assoc) in
    ap (λ (x : ℕ). polymod_from x vs) first
    ∙ polymod_low vs (polymod_step c 0) (n * 2 ^ 5 + v) (j + 5) grown (omega arith) (λ k. ok (suc k))
    ∙ ap (bit_xor (polymod_from (polymod_step c 0) (replicate (length vs) 0))) value

zeros : List ℕ
zeros = replicate 6 0

polymod_six : (c : ℕ) (six : List ℕ) → length six ≡ 6 → AreGroups six → polymod_from c six ≡ bit_xor (polymod_from c zeros) (number six)
unfolding zeros
polymod_six c six e ok =
    ap (λ (x : ℕ). polymod_from x six) (sym (xor_zero_r c))
    ∙ polymod_low six c 0 0 (lit< tt) (omega arith) ok
    ∙ ap₂ (λ (n x : ℕ). bit_xor (polymod_from c (replicate n 0)) x) e (omega (arith, zero-mul (2 ^ (5 * length six))))

zeros_below : (n c : ℕ) → polymod_from (polymod_step c 0) (replicate n 0) < 2 ^ 30
unfolding polymod_from
zeros_below zero c = step_below c 0 (lit< tt)
zeros_below (suc n) c = zeros_below n (polymod_step c 0)

-- The six groups of the checksum.

module _ (h d : List ℕ) where
  -- what they spell
  spelled : ℕ
  spelled = bit_xor (polymod_from (checksum h d) zeros) 1

  created_is : create_checksum h d ≡ digits 6 spelled
  unfolding create_checksum spelled zeros
  created_is = ap (λ (x : ℕ). digits 6 (bit_xor x 1)) (checksum_append h d zeros)

  spelled_below : spelled < 2 ^ 30
  unfolding spelled zeros polymod_from
  spelled_below = xor_lt 30 (polymod_from (checksum h d) zeros) 1 (zeros_below 5 (checksum h d)) (lit< tt)

  pub length_created : length (create_checksum h d) ≡ 6
  length_created = ap length created_is ∙ length_groups 6 spelled

  pub created_groups : AreGroups (create_checksum h d)
  created_groups k = rw created_is (digits_groups 6 spelled k)

  pub created_right : verify_checksum h (d ++ create_checksum h d) ≡ true
  unfolding spelled
  created_right =
      let c = checksum h d in
      eq-eqb _ 1
      (checksum_append h d (create_checksum h d)
      ∙ polymod_six c (create_checksum h d) length_created created_groups
      ∙ ap (λ (x : List ℕ). bit_xor (polymod_from c zeros) (number x)) created_is
      ∙ ap (bit_xor (polymod_from c zeros)) (number_digits 6 spelled spelled_below)
      ∙ xor_twice (polymod_from c zeros) 1)

  pub created_only : (six : List ℕ) → length six ≡ 6 → AreGroups six → verify_checksum h (d ++ six) ≡ true → six ≡ create_checksum h d
  unfolding spelled
  created_only six e ok right =
      let c = checksum h d in
      let sum : bit_xor (polymod_from c zeros) (number six) ≡ 1 = sym (polymod_six c six e ok) ∙ sym (checksum_append h d six) ∙ eqb-true _ 1 right in
      let same : number six ≡ spelled = sym (xor_twice (polymod_from c zeros) (number six)) ∙ ap (bit_xor (polymod_from c zeros)) sum in
      sym (digits_number six ok) ∙ ap₂ digits e same ∙ sym created_is
