-- The steps of the checksum, one turn of each loop, and the state as a text is gone through. Assumes nothing.
use Rattle.std.proofs.Common.{◌≡◌, ℕ, zero, suc, ◌+◌, ◌-◌, ◌*◌, ◌/◌, ◌%◌, ◌^◌, ◌<◌, ◌≤◌, eqb, List, [], ◌∷◌, ◌++◌, map, length, get_or, drop, sym, refl, ap, ◌∙◌, ap₂, append_assoc, mod-lt, mod-eq_of_lt, div-one, add-one, arith, lit<, lit≤, drop_of_length-le, drop-cons, pow_pos, shl_lt, shl_exact, shr-shr}
use mathlib.Core.List.{map-map}
use lib.Bits.{bit_and, bit_xor, and_zero_r, and_mask, mask_lt, xor_lt, xor_zero_r}
use Rattle.laws.specs.Digits.{AreDigits, AreBytes}
use Rattle.letters.specs.Letters.{lower}
use Rattle.laws.specs.Test.{pick}
use Rattle.laws.proofs.Test.{pick_all}
use Rattle.bech32.specs.Checksum.{generator, high3, reduced, polymod_step, polymod_from, hrp_expand, checksum}
use Rattle.bech32.specs.Groups.{low5}
use Rattle.letters.proofs.LetterLaws.{lower_byte}
use Rattle.std.specs.Int.Bits.{xor_assoc}
use Rattle.bech32.proofs.XorLaws.{each_bit, last_bit}

-- Which constants are chosen.

pub generator_below : AreDigits 30 generator
generator_below zero = lit< tt
generator_below (suc zero) = lit< tt
generator_below (suc (suc zero)) = lit< tt
generator_below (suc (suc (suc zero))) = lit< tt
generator_below (suc (suc (suc (suc zero)))) = lit< tt
generator_below (suc (suc (suc (suc (suc k))))) = lit< tt

-- a constant or 0, by the last bit of b
abbrev pub chosen : (g b : ℕ) → ℕ
chosen g b = pick (eqb (b % 2) 1) g 0

pub chosen_below : (w g b : ℕ) → g < 2 ^ w → chosen g b < 2 ^ w
chosen_below w g b h = pick_all (λ (x : ℕ). x < 2 ^ w) (eqb (b % 2) 1) g 0 (λ e. h) (λ e. pow_pos w)

-- `g & m`, where m is 0 less the last bit of b
pub chosen_masked : (g b m : ℕ) → g < 2 ^ 32 → m < 2 ^ 32 → (m + bit_and b 1) % 2 ^ 32 ≡ 0 → bit_and g m ≡ chosen g b
unfolding pick
chosen_masked g b m hg hm e =
    each_bit (λ (x : ℕ). (m + x) % 2 ^ 32 ≡ 0 → bit_and g m ≡ pick (eqb x 1) g 0)
    (λ z. let none : m ≡ 0 = omega arith in rw none (and_zero_r g))
    (λ z. let all : m ≡ 2 ^ 32 - 1 = omega arith in rw all (and_mask g 32 ∙ mod-eq_of_lt hg))
    (b % 2) (last_bit b) (rw (and_mask b 1) at e)

pub reduced_turn : (gs : List ℕ) (i b c m : ℕ) → i < length gs → get_or gs i 0 < 2 ^ 32 → m < 2 ^ 32 → (m + bit_and (b / 2 ^ i) 1) % 2 ^ 32 ≡ 0 →
    reduced (drop (i + 1) gs) (b / 2 ^ (i + 1)) (bit_xor c (bit_and (get_or gs i 0) m)) ≡ reduced (drop i gs) (b / 2 ^ i) c
unfolding reduced
reduced_turn gs i b c m h hg hm e =
    rw (add-one, drop-cons gs i 0)
    (ap₂ (λ (n y : ℕ). reduced (drop (suc i) gs) n (bit_xor c y)) (ap (λ (n : ℕ). b / 2 ^ n) (sym (add-one i)) ∙ sym (shr-shr b i 1))
    (chosen_masked (get_or gs i 0) (b / 2 ^ i) m hg hm e))

-- what is chosen comes in by xor
pub reduced_out : (gs : List ℕ) (b c : ℕ) → reduced gs b c ≡ bit_xor c (reduced gs b 0)
unfolding reduced
reduced_out [] b c = sym (xor_zero_r c)
reduced_out (g ∷ gs) b c =
    let x = chosen g b in
    reduced_out gs (b / 2) (bit_xor c x) ∙ xor_assoc c x (reduced gs (b / 2) 0) ∙ ap (bit_xor c) (sym (reduced_out gs (b / 2) x))

-- `(c & 0x1ffffff) << 5`
pub raised : (c : ℕ) → bit_and c 0x1ffffff * 32 % 2 ^ 32 ≡ c % 2 ^ 25 * 2 ^ 5
raised c = shl_exact 25 5 32 (mask_lt c 25) (lit≤ tt) ∙ ap (λ (x : ℕ). x * 2 ^ 5) (and_mask c 25)

-- Over the values that f makes of a list.

pub polymod_turn : (f : ℕ → ℕ) (s : List ℕ) (i c : ℕ) → i < length s → polymod_from (polymod_step c (f (get_or s i 0))) (map f (drop (i + 1) s)) ≡ polymod_from c (map f (drop i s))
unfolding polymod_from
polymod_turn f s i c h = rw (add-one, drop-cons s i 0)

pub polymod_end : (f : ℕ → ℕ) (s : List ℕ) (i c : ℕ) → length s ≤ i → polymod_from c (map f (drop i s)) ≡ c
unfolding polymod_from
polymod_end f s i c h = rw (drop_of_length-le s h)

pub polymod_append : (c : ℕ) (a b : List ℕ) → polymod_from c (a ++ b) ≡ polymod_from (polymod_from c a) b
unfolding polymod_from
polymod_append c [] b = refl
polymod_append c (v ∷ a) b = polymod_append (polymod_step c v) a b

-- The state keeps within 30 bits.

pub reduced_below : (gs : List ℕ) (b c : ℕ) → AreDigits 30 gs → c < 2 ^ 30 → reduced gs b c < 2 ^ 30
unfolding reduced
reduced_below [] b c ok h = h
reduced_below (g ∷ gs) b c ok h =
    reduced_below gs (b / 2) (bit_xor c (chosen g b)) (λ k. ok (suc k)) (xor_lt 30 c (chosen g b) h (chosen_below 30 g b (ok 0)))

pub step_below : (c v : ℕ) → v < 2 ^ 30 → polymod_step c v < 2 ^ 30
unfolding polymod_step
step_below c v h =
    reduced_below generator (c / 2 ^ 25) (bit_xor (c % 2 ^ 25 * 2 ^ 5) v) generator_below
    (xor_lt 30 (c % 2 ^ 25 * 2 ^ 5) v (shl_lt 25 5 (mod-lt c (pow_pos 25))) h)

pub polymod_below : (f : ℕ → ℕ) → ((v : ℕ) → f v < 2 ^ 30) → (s : List ℕ) (c : ℕ) → c < 2 ^ 30 → polymod_from c (map f s) < 2 ^ 30
unfolding polymod_from
polymod_below f ok [] c h = h
polymod_below f ok (v ∷ s) c h = polymod_below f ok s (polymod_step c (f v)) (step_below c (f v) (ok v))

-- The checksum, part by part.

pub polymod_hrp : (h : List ℕ) → polymod_from 1 (hrp_expand h) ≡ polymod_from (polymod_step (polymod_from 1 (map high3 h)) 0) (map low5 h)
unfolding hrp_expand polymod_from
polymod_hrp h = polymod_append 1 (map high3 h) (0 ∷ map low5 h)

pub checksum_polymod : (h d : List ℕ) → checksum h d ≡ polymod_from (polymod_from 1 (hrp_expand h)) d
unfolding checksum
checksum_polymod h d = polymod_append 1 (hrp_expand h) d

-- more groups, from the checksum so far
pub checksum_append : (h d e : List ℕ) → checksum h (d ++ e) ≡ polymod_from (checksum h d) e
unfolding checksum
checksum_append h d e = ap (polymod_from 1) (sym (append_assoc (hrp_expand h) d e)) ∙ polymod_append 1 (hrp_expand h ++ d) e

-- the high bits of a byte are five bits of it too
pub high_bits : (s : List ℕ) → AreBytes s → map (λ c. lower c / 2 ^ 5 % 32) s ≡ map high3 (map lower s)
high_bits [] h = refl
high_bits (c ∷ s) h =
    let e : lower c / 32 % 32 ≡ lower c / 32 = omega (arith, lower_byte c (h 0)) in
    ap₂ {A = ℕ} {B = List ℕ} {C = List ℕ} (λ x l. x ∷ l) e (high_bits s (λ k. h (suc k)))

pub low_bits : (s : List ℕ) → map (λ c. lower c / 2 ^ 0 % 32) s ≡ map low5 (map lower s)
low_bits s = simp (div-one, map-map)
