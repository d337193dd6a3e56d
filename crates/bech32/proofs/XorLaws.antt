-- What the library lacks of xor: it cancels, and it passes through shifts. Assumes nothing.
use Rattle.std.proofs.Common.{◌≡◌, ℕ, zero, suc, ◌*◌, ◌%◌, ◌^◌, ◌<◌, sym, ap, ◌∙◌, ap₂, le_of_suc-le-suc, not-suc-le-zero, add-zero, mod-lt, zero-lt-suc, pow_pos}
use Rattle.std.specs.Int.Bits.{xor_assoc}
use lib.Bits.{bit_xor, xor_self, xor_comm, xor_block}

-- what holds of both bits
pub each_bit : (P : ℕ → Type 0) → P 0 → P 1 → (x : ℕ) → x < 2 → P x
each_bit P p q zero h = p
each_bit P p q (suc zero) h = q
each_bit P p q (suc (suc x)) h = absurd (not-suc-le-zero (le_of_suc-le-suc (le_of_suc-le-suc h)))

pub last_bit : (n : ℕ) → n % 2 < 2
last_bit n = mod-lt n (zero-lt-suc 1)

-- what comes in last may come in before
pub xor_swap : (a b c : ℕ) → bit_xor (bit_xor a b) c ≡ bit_xor (bit_xor a c) b
xor_swap a b c = xor_assoc a b c ∙ ap (bit_xor a) (xor_comm b c) ∙ sym (xor_assoc a c b)

-- the same twice cancels
pub xor_twice : (a b : ℕ) → bit_xor a (bit_xor a b) ≡ b
xor_twice a b = sym (xor_assoc a a b) ∙ ap (λ (x : ℕ). bit_xor x b) (xor_self a)

pub xor_shl : (a b k : ℕ) → bit_xor (a * 2 ^ k) (b * 2 ^ k) ≡ bit_xor a b * 2 ^ k
xor_shl a b k =
    ap₂ bit_xor (sym (add-zero (a * 2 ^ k))) (sym (add-zero (b * 2 ^ k)))
    ∙ xor_block k a b 0 0 (pow_pos k) (pow_pos k)
    ∙ add-zero (bit_xor a b * 2 ^ k)
