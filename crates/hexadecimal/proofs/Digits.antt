-- The digits of bytes, put one pair behind the other. Assumes nothing.
use mathlib.Core.List.{List, [], ◌∷◌}
use mathlib.Core.Path.{◌≡◌, refl, ◌∙◌}
use Prim.Native.Nat.{ℕ, suc, ◌+◌, ◌*◌, ◌/◌, ◌%◌, ◌≤◌, ◌<◌}
use native.Mathlib.Numerals.{add-one}
use native.Mathlib.Omega.{arith}
use lib.ListN.{length, get_or, drop, set, length-set, drop_of_length-le}
use lib.Seq.{sets, drop-cons}
use Rattle.hexadecimal.specs.Hex.{digit, hex}

-- the two digits of a byte
abbrev pub digited : (out : List ℕ) (at byte : ℕ) → List ℕ
digited out at byte = set (set out at (digit (byte / 16))) (at + 1) (digit (byte % 16))

pub length_digited : (out : List ℕ) (at byte : ℕ) → length (digited out at byte) ≡ length out
length_digited out at byte = length-set (set out at (digit (byte / 16))) (at + 1) (digit (byte % 16)) ∙ length-set out at (digit (byte / 16))

-- a byte more: the digits left stand behind its own
pub hex_next : (bytes out whole : List ℕ) (i : ℕ) → i < length bytes → sets out (2 * i) (hex (drop i bytes)) ≡ whole →
    sets (digited out (2 * i) (get_or bytes i 0)) (2 * (i + 1)) (hex (drop (i + 1) bytes)) ≡ whole
unfolding hex
hex_next bytes out whole i h e =
    let two : 2 * (i + 1) ≡ suc (suc (2 * i)) = omega arith in
    rw (two, add-one (2 * i), add-one i) (rw (drop-cons bytes i 0 h) at e)

-- behind the last one there are none
pub hex_end : (bytes out whole : List ℕ) (i : ℕ) → length bytes ≤ i → sets out (2 * i) (hex (drop i bytes)) ≡ whole → out ≡ whole
unfolding hex
hex_end bytes out whole i h e = rw (drop_of_length-le bytes {i = i} h) at e

pub length_hex : (bytes : List ℕ) → length (hex bytes) ≡ 2 * length bytes
unfolding hex
length_hex [] = refl
length_hex (b ∷ bytes) = omega (arith, length_hex bytes)
