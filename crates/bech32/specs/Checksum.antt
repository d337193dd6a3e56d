-- The checksum of Bech32: document 01, "Invoices"; BIP 173, whose names these are. Assumes nothing.
use Rattle.std.specs.Prelude.{ℕ, ◌*◌, ◌/◌, ◌%◌, ◌^◌, Bool, List, [], ◌∷◌, ◌++◌, map, replicate, ◌==◌, bit_xor}
use Rattle.laws.specs.Test.{pick}
use Rattle.bech32.specs.Groups.{low5, digits}

-- the five constants
abbrev pub generator : List ℕ
generator = 0x3b6a57b2 ∷ 0x26508e6d ∷ 0x1ea119fa ∷ 0x3d4233dd ∷ 0x2a1462b3 ∷ []

-- a state xor the constants whose bits are set in `chosen`, the lowest bit for the first one
unfoldable pub reduced : (constants : List ℕ) (chosen state : ℕ) → ℕ
reduced [] b c = c
reduced (g ∷ gs) b c = reduced gs (b / 2) (bit_xor c (pick (b % 2 == 1) g 0))

-- One step of polymod: the low 25 bits of the state move up by five, a value comes in below them, and the bits above the 25 choose constants.
unfoldable pub polymod_step : (state value : ℕ) → ℕ
polymod_step c v = reduced generator (c / 2 ^ 25) (bit_xor (c % 2 ^ 25 * 2 ^ 5) v)

-- the state after a step for each value
unfoldable pub polymod_from : (state : ℕ) (values : List ℕ) → ℕ
polymod_from c [] = c
polymod_from c (v ∷ vs) = polymod_from (polymod_step c v) vs

abbrev pub polymod : (values : List ℕ) → ℕ
polymod vs = polymod_from 1 vs

-- the bits of a character above its low five
abbrev pub high3 : (c : ℕ) → ℕ
high3 c = c / 32

-- the human readable part as values: the high bits of its characters, 0, their low bits
unfoldable pub hrp_expand : (hrp : List ℕ) → List ℕ
hrp_expand h = map high3 h ++ 0 ∷ map low5 h

-- The checksum of a human readable part and groups; it holds where it is 1.
unfoldable pub checksum : (hrp groups : List ℕ) → ℕ
checksum h d = polymod (hrp_expand h ++ d)

abbrev pub verify_checksum : (hrp groups : List ℕ) → Bool
verify_checksum h d = checksum h d == 1

-- The six groups behind which the checksum holds.
unfoldable pub create_checksum : (hrp groups : List ℕ) → List ℕ
create_checksum h d = digits 6 (bit_xor (checksum h (d ++ replicate 6 0)) 1)
