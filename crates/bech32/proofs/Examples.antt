-- Computed examples of the definitions: BIP 173's strings, and a short text as bytes and as groups. Assumes nothing.
use Rattle.std.proofs.Common.{◌≡◌, [], ◌∷◌, ◌++◌, map, refl}
use Rattle.laws.specs.Digits.{from_digits, to_digits}
use Rattle.letters.specs.Letters.{lower}
use Rattle.laws.specs.Test.{pick}
use Rattle.bech32.specs.Alphabet.{alphabet, place_in, group_of, char_of, groups_in}
use Rattle.bech32.specs.Checksum.{reduced, polymod_step, polymod_from, hrp_expand, checksum, create_checksum}
use Rattle.bech32.specs.Groups.{number, digits, bytes_of, groups_of}

-- A12UEL5L, a text all in upper case without data
a12uel5l : checksum (map lower (65 ∷ [])) (groups_in (50 ∷ 85 ∷ 69 ∷ 76 ∷ 53 ∷ 76 ∷ [])) ≡ 1
unfolding checksum polymod_from polymod_step reduced hrp_expand group_of place_in lower pick
a12uel5l = refl

-- ?1ezyfcl
question : checksum (63 ∷ []) (groups_in (101 ∷ 122 ∷ 121 ∷ 102 ∷ 99 ∷ 108 ∷ [])) ≡ 1
unfolding checksum polymod_from polymod_step reduced hrp_expand group_of place_in lower pick
question = refl

-- abcdef1qpzry9x8gf2tvdw0s3jn54khce6mua7lmqqqxw, which has each group once
each_group : checksum (97 ∷ 98 ∷ 99 ∷ 100 ∷ 101 ∷ 102 ∷ []) (groups_in (alphabet ++ 109 ∷ 113 ∷ 113 ∷ 113 ∷ 120 ∷ 119 ∷ [])) ≡ 1
unfolding checksum polymod_from polymod_step reduced hrp_expand group_of place_in lower pick
each_group = refl

-- and its checksum: mqqqxw
its_checksum : map char_of (create_checksum (97 ∷ 98 ∷ 99 ∷ 100 ∷ 101 ∷ 102 ∷ []) (groups_in alphabet)) ≡ 109 ∷ 113 ∷ 113 ∷ 113 ∷ 120 ∷ 119 ∷ []
unfolding create_checksum to_digits checksum polymod_from polymod_step reduced hrp_expand group_of char_of place_in lower pick
its_checksum = refl

-- the time of an invoice, pvjluez: 1496314658
time : number (groups_in (112 ∷ 118 ∷ 106 ∷ 108 ∷ 117 ∷ 101 ∷ 122 ∷ [])) ≡ 1496314658
unfolding from_digits group_of place_in lower pick
time = refl

time_back : map char_of (digits 7 1496314658) ≡ 112 ∷ 118 ∷ 106 ∷ 108 ∷ 117 ∷ 101 ∷ 122 ∷ []
unfolding to_digits char_of
time_back = refl

-- the bytes 255 0 17 in five groups, of which the last has one zero bit of filling
five_groups : groups_of (255 ∷ 0 ∷ 17 ∷ []) ≡ 31 ∷ 28 ∷ 0 ∷ 1 ∷ 2 ∷ []
unfolding groups_of to_digits from_digits
five_groups = refl

-- and back; the bit left over is dropped, whatever it is
three_bytes : bytes_of (31 ∷ 28 ∷ 0 ∷ 1 ∷ 3 ∷ []) ≡ 255 ∷ 0 ∷ 17 ∷ []
unfolding bytes_of to_digits from_digits
three_bytes = refl

-- one group holds no whole byte, and a byte takes two groups
no_byte : bytes_of (31 ∷ []) ≡ []
unfolding bytes_of to_digits from_digits
no_byte = refl

two_groups : groups_of (255 ∷ []) ≡ 31 ∷ 28 ∷ []
unfolding groups_of to_digits from_digits
two_groups = refl
