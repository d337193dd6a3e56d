-- Fields of BOLT 11's own invoices, and what is refused, computed from the definitions. Assumes nothing.
use Rattle.std.specs.Prelude.{Ok, Err}
use mathlib.Core.List.{List, [], ◌∷◌, ◌++◌, map}
use mathlib.Core.Path.{◌≡◌, refl}
use Prim.Native.Char.{code}
use Prim.Native.Nat.{ℕ, ◌-◌, ◌^◌}
use Prim.Native.String.{String}
use Prim.Native.String as Text
use lib.ListN.{length, take, replicate}
use Rattle.bech32.specs.Alphabet.{place_in, group_of}
use Rattle.laws.specs.Digits.{from_digits, to_digits, to_bytes}
use Rattle.bech32.specs.Groups.{groups_of}
use Rattle.laws.specs.Test.{pick}
use Rattle.answer.specs.Answer.{bare, mapped, ensure, ◌>>=◌, fitting}
use Rattle.field_writer.specs.Field.{stripped, making, making_bytes, making_number}

-- the codes of a text's characters
abbrev codes : String → List ℕ
codes Text.[] = []
codes (Text.◌∷◌ c s) = code c ∷ codes s

-- the groups of a text in lower case, to unfold which is to compute them
unfoldable groups : String → List ℕ
unfolding group_of place_in pick
groups s = map group_of (codes s)

-- Numbers.

-- x: 60 seconds
minute : making_number 6 60 5 ≡ Ok (6 ∷ 0 ∷ 2 ∷ 1 ∷ 28 ∷ [])
unfolding making fitting stripped to_digits pick ensure ◌>>=◌
minute = refl

minute_text : making_number 6 60 5 ≡ Ok (groups "xqzpu")
unfolding making fitting stripped to_digits groups pick ensure ◌>>=◌
minute_text = refl

-- 0 has no groups, 31 has one, 32 two
few_groups :
    making_number 24 0 3 ∷ making_number 24 9 4 ∷ making_number 24 31 4 ∷ making_number 24 32 5 ∷ []
    ≡ Ok (24 ∷ 0 ∷ 0 ∷ []) ∷ Ok (24 ∷ 0 ∷ 1 ∷ 9 ∷ []) ∷ Ok (24 ∷ 0 ∷ 1 ∷ 31 ∷ []) ∷ Ok (24 ∷ 0 ∷ 2 ∷ 1 ∷ 0 ∷ []) ∷ []
unfolding making fitting stripped to_digits pick ensure ◌>>=◌
few_groups = refl

-- twelve groups spell up to 2 ^ 60 - 1
twelve_groups : mapped length (making_number 6 (2 ^ 60 - 1) 15) ∷ mapped length (making_number 6 (2 ^ 60) 16) ∷ [] ≡ Ok 15 ∷ Err (bare 38) ∷ []
unfolding making fitting stripped to_digits pick ensure ◌>>=◌
twelve_groups = refl

-- 34 before 38, 38 before 12
number_order :
    making_number 32 (2 ^ 60) 0 ∷ making_number 31 (2 ^ 60) 0 ∷ making_number 31 (2 ^ 60 - 1) 14 ∷ making_number 31 0 2 ∷ []
    ≡ Err (bare 34) ∷ Err (bare 38) ∷ Err (bare 12) ∷ Err (bare 12) ∷ []
unfolding making fitting stripped to_digits pick ensure ◌>>=◌
number_order = refl

-- Bytes.

-- p: the payment hash of every example
payment : List ℕ
payment = to_bytes 32 0x0001020304050607080900010203040506070809000102030405060708090102

payment_hash_made : making_bytes 1 payment 55 ≡ Ok (groups "pp5qqqsyqcyq5rqwzqfqqqsyqcyq5rqwzqfqqqsyqcyq5rqwzqfqypq")
unfolding making fitting groups_of from_digits to_digits payment groups pick ensure ◌>>=◌
payment_hash_made = refl

-- it begins with its type and the length 52
payment_head : mapped (take 3) (making_bytes 1 payment 55) ≡ Ok (1 ∷ 1 ∷ 20 ∷ [])
unfolding making fitting groups_of from_digits to_digits payment pick ensure ◌>>=◌
payment_head = refl

-- d: "1 cup coffee"
coffee : making_bytes 13 (codes "1 cup coffee") 23 ≡ Ok (groups "dq5xysxxatsyp3k7enxv4js")
unfolding making fitting groups_of from_digits to_digits groups pick ensure ◌>>=◌
coffee = refl

-- h: the hash of a long description
description_hash_made : making_bytes 23 (to_bytes 32 0x3925b6f67e2c340036ed12093dd44e0368df1b6ea26c53dbe4811f58fd5db8c1) 55 ≡ Ok (groups "hp58yjmdan79s6qqdhdzgynm4zwqd5d7xmw5fk98klysy043l2ahrqs")
unfolding making fitting groups_of from_digits to_digits groups pick ensure ◌>>=◌
description_hash_made = refl

-- r: two entries of a key, a channel, a fee and a delta
key : (first : ℕ) → List ℕ
key first = first ∷ to_bytes 32 0x9e03a901b85534ff1e92c43c74431f7ce72046060fcf7a95c37e148f78c77255

two_entries :
    making_bytes 3 (key 2 ++ to_bytes 8 0x0102030405060708 ++ to_bytes 8 20 ++ to_bytes 2 3 ++ key 3 ++ to_bytes 8 0x030405060708090a ++ to_bytes 8 30 ++ to_bytes 2 4) 167
    ≡ Ok (groups "r9yq20q82gphp2nflc7jtzrcazrra7wwgzxqc8u7754cdlpfrmccae92qgzqvzq2ps8pqqqqqqqqqqqq9qqqvpeuqafqxu92d8lr6fvg0r5gv0heeeqgcrqlnm6jhphu9y00rrhy4grqszsvpcgpy9qqqqqqqqqqqq7qqzq")
unfolding making fitting groups_of from_digits to_digits key groups pick ensure ◌>>=◌
two_entries = refl

-- no bytes have no groups; the last group is filled up with zero bits
last_bits :
    making_bytes 13 [] 3 ∷ making_bytes 13 (255 ∷ []) 5 ∷ []
    ≡ Ok (13 ∷ 0 ∷ 0 ∷ []) ∷ Ok (13 ∷ 0 ∷ 2 ∷ 31 ∷ 28 ∷ []) ∷ []
unfolding making fitting groups_of from_digits to_digits pick ensure ◌>>=◌
last_bits = refl

-- 639 bytes have 1,023 groups, and 640 more
most_bytes : mapped length (making_bytes 13 (replicate 639 255) 1026) ∷ mapped length (making_bytes 13 (replicate 640 255) 2000) ∷ [] ≡ Ok 1026 ∷ Err (bare 38) ∷ []
unfolding making fitting groups_of from_digits to_digits pick ensure ◌>>=◌
most_bytes = refl

-- 34 before 38, 38 before 12
bytes_order :
    making_bytes 32 (replicate 640 0) 0 ∷ making_bytes 31 (replicate 640 0) 0 ∷ making_bytes 1 payment 54 ∷ making_bytes 31 [] 2 ∷ []
    ≡ Err (bare 34) ∷ Err (bare 38) ∷ Err (bare 12) ∷ Err (bare 12) ∷ []
unfolding making fitting groups_of from_digits to_digits payment pick ensure ◌>>=◌
bytes_order = refl
