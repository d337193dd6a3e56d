-- Fields of BOLT 11's own invoices, and what is refused, computed from the definitions. Assumes nothing.
use Rattle.std.specs.Prelude.{Some, None, Ok, Err}
use mathlib.Core.Bool.{true, false}
use mathlib.Core.List.{List, [], ◌∷◌, ◌++◌, map}
use mathlib.Core.Path.{◌≡◌, refl}
use Prim.Native.Char.{code}
use Prim.Native.Nat.{ℕ}
use Prim.Native.String.{String}
use Prim.Native.String as Text
use lib.ListN.{length, replicate}
use Rattle.bech32.specs.Alphabet.{place_in, group_of, groups_in}
use Rattle.laws.specs.Digits.{from_digits, to_digits, to_bytes}
use Rattle.bech32.specs.Groups.{bytes_of}
use Rattle.field.specs.Fields.{usable}
use Rattle.invoice_text.specs.Text.{first_where}
use Rattle.laws.specs.Test.{pick}
use Rattle.letters.specs.Letters.{lower}
use Rattle.answer.specs.Answer.{refuse, bare, ensure, ◌>>=◌, mapped, fitting}
use Rattle.invoice_content.specs.Content.{checking, bytes_at, number_at, entries_in, route_size, entry_at, route_entry}

-- the codes of a text's characters
abbrev codes : String → List ℕ
codes Text.[] = []
codes (Text.◌∷◌ c s) = code c ∷ codes s

-- the groups of a text, to unfold which is to compute them
unfoldable groups : String → List ℕ
unfolding group_of place_in lower pick
groups s = groups_in (codes s)

-- "1 cup coffee", with the type and the length before it
coffee : bytes_at (groups "dq5xysxxatsyp3k7enxv4js") 3 20 12 ≡ Ok (codes "1 cup coffee")
unfolding bytes_at checking fitting bytes_of from_digits to_digits groups first_where pick ensure ◌>>=◌
coffee = refl

-- an output of eleven bytes is too short for it
coffee_short : bytes_at (groups "dq5xysxxatsyp3k7enxv4js") 3 20 11 ≡ Err (bare 12)
unfolding bytes_at checking fitting bytes_of from_digits to_digits groups first_where pick ensure ◌>>=◌
coffee_short = refl

-- 60 seconds: pu
minute : number_at (groups "xqzpu") 3 2 ≡ Ok 60
unfolding number_at checking from_digits groups first_where pick ensure ◌>>=◌
minute = refl

-- no groups spell 0, twelve spell up to 2 ^ 60 - 1, and thirteen are too many
sizes : map (number_at (replicate 13 31) 0) (0 ∷ 12 ∷ 13 ∷ []) ≡ Ok 0 ∷ Ok 1_152_921_504_606_846_975 ∷ Err (bare 38) ∷ []
unfolding number_at checking from_digits first_where pick ensure ◌>>=◌
sizes = refl

-- 16 before 34, 34 before 38 and 12; the place of 34 counts from the first lent group
order :
    number_at (1 ∷ 32 ∷ 33 ∷ []) 1 3
    ∷ number_at (1 ∷ 32 ∷ 33 ∷ []) 0 3
    ∷ number_at (1 ∷ 32 ∷ 33 ∷ []) 2 1
    ∷ number_at (1 ∷ 32 ∷ 33 ∷ []) 0 1
    ∷ number_at (replicate 13 0 ++ 32 ∷ []) 1 13
    ∷ mapped length (bytes_at (replicate 13 0 ++ 32 ∷ []) 1 13 0)
    ∷ []
    ≡ Err (bare 16)
    ∷ Err (refuse 34 1 0)
    ∷ Err (refuse 34 2 0)
    ∷ Ok 1
    ∷ Err (refuse 34 13 0)
    ∷ Err (refuse 34 13 0)
    ∷ []
unfolding number_at bytes_at checking fitting from_digits first_where pick ensure ◌>>=◌
order = refl

-- a type and a group count, usable or not
usable_fields :
    usable 1 52 ∷ usable 23 52 ∷ usable 19 53 ∷ usable 6 0 ∷ usable 24 12 ∷ usable 3 82 ∷ usable 3 83 ∷ usable 3 164 ∷ []
    ≡ replicate 8 true
unfolding usable pick
usable_fields = refl

unusable_fields :
    usable 1 53 ∷ usable 23 51 ∷ usable 19 52 ∷ usable 6 13 ∷ usable 24 13 ∷ usable 3 0 ∷ usable 3 81 ∷ usable 3 84 ∷ usable 13 52 ∷ usable 33 52 ∷ []
    ≡ replicate 10 false
unfolding usable pick
unusable_fields = refl

-- The route of two entries.

unfoldable route : List ℕ
unfolding groups
route = groups "q20q82gphp2nflc7jtzrcazrra7wwgzxqc8u7754cdlpfrmccae92qgzqvzq2ps8pqqqqqqqqqqqq9qqqvpeuqafqxu92d8lr6fvg0r5gv0heeeqgcrqlnm6jhphu9y00rrhy4grqszsvpcgpy9qqqqqqqqqqqq7qqzq"

two_entries : map (route_size route 3 0) (164 ∷ 163 ∷ 82 ∷ 0 ∷ 165 ∷ []) ≡ Ok 2 ∷ Ok 0 ∷ Ok 1 ∷ Ok 0 ∷ Err (bare 16) ∷ []
unfolding route_size checking entries_in usable route first_where pick ensure ◌>>=◌
two_entries = refl

-- a d of the same groups has no entry, nor has a p
other_types : map (λ kind. route_size route kind 0 82) (3 ∷ 13 ∷ 1 ∷ []) ≡ Ok 1 ∷ Ok 0 ∷ Ok 0 ∷ []
unfolding route_size checking entries_in usable route first_where pick ensure ◌>>=◌
other_types = refl

no_entry_there : route_entry route 13 0 82 0 33 ≡ Ok None
unfolding route_entry entry_at checking entries_in usable route first_where fitting pick ensure ◌>>=◌
no_entry_there = refl

-- all but the first byte of both keys
abbrev rest : List ℕ
rest = to_bytes 32 0x9e03a901b85534ff1e92c43c74431f7ce72046060fcf7a95c37e148f78c77255

first : entry_at route 3 0 164 0 ≡ Some record { key = 2 ∷ rest; hop = record { channel = 0x0102030405060708; fee = 20; delta = 3 } }
unfolding entry_at entries_in usable bytes_of from_digits to_digits route pick
first = refl

second : entry_at route 3 0 164 1 ≡ Some record { key = 3 ∷ rest; hop = record { channel = 0x030405060708090a; fee = 30; delta = 4 } }
unfolding entry_at entries_in usable bytes_of from_digits to_digits route pick
second = refl

-- there is no third one; a key takes 33 bytes
third : route_entry route 3 0 164 2 0 ≡ Ok None
unfolding route_entry entry_at checking entries_in usable route first_where fitting pick ensure ◌>>=◌
third = refl

no_room : route_entry route 3 0 164 1 32 ≡ Err (bare 12)
unfolding route_entry entry_at checking entries_in usable bytes_of from_digits to_digits route first_where fitting pick ensure ◌>>=◌
no_room = refl
