-- What the private functions promise each other: no public contract cites it. Assumes nothing.
use Rattle.std.specs.Prelude.{Bool, not, ◌&&◌, ◌||◌, List, [], ◌∷◌, ◌++◌, ◌≡◌, ℕ, suc, ◌+◌, ◌%◌, ◌^◌, ◌<◌, ltb, leb, eqb, length, get_or}
use Rattle.bech32.specs.Groups.{number}
use Rattle.field.specs.Fields.{payment_hash, description_hash, payee, expiry, delta, route, content_of}
use Rattle.field.specs.declared.Field.{Field}
use Rattle.laws.specs.Test.{pick}
use Rattle.till.specs.Till.{description, is_judged, how_many, left_over}
use Rattle.till.specs.declared.Tally.{Tally}

-- Rules 4 and 5 of one content, as tests.
abbrev pub is_packed : (content : List ℕ) → Bool
is_packed content = ltb (left_over (length content)) 5 && eqb (number content % 2 ^ left_over (length content)) 0

abbrev pub is_stripped : (content : List ℕ) → Bool
is_stripped content = not (eqb (get_or content 0 1) 0)

-- x and c hold numbers, the other types bytes
abbrev pub is_clean : (kind : ℕ) (content : List ℕ) → Bool
is_clean kind content = pick (eqb kind expiry || eqb kind delta) (is_stripped content) (is_packed content)

-- a field that the rules speak of and whose content is not clean
abbrev pub is_unclean : (groups : List ℕ) (kind : ℕ) → Field → Bool
is_unclean groups kind f = is_judged kind f && not (is_clean kind (content_of f groups))

-- For each of the 32 types, how many fields pass its test.
pub record Counts (test : ℕ → Field → Bool) (fields : List Field) (counts : List ℕ) : Type 0 where
  pub types : length counts ≡ 32
  pub each : (kind : ℕ) → kind < 32 → get_or counts kind 0 ≡ how_many (test kind) fields

-- The rules as tests, by these counts.
abbrev pub one_payment_hash : Tally → Bool
one_payment_hash t = eqb (get_or t.judged payment_hash 0) 1

abbrev pub one_description : Tally → Bool
one_description t = eqb (get_or t.judged description 0 + get_or t.judged description_hash 0) 1

abbrev pub at_most_once : Tally → Bool
at_most_once t = leb (get_or t.judged expiry 0) 1 && leb (get_or t.judged delta 0) 1 && leb (get_or t.judged payee 0) 1

abbrev pub all_packed : Tally → Bool
all_packed t =
    eqb (get_or t.unclean payment_hash 0 + get_or t.unclean description_hash 0) 0
    && eqb (get_or t.unclean payee 0 + get_or t.unclean route 0) 0
    && eqb (get_or t.unclean description 0) 0

abbrev pub all_stripped : Tally → Bool
all_stripped t = eqb (get_or t.unclean expiry 0 + get_or t.unclean delta 0) 0

-- the numbers, from one on, of the tests that fail
unfoldable pub failing : (rule : ℕ) (kept : List Bool) → List ℕ
failing rule [] = []
failing rule (k ∷ ks) = pick k [] (rule ∷ []) ++ failing (suc rule) ks

abbrev pub tests : Tally → (shortest : Bool) → List Bool
tests t shortest = one_payment_hash t ∷ one_description t ∷ at_most_once t ∷ all_packed t ∷ all_stripped t ∷ shortest ∷ []
