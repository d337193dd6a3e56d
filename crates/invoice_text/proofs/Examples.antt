-- Texts computed from the definitions. Assumes nothing.
use Rattle.std.specs.Prelude.{Ok, Err}
use mathlib.Core.Path.{◌≡◌, refl}
use mathlib.Core.List.{List, [], ◌∷◌, ◌++◌, map}
use Prim.Native.Char.{code}
use Prim.Native.Nat.{ℕ}
use Prim.Native.String.{String}
use lib.ListN.{replicate}
use Rattle.bech32.specs.Alphabet.{place_in, group_of}
use Rattle.bech32.specs.Checksum.{reduced, polymod_step, polymod_from, hrp_expand, checksum}
use Rattle.letters.specs.Letters.{lower}
use Rattle.laws.specs.Test.{pick}
use Rattle.money.proofs.Examples.{codes}
use Rattle.answer.specs.Answer.{Answer, refuse, bare, ensure, ◌>>=◌}
use Rattle.invoice_text.specs.Text.{first_where, up_to_last_one, hrp_of, data_of, parting, sealing, spelling}

-- the last "1" parts a text, here behind lnbc1m
pub last_parts : (hrp_of (codes "lnbc1m1qq") ≡ codes "lnbc1m") × (data_of (codes "lnbc1m1qq") ≡ codes "qq")
unfolding up_to_last_one pick
last_parts = (refl, refl)

-- the answer to the questions 30 to 35; to unfold it is to compute with all the definitions
unfoldable pub spelt : List ℕ → Answer (Unit {0})
unfolding spelling parting sealing first_where up_to_last_one checksum polymod_from polymod_step reduced hrp_expand group_of place_in lower pick ensure ◌>>=◌
spelt t = spelling t

-- an invoice of BOLT 11 in lower case and in upper case; then with one other character: at the end, a space, a letter of the other case, a "b" in the data
pub coffee :
    let lines : List (String × Answer (Unit {0})) = (
      "lnbc2500u1pvjluezpp5qqqsyqcyq5rqwzqfqqqsyqcyq5rqwzqfqqqsyqcyq5rqwzqfqypqdq5xysxxatsyp3k7enxv4jsxqzpuaztrnwngzn3kdzw5hydlzf03qdgm2hdq27cqv3agm2awhz5se903vruatfhq77w3ls4evs3ch9zw97j25emudupq63nyw24cg27h2rspfj9srp",
      Ok tt,
    )
    ∷ (
      "LNBC2500U1PVJLUEZPP5QQQSYQCYQ5RQWZQFQQQSYQCYQ5RQWZQFQQQSYQCYQ5RQWZQFQYPQDQ5XYSXXATSYP3K7ENXV4JSXQZPUAZTRNWNGZN3KDZW5HYDLZF03QDGM2HDQ27CQV3AGM2AWHZ5SE903VRUATFHQ77W3LS4EVS3CH9ZW97J25EMUDUPQ63NYW24CG27H2RSPFJ9SRP",
      Ok tt,
    )
    ∷ (
      "lnbc2500u1pvjluezpp5qqqsyqcyq5rqwzqfqqqsyqcyq5rqwzqfqqqsyqcyq5rqwzqfqypqdq5xysxxatsyp3k7enxv4jsxqzpuaztrnwngzn3kdzw5hydlzf03qdgm2hdq27cqv3agm2awhz5se903vruatfhq77w3ls4evs3ch9zw97j25emudupq63nyw24cg27h2rspfj9srq",
      Err (bare 35),
    )
    ∷ (
      "lnbc 500u1pvjluezpp5qqqsyqcyq5rqwzqfqqqsyqcyq5rqwzqfqqqsyqcyq5rqwzqfqypqdq5xysxxatsyp3k7enxv4jsxqzpuaztrnwngzn3kdzw5hydlzf03qdgm2hdq27cqv3agm2awhz5se903vruatfhq77w3ls4evs3ch9zw97j25emudupq63nyw24cg27h2rspfj9srp",
      Err (refuse 31 4 0),
    )
    ∷ (
      "lnbc2500u1pvjluezpp5qqqsyqcyq5rqwzqfqqqsyqcyq5rqwzqfqqqsyqcyq5rqwzqfqypqdq5xysxxatsyp3k7enxv4jsxqzpuaztrnwngzN3kdzw5hydlzf03qdgm2hdq27cqv3agm2awhz5se903vruatfhq77w3ls4evs3ch9zw97j25emudupq63nyw24cg27h2rspfj9srp",
      Err (bare 32),
    )
    ∷ (
      "lnbc2500u1pvjluezpp5qqqsyqcyq5rqwzqfqqqsyqcyq5rqwzqfqqqsyqcyq5rqwzqfqypqdq5xysxxatsyp3k7enxv4jsxqzpuaztrnwngznbkdzw5hydlzf03qdgm2hdq27cqv3agm2awhz5se903vruatfhq77w3ls4evs3ch9zw97j25emudupq63nyw24cg27h2rspfj9srp",
      Err (refuse 34 110 0),
    )
    ∷ [] in
    map (λ l. spelt (codes l.0)) lines ≡ map (λ l. l.1) lines
unfolding spelt
coffee = refl

-- no text, a text of Bech32 that is too short for an invoice, no separator, and bad characters in data that is too short
pub short :
    let texts : List String = "" ∷ "A12UEL5L" ∷ "lnbc" ∷ "lnbc1bbb" ∷ [] in
    map (λ s. spelt (codes s)) texts ≡ map (λ _. Err (bare 33)) texts
unfolding spelt
short = refl

-- the separator with nothing before it; 116 characters after it, and 117, of which the checksum does not hold
pub around : (spelt (codes "1" ++ replicate 117 (code "q")) ≡ Err (bare 33)) × (spelt (codes "a1" ++ replicate 116 (code "q")) ≡ Err (bare 33)) ×
    (spelt (codes "a1" ++ replicate 117 (code "q")) ≡ Err (bare 35))
unfolding spelt
around = (refl, refl, refl)

-- the characters on either side of 33 to 126
pub ends : map (λ c. spelt (codes "lnbc" ++ c ∷ [])) (32 ∷ 33 ∷ 126 ∷ 127 ∷ []) ≡
    Err (refuse 31 4 0) ∷ Err (bare 33) ∷ Err (bare 33) ∷ Err (refuse 31 4 0) ∷ []
unfolding spelt
ends = refl

-- 4,096 characters, and 4,097
pub long : map (λ n. spelt (replicate n (code "q"))) (4096 ∷ 4097 ∷ []) ≡ Err (bare 33) ∷ Err (bare 30) ∷ []
unfolding spelt
long = refl
