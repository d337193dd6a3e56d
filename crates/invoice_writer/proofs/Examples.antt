-- Invoices computed from the definition of the writer. Assumes nothing.
use Rattle.std.specs.Prelude.{Ok, Err}
use mathlib.Core.Path.{◌≡◌, refl}
use mathlib.Core.List.{List, [], ◌∷◌, ◌++◌, map}
use Prim.Native.Nat.{ℕ, ◌^◌}
use lib.ListN.{length, drop, replicate}
use Rattle.bech32.specs.Alphabet.{place_in, group_of, char_of, groups_in}
use Rattle.bech32.specs.Checksum.{reduced, polymod_step, polymod_from, hrp_expand, checksum, create_checksum}
use Rattle.laws.specs.Digits.{from_digits, to_digits}
use Rattle.field.specs.Fields.{field_at, fields_from, usable, fielding}
use Rattle.invoice.specs.Edition.{prefixed}
use Rattle.invoice.specs.Invoice.{asking}
use Rattle.invoice_text.specs.Text.{first_where}
use Rattle.laws.specs.Test.{pick}
use Rattle.letters.specs.Letters.{lower}
use Rattle.money.specs.Amount.{digit_count, from_decimal, tenth, scaled, capped, valued, amounting}
use Rattle.money.proofs.Examples.{codes}
use Rattle.answer.specs.Answer.{Answer, bare, mapped, ensure, ◌>>=◌, fitting}
use Rattle.invoice_writer.specs.Writer.{text_of, composing, writing}

-- the writer's answer; to unfold it is to compute with all the definitions
unfoldable pub wrote : (prefix : ℕ) (amount : List ℕ) (time : ℕ) (fields signature : List ℕ) (room : ℕ) → Answer (List ℕ)
unfolding writing composing prefixed text_of asking fielding amounting valued tenth scaled capped digit_count from_decimal fields_from field_at usable first_where fitting create_checksum checksum polymod_from polymod_step reduced hrp_expand from_digits to_digits char_of group_of place_in lower pick ensure ◌>>=◌
wrote prefix amount time fields signature room = writing prefix amount time fields signature room

-- the fields and the signature of BOLT 11's example of a cup of coffee
abbrev fields : List ℕ
fields = groups_in (codes "pp5qqqsyqcyq5rqwzqfqqqsyqcyq5rqwzqfqqqsyqcyq5rqwzqfqypqdq5xysxxatsyp3k7enxv4jsxqzpu")

abbrev signature : List ℕ
signature = groups_in (codes "aztrnwngzn3kdzw5hydlzf03qdgm2hdq27cqv3agm2awhz5se903vruatfhq77w3ls4evs3ch9zw97j25emudupq63nyw24cg27h2rsp")

-- the example, from an amount in upper case
pub coffee :
    wrote 1 (codes "2500U") 1496314658 fields signature 210 ≡
    Ok
    (codes
    "lnbc2500u1pvjluezpp5qqqsyqcyq5rqwzqfqqqsyqcyq5rqwzqfqqqsyqcyq5rqwzqfqypqdq5xysxxatsyp3k7enxv4jsxqzpuaztrnwngzn3kdzw5hydlzf03qdgm2hdq27cqv3agm2awhz5se903vruatfhq77w3ls4evs3ch9zw97j25emudupq63nyw24cg27h2rspfj9srp")
unfolding wrote group_of place_in lower pick
coffee = refl

-- each question with the next one's fault beside its own: a time of 2^35, a group of 32 in the signature, prefix 3, a letter alone, tenths of a millisatoshi, 103 groups of
-- signature, a field that is cut, a recovery byte of 32, no usable p, and an output one short
pub refusals :
    let sound : List ℕ = replicate 104 0 in
    let lines : List (Answer (List ℕ) × ℕ) =
    (wrote 3 (codes "u") (2 ^ 35) (1 ∷ 0 ∷ 1 ∷ []) (32 ∷ []) 0, 42)
    ∷ (wrote 3 (codes "u") 0 (1 ∷ 0 ∷ 1 ∷ []) (32 ∷ []) 0, 34)
    ∷ (wrote 3 (codes "u") 0 (1 ∷ 0 ∷ 1 ∷ []) (31 ∷ []) 0, 36)
    ∷ (wrote 2 (codes "u") 0 (1 ∷ 0 ∷ 1 ∷ []) (31 ∷ []) 0, 37)
    ∷ (wrote 2 (codes "15P") 0 (1 ∷ 0 ∷ 1 ∷ []) (31 ∷ []) 0, 37)
    ∷ (wrote 2 (codes "5p") 0 (1 ∷ 0 ∷ 1 ∷ []) (31 ∷ []) 0, 37)
    ∷ (wrote 2 (codes "10P") 0 (1 ∷ 0 ∷ 1 ∷ []) (31 ∷ []) 0, 38)
    ∷ (wrote 2 [] 0 [] (drop 1 sound) 0, 38)
    ∷ (wrote 2 [] 0 (1 ∷ 0 ∷ 1 ∷ []) (replicate 102 0 ++ 1 ∷ 0 ∷ []) 0, 38)
    ∷ (wrote 2 [] 0 (1 ∷ 0 ∷ 0 ∷ []) (replicate 102 0 ++ 1 ∷ 0 ∷ []) 0, 39)
    ∷ (wrote 2 [] 0 (1 ∷ 0 ∷ 0 ∷ []) sound 0, 40)
    ∷ (wrote 1 (codes "2500u") 1496314658 fields signature 209, 12)
    ∷ [] in
    map (λ l. l.0) lines ≡ map (λ l. Err (bare l.1)) lines
unfolding wrote group_of place_in lower pick
refusals = refl

-- 4,096 characters are written, one more is 30 even where there is no room: a p, and empty fields of type 0
pub longest :
    let p : List ℕ = 1 ∷ 1 ∷ 20 ∷ replicate 52 0 in
    let length-of : Answer (List ℕ) → Answer ℕ = mapped length in
    (length-of (wrote 1 (codes "1") 0 (p ++ replicate 3918 0) (replicate 104 0) 4096) ≡ Ok 4096)
    × (wrote 1 (codes "10") 0 (p ++ replicate 3918 0) (replicate 104 0) 0 ≡ Err (bare 30))
unfolding wrote group_of place_in lower pick
longest = (refl, refl)
