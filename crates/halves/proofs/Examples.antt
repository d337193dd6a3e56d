-- Sums, thousandths and digits computed from the definitions. Assumes nothing.
use Rattle.std.specs.Prelude.{Some, None, Ok, Err}
use Rattle.std.proofs.Common.{◌≡◌, ℕ, ◌+◌, ◌-◌, ◌*◌, ◌^◌, List, [], ◌∷◌, map, refl}
use Prim.Native.Char.{code}
use Prim.Native.String.{String}
use Prim.Native.String as Text
use Rattle.laws.specs.Test.{pick}
use Rattle.answer.specs.Answer.{bare, ensure, ◌>>=◌}
use Rattle.halves.specs.Halves.{value, halves, thousandths, digits, decimal, writing}
use Rattle.halves.specs.declared.Halves.{Halves}

-- the codes of a text's characters
abbrev pub codes : String → List ℕ
codes Text.[] = []
codes (Text.◌∷◌ c s) = code c ∷ codes s

-- two halves
abbrev pub both : (high low : ℕ) → Halves
both h l = record { high = h; low = l }

-- what is added to a sum, and what comes out: without a carry, with one, and past 2^128
pub sums :
    let lines : List (Halves × ℕ × Halves) =
    (both 0 0, 0, both 0 0)
    ∷ (both 0 (2 ^ 64 - 2), 1, both 0 (2 ^ 64 - 1))
    ∷ (both 0 (2 ^ 64 - 1), 1, both 1 0)
    ∷ (both 7 (2 ^ 64 - 1), 2 ^ 64 - 1, both 8 (2 ^ 64 - 2))
    ∷ (both (2 ^ 64 - 1) (2 ^ 64 - 1), 1, both 0 0)
    ∷ [] in
    map (λ l. halves (value l.0 + l.1)) lines ≡ map (λ l. l.2) lines
unfolding halves
sums = refl

pub whole_thousandths :
    map thousandths (0 ∷ 1 ∷ 999 ∷ 1000 ∷ 1001 ∷ (2 ^ 64 * 1000) ∷ (2 ^ 128 - 1) ∷ []) ≡ Some 0 ∷ None ∷ None ∷ Some 1 ∷ None ∷ Some (2 ^ 64) ∷ None ∷ []
unfolding thousandths pick
whole_thousandths = refl

-- a number and its digits
pub spellings :
    let lines : List (ℕ × String) =
    (0, "0")
    ∷ (9, "9")
    ∷ (10, "10")
    ∷ (2 ^ 64, "18446744073709551616")
    ∷ (10 ^ 38, "100000000000000000000000000000000000000")
    ∷ (2 ^ 128 - 1, "340282366920938463463374607431768211455")
    ∷ [] in
    map (λ l. decimal l.0) lines ≡ map (λ l. codes l.1) lines
unfolding digits pick
spellings = refl

-- two digits in a room of none to three
pub rooms :
    map (writing 10) (0 ∷ 1 ∷ 2 ∷ 3 ∷ []) ≡ Err (bare 12) ∷ Err (bare 12) ∷ Ok (codes "10") ∷ Ok (codes "10") ∷ []
unfolding writing digits pick ensure ◌>>=◌
rooms = refl
