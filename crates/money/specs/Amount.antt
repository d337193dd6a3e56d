-- The amount of an invoice: document 01, "Invoices" and "The refusal list", and document 02 (i). Assumes nothing.
use Prim.Native.Char.{code}
use Rattle.std.specs.Prelude.{ℕ, suc, ◌+◌, ◌*◌, ◌-◌, ◌/◌, ◌%◌, ◌^◌, Bool, not, ◌&&◌, List, [], ◌∷◌, leb, eqb, length, get_or, take, drop, Ok, Err}
use Rattle.laws.specs.Test.{pick}
use Rattle.answer.specs.Answer.{Answer, bare, ensure, ◌>>=◌}
use Rattle.money.specs.Units.{msat}
use Rattle.money.specs.declared.Msat.{Msat}

-- 0 to 9
abbrev pub is_digit : (c : ℕ) → Bool
is_digit c = leb (code "0") c && leb c (code "9")

-- how many digits stand at the front of a text
unfoldable pub digit_count : List ℕ → ℕ
digit_count [] = 0
digit_count (c ∷ cs) = pick (is_digit c) (suc (digit_count cs)) 0

-- the number that digits spell, in decimal
unfoldable pub from_decimal : List ℕ → ℕ
from_decimal [] = 0
from_decimal (c ∷ cs) = (c - code "0") * 10 ^ length cs + from_decimal cs

-- With p the last digit must be 0, else 37 (document 02 (i)); so a tenth of the number is exact.
unfoldable pub tenth : (number : ℕ) → Answer ℕ
tenth number = do
  _ ← ensure (eqb (number % 10) 0) (bare 37)
  Ok (number / 10)

-- A number in millisatoshi, by what follows it: at most one of m, u, n, p, else 37.
unfoldable pub scaled : (number : ℕ) (letter : List ℕ) → Answer ℕ
scaled number [] = Ok (number * 100_000_000_000)
scaled number (c ∷ []) =
    pick (eqb c (code "m")) (Ok (number * 100_000_000))
    (pick (eqb c (code "u")) (Ok (number * 100_000))
    (pick (eqb c (code "n")) (Ok (number * 100))
    (pick (eqb c (code "p")) (tenth number)
    (Err (bare 37)))))
scaled number (c ∷ d ∷ cs) = Err (bare 37)

-- At most 2,100,000,000,000,000,000 millisatoshi, else 37.
unfoldable pub capped : (value : ℕ) → Answer Msat
capped value = do
  _ ← ensure (leb value 2_100_000_000_000_000_000) (bare 37)
  Ok (msat value)

-- The value of a number with what follows it; the cap is asked after scaling.
unfoldable pub valued : (number : ℕ) (letter : List ℕ) → Answer Msat
valued number letter = do
  value ← scaled number letter
  capped value

-- The amount that a lower-case text spells: 1 to 19 digits without leading zero and at most one of m, u, n, p. Everything else is 37.
unfoldable pub amounting : (text : List ℕ) → Answer Msat
amounting text = do
  _ ← ensure (leb 1 (digit_count text)) (bare 37)
  _ ← ensure (leb (digit_count text) 19) (bare 37)
  _ ← ensure (not (eqb (get_or text 0 0) (code "0"))) (bare 37)
  valued (from_decimal (take (digit_count text) text)) (drop (digit_count text) text)
