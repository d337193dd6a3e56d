-- What it means that an amount is exact: document 02 (i). Assumes nothing.
use Prim.Native.Char.{code}
use Rattle.std.specs.Prelude.{ℕ, ◌*◌, ◌^◌, ◌≤◌, List, [], ◌∷◌, ◌≡◌, eqb, take, drop}
use Rattle.laws.specs.Test.{pick}
use Rattle.money.specs.Amount.{digit_count, from_decimal}
use Rattle.money.specs.declared.Msat.{Msat}

-- What a number counts by what follows it, in tenths of a millisatoshi: bitcoin, of 10^12 tenths, or with m, u, n, p their thousandth, millionth, billionth
-- and trillionth parts, as BOLT 11 has them; 0 for any other text.
unfoldable pub unit : (letter : List ℕ) → ℕ
unit [] = 10 ^ 12
unit (c ∷ []) =
    pick (eqb c (code "m")) (10 ^ 9)
    (pick (eqb c (code "u")) (10 ^ 6)
    (pick (eqb c (code "n")) (10 ^ 3)
    (pick (eqb c (code "p")) 1
    0)))
unit (c ∷ d ∷ cs) = 0

-- That many millisatoshi are what a lower-case text says, to the last tenth, and they are more than none.
pub record Exact (text : List ℕ) (m : Msat) : Type 0 where
  pub tenfold : 10 * m.0 ≡ from_decimal (take (digit_count text) text) * unit (drop (digit_count text) text)
  pub above_zero : 1 ≤ m.0
