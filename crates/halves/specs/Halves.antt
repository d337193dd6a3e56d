-- A number of 128 bits in two 64-bit halves, its thousandth and its decimal digits: document 02 (iv). Assumes nothing.
use Prim.Native.Char.{code}
use Rattle.std.specs.Prelude.{ℕ, zero, suc, ◌+◌, ◌*◌, ◌/◌, ◌%◌, ◌^◌, List, [], ◌∷◌, ◌++◌, length, ◌==◌, nat_lt, Option, Some, None, option_map, Ok}
use Rattle.laws.specs.Test.{pick}
use Rattle.answer.specs.Answer.{Answer, ◌>>=◌, fits}
use Rattle.halves.specs.declared.Halves.{Halves}

-- the number that two halves are
abbrev pub value : Halves → ℕ
value h = h.high * 2 ^ 64 + h.low

-- the two halves of a number; from 2^128 on it starts again from 0
unfoldable pub halves : ℕ → Halves
halves n = record { high = n / 2 ^ 64 % 2 ^ 64; low = n % 2 ^ 64 }

-- a thousandth of a number, only where it is whole
unfoldable pub thousandths : ℕ → Option ℕ
thousandths n = pick (n % 1000 == 0) (Some (n / 1000)) None

-- What `thousandth_of` answers.
abbrev pub thousandth_in : Option ℕ → Option Halves
thousandth_in = option_map halves

-- A number in decimal: one digit alone, or the last digit behind those of a tenth. `most` lets the recursion end: a number below 10^most is spelled whole.
unfoldable pub digits : (most n : ℕ) → List ℕ
digits zero n = []
digits (suc most) n = pick (nat_lt n 10) ((code "0" + n) ∷ []) (digits most (n / 10) ++ ((code "0" + n % 10) ∷ []))

-- A number in decimal: below 2^128 it has no more than 39 digits.
abbrev pub decimal : ℕ → List ℕ
decimal n = digits 39 n

-- The digits written at the front of an output of that length: 12 where they do not fit.
unfoldable pub writing : (n room : ℕ) → Answer (List ℕ)
writing n room = do
  _ ← fits (length (decimal n)) room
  Ok (decimal n)
