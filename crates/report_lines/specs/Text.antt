-- Text: words and decimal numbers. Assumes nothing.
use Prim.Native.Char.{code}
use Rattle.std.specs.Prelude.{ℕ, zero, suc, ◌+◌, ◌/◌, ◌%◌, List, [], ◌∷◌, ◌++◌, ltb, length, take, drop}
use Prim.Native.String.{String, [] as noText, ◌∷◌ as ◌then◌}
use Rattle.laws.specs.Test.{pick}

-- the codes of a text's characters
abbrev pub text : String → List ℕ
text noText = []
text (c then s) = code c ∷ text s

-- A number in decimal: its last digit, behind those of the rest. No number here has more than 20 digits, since each fits 64 bits; the count makes the
-- definition end.
unfoldable pub decimal_in : (most n : ℕ) → List ℕ
decimal_in zero n = []
decimal_in (suc most) n = pick (ltb n 10) ((48 + n) ∷ []) (decimal_in most (n / 10) ++ ((48 + n % 10) ∷ []))

abbrev pub decimal : ℕ → List ℕ
decimal n = decimal_in 20 n

-- words and a number; and the same at the end of a line
abbrev pub worded : String → ℕ → List ℕ
worded words n = text words ++ decimal n

abbrev pub ending : String → ℕ → List ℕ
ending words n = worded words n ++ text "\n"

-- as much of a text as an output has room for, at its front; behind it the output is as it was
abbrev pub laid : (bytes out : List ℕ) → List ℕ
laid bytes out = take (length out) bytes ++ drop (length bytes) out
