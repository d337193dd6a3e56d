-- What it means that a sum in two halves and its digits are exact: document 02 (iv). Assumes nothing.
use Prim.Native.Char.{code}
use Rattle.std.specs.Prelude.{ℕ, ◌+◌, ◌-◌, ◌*◌, List, [], ◌∷◌}
use Rattle.halves.specs.Halves.{value, halves}
use Rattle.halves.specs.declared.Halves.{Halves}

-- numbers added to a sum one after the other, as `add` does
unfoldable pub summed : Halves → List ℕ → Halves
summed sum [] = sum
summed sum (x ∷ xs) = summed (halves (value sum + x)) xs

-- their total
unfoldable pub total : List ℕ → ℕ
total [] = 0
total (x ∷ xs) = x + total xs

-- the number that decimal digits spell, behind those that were read before
unfoldable pub spelled : (before : ℕ) → List ℕ → ℕ
spelled before [] = before
spelled before (c ∷ cs) = spelled (before * 10 + (c - code "0")) cs
