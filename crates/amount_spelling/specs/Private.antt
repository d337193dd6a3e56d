-- What the private functions promise each other: no public contract cites it. Assumes nothing.
use Prim.Native.Char.{code}
use Rattle.std.specs.Prelude.{ℕ, ◌-◌, Bool, ◌&&◌, List, ltb, leb, eqb, length, get_or}

-- the character before so many at the end
abbrev pub from_end : (text : List ℕ) (behind : ℕ) → ℕ
from_end text behind = get_or text (length text - behind) 0

-- whether a text ends in three zeros and a letter: all letters have a code above that of 9
abbrev pub is_thousands : (text : List ℕ) → Bool
is_thousands text = leb 4 (length text) && ltb (code "9") (from_end text 1) && eqb (from_end text 2) (code "0") && eqb (from_end text 3) (code "0") && eqb (from_end text 4) (code "0")
