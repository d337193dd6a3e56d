-- Letters among the characters of a text, and a text in lower case. Assumes nothing.
use Rattle.std.specs.Prelude.{ℕ, ◌+◌, Bool, ◌&&◌, leb}
use Rattle.laws.specs.Test.{pick}

-- A to Z
abbrev pub is_upper : (c : ℕ) → Bool
is_upper c = leb 65 c && leb c 90

-- a to z
abbrev pub is_lower : (c : ℕ) → Bool
is_lower c = leb 97 c && leb c 122

-- an upper-case letter becomes the lower-case one; every other character stays
unfoldable pub lower : (c : ℕ) → ℕ
lower c = pick (is_upper c) (c + 32) c
