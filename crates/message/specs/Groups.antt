-- The groups of message types: document 01, "Messages". Assumes nothing.
use Rattle.std.specs.Prelude.{ℕ, leb}
use Rattle.laws.specs.Test.{pick}

-- 1 for 0 to 31, 2 to 127, 3 to 255, 4 to 511, 5 for 32,768 and up, otherwise 0
unfoldable pub type_group : (kind : ℕ) → ℕ
type_group kind =
    pick (leb kind 31) 1
    (pick (leb kind 127) 2
    (pick (leb kind 255) 3
    (pick (leb kind 511) 4
    (pick (leb 32768 kind) 5
    0))))
