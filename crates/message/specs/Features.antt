-- The two feature maps of an init, joined: document 01, "Messages". Assumes nothing.
use Rattle.std.specs.Prelude.{ℕ, ◌-◌, max, length, replicate, Ok}
use mathlib.Core.List.{List, ◌++◌, zip_with}
use Rattle.std.specs.Int.Bits.{bit_or}
use Rattle.answer.specs.Answer.{Answer, fitting}

-- a map with zero bytes in front, n bytes in all, so that maps are aligned at their last bytes
unfoldable pub padded : (n : ℕ) → List ℕ → List ℕ
padded n l = replicate (n - length l) 0 ++ l

-- The OR of two maps, byte by byte, as long as the longer.
unfoldable pub joined : (a b : List ℕ) → List ℕ
joined a b =
    let n = max (length a) (length b) in
    zip_with bit_or (padded n a) (padded n b)

-- The bytes written at the front of an output of that length: 12 where they do not fit.
abbrev pub joining : (a b : List ℕ) (room : ℕ) → Answer (List ℕ)
joining a b room = fitting length room (Ok (joined a b))
