-- The index of a stream, whether a type is there, and its value (document 01, "The table of known types"). Assumes nothing.
use Rattle.std.specs.Prelude.{List, [], ◌∷◌, ℕ, ◌+◌, eqb, take, drop, Ok, Err}
use Rattle.laws.specs.Test.{pick}
use Rattle.answer.specs.Answer.{Answer, refuse, ◌>>=◌}
use Rattle.answer.specs.declared.Part.{Part}
use Rattle.stream.specs.Stream.{Row, judging_from}

-- The index: `per_row` numbers to a record.
unfoldable pub numbers : List Row → List ℕ
numbers [] = []
numbers (r ∷ rs) = r.kind ∷ r.start ∷ r.size ∷ r.mark ∷ numbers rs

-- Where the value of a type lies: 15 with the asked type where no outer record has it.
unfoldable pub find : (kind : ℕ) → List Row → Answer Part
find kind [] = Err (refuse 15 0 kind)
find kind (r ∷ rs) = pick (eqb r.kind kind) (Ok (record { start = r.start; size = r.size })) (find kind rs)

abbrev pub sought : (kind : ℕ) → Answer (List Row) → Answer Part
sought kind rows = rows >>= find kind

-- in the stream that lies in the lent bytes from a place on
unfoldable pub locating_from : (at : ℕ) → List ℕ → (namespace : ℕ) → List ℕ → (kind : ℕ) → Answer Part
locating_from at table ns s kind = sought kind (judging_from at table ns s)

abbrev pub locating : List ℕ → (namespace : ℕ) → List ℕ → (kind : ℕ) → Answer Part
locating = locating_from 0

-- The part of the stream that was located, empty without one.
abbrev pub part_of : List ℕ → Answer Part → List ℕ
part_of s (Ok x) = take x.size (drop x.start s)
part_of s (Err r) = []

-- Where it lies in memory, by where the stream does, since it is a part of the caller's own bytes; without one it is an empty part at the stream's first
-- byte. A place in memory is a block and an offset in it.
abbrev pub part_at : ℕ × ℕ → Answer Part → ℕ × ℕ
part_at s (Ok x) = (s.0, s.1 + x.start)
part_at s (Err r) = s
