-- What the program tells of an answer, and of all rows together. Assumes nothing.
use Rattle.std.specs.Prelude.{ℕ, zero, suc, ◌+◌, List, drop, slice_index, Ok, Err, Option, None, Some}
use Rattle.answer.specs.Answer.{Answer}

-- the number of a refusal
abbrev pub number_in : Answer (Unit {0}) → Option ℕ
number_in (Ok _) = None
number_in (Err r) = Some r.number

-- the sum of one of the seven numbers, by its place in a row, over so many rows
unfoldable pub column : (place count : ℕ) → List ℕ → ℕ
column place zero l = 0
column place (suc n) l = slice_index l place + column place n (drop 7 l)
