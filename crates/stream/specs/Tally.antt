-- How a stream is summed up: the counts of its outer records (document 01, "The table of known types"). Assumes nothing.
use Rattle.std.specs.Prelude.{List, [], ◌∷◌, ℕ, ◌+◌, eqb, length, Ok, Err}
use Rattle.laws.specs.Test.{pick}
use Rattle.answer.specs.Answer.{Answer}
use Rattle.stream.specs.Stream.{Row}
use Rattle.stream.specs.declared.Counts.{Counts}

-- how much a mark adds to the known ones
abbrev pub counted : (mark : ℕ) → ℕ
counted mark = pick (eqb mark 0) 0 1

unfoldable pub knowns : List Row → ℕ
knowns [] = 0
knowns (r ∷ rs) = counted r.mark + knowns rs

abbrev pub tally : List Row → Counts
tally rows = record { records = length rows; known = knowns rows }

-- The counts of some records, joined to those of the rest.
abbrev pub joined : (records known : ℕ) → Answer Counts → Answer Counts
joined r k (Ok t) = Ok (record { records = r + t.records; known = k + t.known })
joined r k (Err q) = Err q
