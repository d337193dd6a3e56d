-- What the private functions promise each other: no public contract cites it. Assumes nothing.
use Rattle.std.specs.Prelude.{◌≡◌, ℕ, List, length, nat_le, Option, None, Some}
use Rattle.laws.specs.Test.{pick}
use Rattle.answer.specs.Answer.{mapped}
use Rattle.book.specs.Book.{judging}
use Rattle.month.specs.declared.invoices.Paid.{Paid}
use Rattle.month.specs.declared.Taken.{Taken}
use Rattle.pairs.specs.declared.Row.{Row}
use Rattle.pairs.specs.Rows.{rows_of, enters}
use Rattle.month.specs.Month.{records_in, amounts_in, pays}

-- rows, none where they are more than 512
unfoldable pub within : List Row → Option (List Row)
within rows = pick (nat_le (length rows) 512) (Some rows) None

-- the same of so many rows in a run of numbers
unfoldable pub told : (count : ℕ) → List ℕ → Option (List Row)
told count l = pick (nat_le count 512) (Some (rows_of count l)) None

-- some records were entered in so many rows of a run of numbers: how many rows there are then, and the run
abbrev pub EntersAll : (before : List ℕ) (count : ℕ) (records : List Row) (r : ℕ) (after : List ℕ) → Type 0
EntersAll before count records r after = told r after ≡ within (enters (rows_of count before) records)

-- a book was taken: the answer that it got, the rows with its records, and what its invoices come to
pub record Takes (book before : List ℕ) (count : ℕ) (paid : Paid) (r : Taken) (after : List ℕ) : Type 0 where
  pub answers : r.answer ≡ mapped (λ _. tt) (judging book)
  pub enters : EntersAll before count (records_in book) r.pairs after
  pub pays : r.paid ≡ pays paid (amounts_in book)
