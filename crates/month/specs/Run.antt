-- Books given one after the other from empty figures, and what the figures are then: document 02 (iv), directly, by filter and sum over all that the
-- books hold. Assumes nothing.
use Rattle.std.specs.Prelude.{◌≡◌, ℕ, ◌+◌, ◌<◌, ◌≤◌, Bool, false, ◌||◌, List, [], ◌∷◌, ◌++◌, length, take, ◌==◌, nat_le, nat_lt, Ok, Err, Option, None, Some}
use Rattle.laws.specs.Test.{pick}
use Rattle.answer.specs.Answer.{Answer, bare, ensure, ◌>>=◌}
use Rattle.book.specs.Book.{part_of, judging}
use Rattle.book.specs.declared.Item.{Item}
use Rattle.halves.specs.Halves.{value}
use Rattle.money.specs.declared.Msat.{Msat}
use Rattle.stream.specs.Stream as Stream
use Rattle.month.specs.declared.Added.{Added}
use Rattle.month.specs.declared.Figures.{Figures}
use Rattle.pairs.specs.declared.Row.{Row}
use Rattle.pairs.specs.Rows.{pair_of, Rises}
use Rattle.month.specs.Month.{brought_by, records_in, amounts_in, Held, Adds}

-- Figures that went from book to book through `add`, unaltered between.
unfoldable pub Passes : Figures → List (List ℕ) → Figures → Type 0
Passes f [] g = f ≡ g
Passes f (b ∷ bs) g = (r : Added) × Adds f b r × Passes r.figures bs g

-- All that books hold: the outer records of their accepted streams, what their accepted invoices ask for, and those streams themselves.
unfoldable pub throughout : {A : Type 0} → (List ℕ → List A) → List (List ℕ) → List A
throughout of [] = []
throughout of (b ∷ bs) = of b ++ throughout of bs

abbrev pub records : List (List ℕ) → List Row
records = throughout records_in

abbrev pub amounts : List (List ℕ) → List (Option Msat)
amounts = throughout amounts_in

abbrev pub stream_of : Answer (List Stream.Row) → List ℕ → List (List ℕ)
stream_of (Ok rows) s = s ∷ []
stream_of (Err r) s = []

unfoldable pub accepted_streams : (table book : List ℕ) → List Item → List (List ℕ)
accepted_streams table book [] = []
accepted_streams table book (e ∷ es) =
    stream_of (Stream.judging table e.namespace (part_of e book)) (part_of e book) ++ accepted_streams table book es

unfoldable pub streams_in : (book : List ℕ) → List (List ℕ)
streams_in book = brought_by (λ p. accepted_streams p.table book p.streams.items) (judging book)

abbrev pub streams : List (List ℕ) → List (List ℕ)
streams = throughout streams_in

-- the sum of a number over all of a list, and over the records, or rows, of a pair
unfoldable pub sum_of : {A : Type 0} → (A → ℕ) → List A → ℕ
sum_of f [] = 0
sum_of f (x ∷ xs) = f x + sum_of f xs

abbrev pub of_pair : (Row → ℕ) → (pair : ℕ) → List Row → ℕ
of_pair f pair rows = sum_of (λ r. pick (pair_of r == pair) (f r) 0) rows

-- whether a pair is among records, or rows
unfoldable pub is_met : (pair : ℕ) → List Row → Bool
is_met pair [] = false
is_met pair (r ∷ rs) = pair_of r == pair || is_met pair rs

-- how many records bring a pair that is not met before them: how many different pairs there are
unfoldable pub different : (before : List Row) → List Row → ℕ
different before [] = 0
different before (r ∷ rs) = pick (is_met (pair_of r) before) 0 1 + different (r ∷ before) rs

abbrev pub pairs_in : List (List ℕ) → ℕ
pairs_in books = different [] (records books)

-- value bytes and frame bytes
abbrev pub bytes_of : Row → ℕ
bytes_of r = r.kept + r.skipped + r.frame

abbrev pub unpriced : Option Msat → ℕ
unpriced None = 1
unpriced (Some m) = 0

abbrev pub asked : Option Msat → ℕ
asked None = 0
asked (Some m) = m.0

-- The figures of books, 1,000 at most: a row for each pair met and for no other, rising; the five numbers of a pair are sums over its records; all bytes
-- are those of the accepted streams; the invoices' numbers are exact.
pub record Monthly (books : List (List ℕ)) (h : Held) : Type 0 where
  pub given : h.books ≡ length books
  pub rises : Rises 0 h.rows
  pub few : length h.rows ≤ 512
  pub pairs : length h.rows ≡ pairs_in books
  pub met : (pair : ℕ) → is_met pair h.rows ≡ is_met pair (records books)
  pub known : (pair : ℕ) → of_pair (λ r. r.known) pair h.rows ≡ of_pair (λ r. r.known) pair (records books)
  pub kept : (pair : ℕ) → of_pair (λ r. r.kept) pair h.rows ≡ of_pair (λ r. r.kept) pair (records books)
  pub passed : (pair : ℕ) → of_pair (λ r. r.passed) pair h.rows ≡ of_pair (λ r. r.passed) pair (records books)
  pub skipped : (pair : ℕ) → of_pair (λ r. r.skipped) pair h.rows ≡ of_pair (λ r. r.skipped) pair (records books)
  pub frame : (pair : ℕ) → of_pair (λ r. r.frame) pair h.rows ≡ of_pair (λ r. r.frame) pair (records books)
  pub bytes : sum_of bytes_of h.rows ≡ sum_of length (streams books)
  pub invoices : h.paid.invoices ≡ length (amounts books)
  pub unpriced : h.paid.unpriced ≡ sum_of unpriced (amounts books)
  pub sum : value h.paid.sum ≡ sum_of asked (amounts books)

-- How a run ends: with no figures exactly where there are more than 512 different pairs, else with the figures of its books.
unfoldable pub Ends : List (List ℕ) → Option Held → Type 0
Ends books None = 512 < pairs_in books
Ends books (Some h) = Monthly books h

-- The answer to a book behind others. A book past the first 1,000 is not looked at, so those alone count.
unfoldable pub answer_behind : (before : List (List ℕ)) (book : List ℕ) → Answer (Unit {0})
answer_behind before book = do
  _ ← ensure (nat_le (pairs_in (take 1000 before)) 512) (bare 73)
  _ ← ensure (nat_lt (length before) 1000) (bare 76)
  _ ← judging book
  ensure (nat_le (pairs_in (before ++ (book ∷ []))) 512) (bare 73)
