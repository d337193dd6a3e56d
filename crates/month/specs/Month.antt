-- Month-end figures: document 02 (iv). Assumes nothing.
use Rattle.std.specs.Prelude.{◌≡◌, ℕ, suc, ◌+◌, ◌-◌, ◌≤◌, ◌&&◌, List, [], ◌∷◌, ◌++◌, length, replicate, ◌==◌, nat_le, Ok, Err, Option, None, Some}
use Rattle.laws.specs.Test.{pick}
use Rattle.answer.specs.Answer.{Answer, bare}
use Rattle.book.specs.Book.{Parts, part_of, judging}
use Rattle.book.specs.declared.Item.{Item}
use Rattle.halves.specs.declared.Halves.{Halves}
use Rattle.halves.specs.Halves.{value, halves}
use Rattle.invoice.specs.Invoice as Invoice
use Rattle.money.specs.declared.Msat.{Msat}
use Rattle.stream.specs.Stream as Stream
use Rattle.month.specs.declared.Added.{Added}
use Rattle.month.specs.declared.Figures.{Figures}
use Rattle.month.specs.declared.invoices.Paid.{Paid}
use Rattle.pairs.specs.declared.Row.{Row}
use Rattle.pairs.specs.Rows.{plus, enters, ascends, rows_of}

-- What a book brings.

-- What an outer record brings to its pair: a known record with its value bytes, or a passed-over one, which has the mark 0, with its; and the bytes spent on
-- its type and length.
unfoldable pub outer : (namespace kind mark size frame : ℕ) → Row
outer namespace kind mark size frame =
    pick (mark == 0)
    (record { namespace = namespace; kind = kind; known = 0; kept = 0; passed = 1; skipped = size; frame = frame })
    (record { namespace = namespace; kind = kind; known = 1; kept = size; passed = 0; skipped = 0; frame = frame })

-- The outer records of a stream, by the rows of its reading, from a place on: between that place and a value's start stand the record's type and length.
unfoldable pub records_from : (namespace at : ℕ) → List Stream.Row → List Row
records_from ns at [] = []
records_from ns at (r ∷ rs) = outer ns r.kind r.mark r.size (r.start - at) ∷ records_from ns (r.start + r.size) rs

-- Only accepted streams of the stream section count, with their outer records, each judged by the book's own table.
abbrev pub records_of : (namespace : ℕ) → Answer (List Stream.Row) → List Row
records_of ns (Ok rows) = records_from ns 0 rows
records_of ns (Err r) = []

unfoldable pub stream_records : (table book : List ℕ) → List Item → List Row
stream_records table book [] = []
stream_records table book (e ∷ es) = records_of e.namespace (Stream.judging table e.namespace (part_of e book)) ++ stream_records table book es

-- What the accepted invoices ask for, each an amount or none.
abbrev pub amount_of : Answer Invoice.Contents → List (Option Msat)
amount_of (Ok c) = c.hrp.msat ∷ []
amount_of (Err r) = []

unfoldable pub invoice_amounts : (book : List ℕ) → List Item → List (Option Msat)
invoice_amounts book [] = []
invoice_amounts book (e ∷ es) = amount_of (Invoice.judging (part_of e book)) ++ invoice_amounts book es

-- A book refused as a whole brings nothing.
abbrev pub brought_by : {A : Type 0} → (Parts → List A) → Answer Parts → List A
brought_by of (Ok p) = of p
brought_by of (Err r) = []

unfoldable pub records_in : (book : List ℕ) → List Row
records_in book = brought_by (λ p. stream_records p.table book p.streams.items) (judging book)

unfoldable pub amounts_in : (book : List ℕ) → List (Option Msat)
amounts_in book = brought_by (λ p. invoice_amounts book p.invoices.items) (judging book)

-- What figures hold.

-- The count of invoices, how many had no amount, and the sum in millisatoshi: with one more invoice, and with several.
abbrev pub paying : Option Msat → Paid → Paid
paying None p = record { invoices = plus p.invoices 1; unpriced = plus p.unpriced 1; sum = p.sum }
paying (Some m) p = record { invoices = plus p.invoices 1; unpriced = p.unpriced; sum = halves (value p.sum + m.0) }

unfoldable pub pays : Paid → List (Option Msat) → Paid
pays p [] = p
pays p (a ∷ rest) = pays (paying a p) rest

-- How many books were given, the rows of the pairs met, and what the invoices come to.
pub record Held : Type 0 where
  pub books : ℕ
  pub rows : List Row
  pub paid : Paid

-- What figures that go in hold, whatever they are: nothing where they have over 512 rows, or rows that do not rise.
unfoldable pub held_of : Figures → Option Held
held_of f =
    pick (nat_le f.pairs 512 && ascends 0 (rows_of f.pairs f.rows))
    (Some (record {
      books = f.books;
      rows = rows_of f.pairs f.rows;
      paid = record { invoices = f.invoices; unpriced = f.unpriced; sum = f.sum };
    }))
    None

-- Figures of zeros: those of no books, and with a count of 513 those that hold nothing, which come back with 73.
abbrev pub no_sum : Halves
no_sum = record { high = 0; low = 0 }

abbrev pub zeros : (pairs : ℕ) → Figures
zeros n = record { books = 0; pairs = n; rows = replicate 3584 0; invoices = 0; unpriced = 0; sum = no_sum }

abbrev pub empty_figures : Figures
empty_figures = zeros 0

abbrev pub no_figures : Figures
no_figures = zeros 513

-- A book is given.

-- what is held then, and the book's answer
pub record Outcome : Type 0 where
  pub held : Option Held
  pub answer : Answer (Unit {0})

abbrev pub outcome : Option Held → Answer (Unit {0}) → Outcome
outcome h a = record { held = h; answer = a }

-- 73: no figures are given
abbrev pub over : Outcome
over = outcome None (Err (bare 73))

-- A book that is looked at counts as one. If it is refused as a whole it gets its refusal and adds nothing; else its records are entered, 73 where they
-- make more than 512 rows, and its invoices are added.
unfoldable pub looking : Held → (book : List ℕ) → Answer Parts → Outcome
looking h book (Err r) = outcome (Some (record { books = suc h.books; rows = h.rows; paid = h.paid })) (Err r)
looking h book (Ok p) =
    let rows = enters h.rows (records_in book) in
    pick (nat_le (length rows) 512)
    (outcome (Some (record { books = suc h.books; rows = rows; paid = pays h.paid (amounts_in book) })) (Ok tt))
    over

-- 73 where there are no figures, even past 1,000 books; 76 for a further book, before it is looked at, and the figures so far stay.
unfoldable pub adding : Option Held → (book : List ℕ) → Outcome
adding None book = over
adding (Some h) book = pick (nat_le 1000 h.books) (outcome (Some h) (Err (bare 76))) (looking h book (judging book))

-- What `add` answers and hands back. For a further book the figures come back as they went in; where they hold nothing they are always the same.
pub record Adds (given : Figures) (book : List ℕ) (r : Added) : Type 0 where
  pub answers : r.answer ≡ (adding (held_of given) book).answer
  pub holds : held_of r.figures ≡ (adding (held_of given) book).held
  pub stays : (h : Held) → held_of given ≡ Some h → 1000 ≤ h.books → r.figures ≡ given
  pub lost : held_of r.figures ≡ None → r.figures ≡ no_figures
