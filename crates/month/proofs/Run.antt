-- A run of books: what the figures are at its end, and what each book is answered: document 02 (iv). Assumes nothing.
use Rattle.std.proofs.Common.{◌≡◌, ℕ, ◌+◌, ◌^◌, ◌<◌, ◌≤◌, List, [], length, take, sym, refl, ap, ◌∙◌, zero-add, arith, length-take}
use native.Mathlib.Nat.{min-le_left}
use Rattle.laws.proofs.Test.{by_order}
use Rattle.halves.proofs.Laws.{value_halves}
use Rattle.month.specs.declared.Added.{Added}
use Rattle.month.specs.declared.Figures.{Figures}
use Rattle.pairs.specs.declared.Row.{Row}
use Rattle.month.specs.Month.{pays, empty_figures, held_of, Outcome, adding, Adds}
use Rattle.pairs.specs.Rows.{enters, joined, rows_of, ascends}
use Rattle.month.specs.Run.{Passes, throughout, records, amounts, streams, sum_of, of_pair, is_met, bytes_of, Monthly, Ends, answer_behind}
use Rattle.month.proofs.Amounts.{amounts_few, sum_fits, Pays, pays_exact}
use Rattle.month.proofs.Brought.{books_hold, bytes_fit}
use Rattle.pairs.proofs.Entering.{none_rise, enters_rise}
use Rattle.month.proofs.Holding.{held_yes}
use Rattle.month.proofs.Meeting.{enters_met}
use Rattle.month.proofs.Running.{rows_after, nothing_paid, sums_after, held_after, after_few, after_many, pairs_after, step, passes_held}
use Rattle.month.proofs.Totals.{plus_fits, bytes_add, enters_sum, pair_exact}

-- The figures of at most 1,000 books, where they have few rows.
module _ (books : List (List ℕ)) (some-books : length books ≤ 1000) where
  -- a number of each pair, which adds up and is no more than a record's bytes
  numbers_are : (f : Row → ℕ) → ((r m : Row) → f r + f m < 2 ^ 64 → f (joined r m) ≡ f r + f m) →
      ((m : Row) → m.known + m.passed ≤ m.frame → f m ≤ bytes_of m) → (pair : ℕ) → of_pair f pair (rows_after books) ≡ of_pair f pair (records books)
  numbers_are f adds most pair = pair_exact (records books) (books_hold books).1 (bytes_fit books some-books) f adds most pair

  bytes_are : sum_of bytes_of (rows_after books) ≡ sum_of length (streams books)
  unfolding sum_of
  bytes_are = enters_sum bytes_of bytes_add (records books) [] (rw zero-add (bytes_fit books some-books)) ∙ zero-add (sum_of bytes_of (records books)) ∙ (books_hold books).0

  paid_are : Pays nothing_paid (amounts books)
  paid_are =
      pays_exact (2 ^ 128) value_halves nothing_paid (amounts books) (rw zero-add (amounts_few books some-books)) (rw zero-add (amounts_few books some-books))
      (rw zero-add (sum_fits books some-books))

  monthly : length (rows_after books) ≤ 512 → Monthly books (sums_after books)
  unfolding is_met
  monthly few =
      let paid = paid_are in
      record {
        given = refl;
        rises = enters_rise (records books) [] none_rise;
        few = few;
        pairs = pairs_after books;
        met = λ pair. enters_met pair (records books) [];
        known = numbers_are (λ r. r.known) (λ r m. plus_fits r.known m.known) (λ m h. omega arith);
        kept = numbers_are (λ r. r.kept) (λ r m. plus_fits r.kept m.kept) (λ m h. omega arith);
        passed = numbers_are (λ r. r.passed) (λ r m. plus_fits r.passed m.passed) (λ m h. omega arith);
        skipped = numbers_are (λ r. r.skipped) (λ r m. plus_fits r.skipped m.skipped) (λ m h. omega arith);
        frame = numbers_are (λ r. r.frame) (λ r m. plus_fits r.frame m.frame) (λ m h. omega arith);
        bytes = bytes_are;
        invoices = paid.invoices ∙ zero-add _;
        unpriced = paid.unpriced ∙ zero-add _;
        sum = paid.sum ∙ zero-add _;
      }

  ends : Ends books (held_after books)
  unfolding Ends
  ends =
      by_order 512 (length (rows_after books))
      (λ many. rw (after_many books many) (rw pairs_after at many))
      (λ few. rw (after_few books few) (monthly few))

-- empty figures are those of no books
empty_held : held_of empty_figures ≡ held_after []
unfolding ascends rows_of throughout enters pays
empty_held = held_yes empty_figures (omega arith) refl ∙ sym (after_few [] (omega arith))

-- What figures hold that went from empty through any books, unaltered between, are the direct figures of the first 1,000 of them, where those have no more than
-- 512 different pairs of namespace and type; else they hold nothing.
pub month_end : (books : List (List ℕ)) (figures : Figures) → Passes empty_figures books figures → Ends (take 1000 books) (held_of figures)
month_end books figures p =
    rw (passes_held books [] empty_figures figures empty_held p) (ends (take 1000 books) (rw length-take (min-le_left 1000 (length books))))

-- A book behind others gets 73 where those have too many pairs, else 76 where they are 1,000, else its own refusal, else 73 where it brings a pair too many.
pub book_answer : (before : List (List ℕ)) (figures : Figures) → Passes empty_figures before figures → (book : List ℕ) (r : Added) → Adds figures book r →
    r.answer ≡ answer_behind before book
book_answer before figures p book r adds =
    adds.answers
    ∙ ap (λ x. (adding x book).answer) (passes_held before [] empty_figures figures empty_held p)
    ∙ ap (λ (o : Outcome). o.answer) (step before book)
