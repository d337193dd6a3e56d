-- What figures hold, and what a book makes of them: a law for each answer. Assumes nothing.
use Rattle.std.specs.Prelude.{Ok, Err, None, Some}
use Rattle.std.proofs.Common.{◌≡◌, ℕ, suc, ◌<◌, ◌≤◌, true, false, List, length, sym, refl, ap, ◌∙◌, arith, le-leb}
use borrow.Author.Tests.{lt-leb}
use Rattle.laws.proofs.Test.{pick_yes, pick_no, by_order}
use Rattle.answer.specs.Answer.{bare}
use Rattle.answer.specs.declared.Refusal.{Refusal}
use Rattle.book.specs.Book.{Parts, judging}
use Rattle.month.specs.declared.Figures.{Figures}
use Rattle.pairs.specs.declared.Row.{Row}
use Rattle.month.specs.Month.{records_in, amounts_in, pays, Held, held_of, outcome, over, looking, adding}
use Rattle.month.specs.Private.{within, told}
use Rattle.pairs.specs.Rows.{enters, ascends, rows_of}
use Rattle.pairs.proofs.Entering.{enters_longer}

-- what figures hold, where they hold something
abbrev pub holdings : Figures → Held
holdings f =
    record {
      books = f.books;
      rows = rows_of f.pairs f.rows;
      paid = record { invoices = f.invoices; unpriced = f.unpriced; sum = f.sum };
    }

module _ (f : Figures) where
  pub held_over : 512 < f.pairs → held_of f ≡ None
  unfolding held_of
  held_over many = pick_no _ _ _ (rw (lt-leb _ _ many))

  module _ (few : f.pairs ≤ 512) where
    pub held_falls : ascends 0 (rows_of f.pairs f.rows) ≡ false → held_of f ≡ None
    unfolding held_of
    held_falls falls = pick_no _ _ _ (rw (le-leb _ _ few, falls))

    pub held_yes : ascends 0 (rows_of f.pairs f.rows) ≡ true → held_of f ≡ Some (holdings f)
    unfolding held_of
    held_yes rises = pick_yes _ _ _ (rw (le-leb _ _ few, rises))

-- A book is given.
module _ (h : Held) (book : List ℕ) where
  pub adding_late : 1000 ≤ h.books → adding (Some h) book ≡ outcome (Some h) (Err (bare 76))
  unfolding adding
  adding_late l = pick_yes _ _ _ (le-leb _ _ l)

  module _ (early : h.books < 1000) where
    looks : adding (Some h) book ≡ looking h book (judging book)
    unfolding adding
    looks = pick_no _ _ _ (lt-leb _ _ early)

    pub adding_refused : (r : Refusal) → judging book ≡ Err r →
        adding (Some h) book ≡ outcome (Some (record { books = suc h.books; rows = h.rows; paid = h.paid })) (Err r)
    unfolding looking
    adding_refused r e = looks ∙ ap (looking h book) e

    module _ (p : Parts) (fine : judging book ≡ Ok p) where
      pub adding_fits : length (enters h.rows (records_in book)) ≤ 512 →
          adding (Some h) book
          ≡ outcome (Some (record { books = suc h.books; rows = enters h.rows (records_in book); paid = pays h.paid (amounts_in book) })) (Ok tt)
      unfolding looking
      adding_fits few = looks ∙ ap (looking h book) fine ∙ pick_yes _ _ _ (le-leb _ _ few)

      pub adding_over : 512 < length (enters h.rows (records_in book)) → adding (Some h) book ≡ over
      unfolding looking
      adding_over many = looks ∙ ap (looking h book) fine ∙ pick_no _ _ _ (lt-leb _ _ many)

pub adding_none : (book : List ℕ) → adding None book ≡ over
unfolding adding
adding_none book = refl

-- Rows that were entered in a run of numbers, or are too many.
module _ (rows : List Row) where
  pub within_yes : length rows ≤ 512 → within rows ≡ Some rows
  unfolding within
  within_yes h = pick_yes _ _ _ (le-leb _ _ h)

  pub within_no : 512 < length rows → within rows ≡ None
  unfolding within
  within_no h = pick_no _ _ _ (lt-leb _ _ h)

pub told_yes : (count : ℕ) (l : List ℕ) → count ≤ 512 → told count l ≡ Some (rows_of count l)
unfolding told
told_yes count l h = pick_yes _ _ _ (le-leb _ _ h)

pub told_no : (count : ℕ) (l : List ℕ) → 512 < count → told count l ≡ None
unfolding told
told_no count l h = pick_no _ _ _ (lt-leb _ _ h)

-- once there are too many, more records change nothing
pub within_over : (rows ms : List Row) → 512 < length rows → within (enters rows ms) ≡ None
within_over rows ms h = within_no (enters rows ms) (omega (arith, enters_longer ms rows))

module _ (count : ℕ) (l : List ℕ) (rows : List Row) (is : told count l ≡ within rows) where
  -- the run's rows are those
  pub told_rows : count ≤ 512 → (rows ≡ rows_of count l) × (length rows ≤ 512)
  told_rows h =
      by_order 512 (length rows)
      (λ many. absurd (let z : None ≡ Some (rows_of count l) = sym (within_no rows many) ∙ sym is ∙ told_yes count l h in let y : ◌≡◌ {A = ℕ} 0 1 = cc in omega arith))
      (λ few. (let z : Some rows ≡ Some (rows_of count l) = sym (within_yes rows few) ∙ sym is ∙ told_yes count l h in cc, few))

  pub told_over : 512 < count → 512 < length rows
  told_over h =
      by_order 512 (length rows)
      (λ many. many)
      (λ few. absurd (let z : Some rows ≡ None = sym (within_yes rows few) ∙ sym is ∙ told_no count l h in let y : ◌≡◌ {A = ℕ} 0 1 = cc in omega arith))
