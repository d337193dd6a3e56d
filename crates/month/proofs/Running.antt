-- What is held after books that were given one after the other. Assumes nothing.
use Rattle.std.specs.Prelude.{Ok, Err, Option, None, Some}
use Rattle.std.proofs.Common.{◌≡◌, ℕ, suc, ◌<◌, ◌≤◌, true, false, leb, List, [], ◌∷◌, ◌++◌, length, take, sym, refl, ap, ◌∙◌, append_assoc, append-nil, le_refl, add-one, arith, length-append, length-take-le, take_all, le-ltb, lt-ltb, le-leb}
use borrow.Author.Tests.{lt-leb}
use lib.Seq.{take-append-le}
use Rattle.laws.specs.Test.{pick}
use Rattle.laws.proofs.Test.{pick_yes, pick_no, by_order}
use Rattle.answer.specs.Answer.{Answer, bare, ensure}
use Rattle.answer.specs.declared.Refusal.{Refusal}
use Rattle.answer.proofs.Answer.{then_accepted, then_refused, ensure_yes, ensure_no, holds, fails}
use Rattle.book.specs.Book.{Parts, judging}
use Rattle.month.specs.declared.Figures.{Figures}
use Rattle.month.specs.declared.invoices.Paid.{Paid}
use Rattle.pairs.specs.declared.Row.{Row}
use Rattle.month.specs.Month.{records_in, amounts_in, pays, Held, no_sum, held_of, Outcome, outcome, adding}
use Rattle.pairs.specs.Rows.{enters}
use Rattle.month.specs.Run.{Passes, throughout, records, amounts, pairs_in, answer_behind}
use Rattle.pairs.proofs.Entering.{enters_none, enters_append, enters_longer}
use Rattle.month.proofs.Holding.{adding_none, adding_late, adding_refused, adding_fits, adding_over}
use Rattle.month.proofs.Meeting.{entered_pairs}
use Rattle.month.proofs.Paying.{pays_none, pays_append, amounts_none}
use Rattle.month.proofs.Records.{records_none}
use Rattle.month.proofs.Sums.{throughout_append}

-- the rows of books, and all that is held of them; nothing where the rows are too many
abbrev pub rows_after : List (List ℕ) → List Row
rows_after books = enters [] (records books)

abbrev pub nothing_paid : Paid
nothing_paid = record { invoices = 0; unpriced = 0; sum = no_sum }

abbrev pub sums_after : List (List ℕ) → Held
sums_after books = record { books = length books; rows = rows_after books; paid = pays nothing_paid (amounts books) }

unfoldable pub held_after : List (List ℕ) → Option Held
held_after books = pick (leb (length (rows_after books)) 512) (Some (sums_after books)) None

module _ (books : List (List ℕ)) where
  pub after_few : length (rows_after books) ≤ 512 → held_after books ≡ Some (sums_after books)
  unfolding held_after
  after_few few = pick_yes _ _ _ (le-leb _ _ few)

  pub after_many : 512 < length (rows_after books) → held_after books ≡ None
  unfolding held_after
  after_many many = pick_no _ _ _ (lt-leb _ _ many)

  pub pairs_after : length (rows_after books) ≡ pairs_in books
  pairs_after = entered_pairs (records books)

  pairs_few : length (rows_after books) ≤ 512 → leb (pairs_in books) 512 ≡ true
  pairs_few few = le-leb (pairs_in books) 512 (rw pairs_after at few)

  pairs_many : 512 < length (rows_after books) → leb (pairs_in books) 512 ≡ false
  pairs_many many = lt-leb (pairs_in books) 512 (rw pairs_after at many)

-- A book behind others that are less than 1,000.
module _ (before : List (List ℕ)) (book : List ℕ) where
  abbrev all : List (List ℕ)
  all = before ++ (book ∷ [])

  one_more : {A : Type 0} (of : List ℕ → List A) → throughout of all ≡ throughout of before ++ of book
  unfolding throughout
  one_more of = throughout_append of before (book ∷ []) ∙ ap (λ x. throughout of before ++ x) (append-nil (of book))

  rows_all : rows_after all ≡ enters (rows_after before) (records_in book)
  rows_all = ap (enters []) (one_more records_in) ∙ enters_append [] (records before) (records_in book)

  paid_all : pays nothing_paid (amounts all) ≡ pays (pays nothing_paid (amounts before)) (amounts_in book)
  paid_all = ap (pays nothing_paid) (one_more amounts_in) ∙ pays_append nothing_paid (amounts before) (amounts_in book)

  count_all : length all ≡ suc (length before)
  count_all = length-append before (book ∷ []) ∙ add-one (length before)

  -- The answer, for each way.
  answer_lost : 512 < length (rows_after (take 1000 before)) → answer_behind before book ≡ Err (bare 73)
  unfolding answer_behind
  answer_lost many = ensure_no _ _ _ (pairs_many (take 1000 before) many)

  module _ (few : length (rows_after (take 1000 before)) ≤ 512) where
    answer_late : 1000 ≤ length before → answer_behind before book ≡ Err (bare 76)
    unfolding answer_behind
    answer_late late = ensure_yes _ _ _ (pairs_few (take 1000 before) few) ∙ ensure_no _ _ _ (le-ltb _ _ late)

    module _ (early : length before < 1000) where
      answer_refused : (r : Refusal) → judging book ≡ Err r → answer_behind before book ≡ Err r
      unfolding answer_behind
      answer_refused r e = ensure_yes _ _ _ (pairs_few (take 1000 before) few) ∙ ensure_yes _ _ _ (lt-ltb _ _ early) ∙ then_refused r _ _ e

      module _ (p : Parts) (e : judging book ≡ Ok p) where
        answer_pairs : answer_behind before book ≡ ensure (leb (pairs_in all) 512) (bare 73)
        unfolding answer_behind
        answer_pairs = ensure_yes _ _ _ (pairs_few (take 1000 before) few) ∙ ensure_yes _ _ _ (lt-ltb _ _ early) ∙ then_accepted p _ _ e

        answer_over : 512 < length (rows_after all) → answer_behind before book ≡ Err (bare 73)
        answer_over many = answer_pairs ∙ fails _ _ (pairs_many all many)

        answer_added : length (rows_after all) ≤ 512 → answer_behind before book ≡ Ok tt
        answer_added few' = answer_pairs ∙ holds _ _ (pairs_few all few')

  -- What a further book makes of what is held.
  abbrev Step : Type 0
  Step = adding (held_after (take 1000 before)) book ≡ outcome (held_after (take 1000 all)) (answer_behind before book)

  step_late : 1000 ≤ length before → Step
  step_late late =
      let same : take 1000 all ≡ take 1000 before = take-append-le 1000 before (book ∷ []) late in
      let count : 1000 ≤ length (take 1000 before) = rw (length-take-le 1000 before late) (le_refl 1000) in
      rw same
      (by_order 512 (length (rows_after (take 1000 before)))
      (λ many. rw (after_many (take 1000 before) many, answer_lost many) (adding_none book))
      (λ few. rw (after_few (take 1000 before) few, answer_late few late) (adding_late (sums_after (take 1000 before)) book count)))

  module _ (early : length before < 1000) where
    whole : take 1000 before ≡ before
    whole = take_all 1000 before (omega arith)

    whole_all : take 1000 all ≡ all
    whole_all = take_all 1000 all (rw count_all early)

    -- with few rows before it
    step_looked : length (rows_after before) ≤ 512 → (x : Answer Parts) → judging book ≡ x →
        adding (Some (sums_after before)) book ≡ outcome (held_after all) (answer_behind before book)
    step_looked few (Err r) e =
        let None = records_none book r e in
        let same : rows_after all ≡ rows_after before = rows_all ∙ rw (None, enters_none) in
        let paid : pays nothing_paid (amounts all) ≡ pays nothing_paid (amounts before) = paid_all ∙ rw (amounts_none book r e, pays_none) in
        adding_refused (sums_after before) book early r e
        ∙ rw (after_few all (rw same few), answer_refused (rw whole few) early r e, same, paid, count_all)
    step_looked few (Ok p) e =
        by_order 512 (length (rows_after all))
        (λ many.
        adding_over (sums_after before) book early p e (rw rows_all at many)
        ∙ rw (after_many all many, answer_over (rw whole few) early p e many))
        (λ few'.
        adding_fits (sums_after before) book early p e (rw rows_all at few')
        ∙ rw (after_few all few', answer_added (rw whole few) early p e few', rows_all, paid_all, count_all))

    step_early : Step
    step_early =
        rw (whole, whole_all)
        (by_order 512 (length (rows_after before))
        (λ many.
        let longer : 512 < length (rows_after all) = rw rows_all (omega (arith, enters_longer (records_in book) (rows_after before))) in
        rw (after_many before many, after_many all longer, answer_lost (rw whole many)) (adding_none book))
        (λ few. rw (after_few before few) (step_looked few (judging book) refl)))

  pub step : Step
  step = by_order (length before) 1000 step_early step_late

-- What figures hold that went through books, behind others.
pub passes_held : (books before : List (List ℕ)) (f g : Figures) → held_of f ≡ held_after (take 1000 before) → Passes f books g →
    held_of g ≡ held_after (take 1000 (before ++ books))
unfolding Passes
passes_held [] before f g h p = ap held_of (sym p) ∙ h ∙ ap (λ b. held_after (take 1000 b)) (sym (append-nil before))
passes_held (book ∷ books) before f g h p =
    let next = p.1.holds ∙ ap (λ x. (adding x book).held) h ∙ ap (λ (o : Outcome). o.held) (step before book) in
    passes_held books (before ++ (book ∷ [])) p.0.figures g next p.2
    ∙ ap (λ b. held_after (take 1000 b)) (append_assoc before (book ∷ []) books)
