-- What `add` promises, for each of its ways. Assumes nothing.
use Rattle.std.specs.Prelude.{Ok, Err, Option, None, Some}
use Rattle.std.proofs.Common.{◌≡◌, ℕ, ◌+◌, ◌<◌, ◌≤◌, true, List, sym, refl, ap, ◌∙◌, add-one, arith}
use Rattle.answer.specs.Answer.{Answer, bare}
use Rattle.book.specs.Book.{Parts, judging}
use Rattle.month.specs.declared.Added.{Added}
use Rattle.month.specs.declared.Figures.{Figures}
use Rattle.month.specs.declared.Taken.{Taken}
use Rattle.month.specs.Month.{Held, no_figures, held_of, Outcome, outcome, over, records_in, adding, Adds}
use Rattle.month.specs.Private.{Takes}
use Rattle.pairs.specs.Rows.{rows_of, enters, ascends}
use Rattle.pairs.proofs.Entering.{enters_none, enters_rise}
use Rattle.month.proofs.Holding.{holdings, held_yes, held_over, adding_none, adding_late, adding_refused, adding_fits, adding_over, told_rows, told_over}
use Rattle.pairs.proofs.Laying.{length_rows}
use Rattle.month.proofs.Paying.{pays_none, amounts_none}
use Rattle.month.proofs.Records.{records_none}
use Rattle.pairs.proofs.Rising.{ascends_rises, rises_ascends}

-- what is held is one thing
same_held : {x : Option Held} (h k : Held) → x ≡ Some h → x ≡ Some k → h ≡ k
same_held h k a b = cc

held_is_some : {x : Option Held} (h : Held) → x ≡ Some h → x ≡ None → ⊥
held_is_some h a b = let z : ◌≡◌ {A = ℕ} 0 1 = cc in omega arith

module _ (given : Figures) (book : List ℕ) (r : Added) where
  -- no figures come back, as the definition says
  lost : adding (held_of given) book ≡ over → ((h : Held) → held_of given ≡ Some h → h.books < 1000) → r.figures ≡ no_figures →
      r.answer ≡ Err (bare 73) → Adds given book r
  lost is early figures answer =
      record {
        answers = answer ∙ sym (ap (λ (o : Outcome). o.answer) is);
        holds = ap held_of figures ∙ held_over no_figures (omega arith) ∙ sym (ap (λ (o : Outcome). o.held) is);
        stays = λ h e late. absurd (omega (arith, early h e));
        lost = λ _. figures;
      }

  pub nothing_held : held_of given ≡ None → r.figures ≡ no_figures → r.answer ≡ Err (bare 73) → Adds given book r
  nothing_held is figures answer =
      lost (ap (λ x. adding x book) is ∙ adding_none book) (λ h e. absurd (held_is_some h e is)) figures answer

  module _ (h : Held) (is : held_of given ≡ Some h) where
    -- a further book
    pub too_late : 1000 ≤ h.books → r.figures ≡ given → r.answer ≡ Err (bare 76) → Adds given book r
    too_late late figures answer =
        let step = ap (λ x. adding x book) is ∙ adding_late h book late in
        record {
          answers = answer ∙ sym (ap (λ (o : Outcome). o.answer) step);
          holds = ap held_of figures ∙ is ∙ sym (ap (λ (o : Outcome). o.held) step);
          stays = λ _ _ _. figures;
          lost = λ e. absurd (held_is_some h (ap held_of figures ∙ is) e);
        }

-- A book that was looked at.
module _ (given : Figures) (book after : List ℕ) (t : Taken) (few₀ : given.pairs ≤ 512) (rising : ascends 0 (rows_of given.pairs given.rows) ≡ true)
    (early : given.books < 1000) (takes : Takes book given.rows given.pairs (holdings given).paid t after) where
  abbrev h : Held
  h = holdings given

  is : held_of given ≡ Some h
  is = held_yes given few₀ rising

  before_late : (k : Held) → held_of given ≡ Some k → k.books < 1000
  before_late k e = rw (same_held k h e is) early

  -- its records make too many rows, so it is accepted
  over_is : 512 < t.pairs → (x : Answer Parts) → judging book ≡ x → adding (Some h) book ≡ over
  over_is many (Ok p) e = adding_over h book early p e (told_over _ _ _ takes.enters many)
  over_is many (Err q) e =
      let None = rw (records_none book q e, enters_none) at (told_over _ _ _ takes.enters many) in
      absurd (omega (arith, rw length_rows at None))

  pub too_many : 512 < t.pairs → (r : Added) → r.figures ≡ no_figures → r.answer ≡ Err (bare 73) → Adds given book r
  too_many many r figures answer =
      lost given book r (ap (λ x. adding x book) is ∙ over_is many (judging book) refl) before_late figures answer

  module _ (few : t.pairs ≤ 512) where
    abbrev next : Figures
    next =
        record {
          books = given.books + 1;
          pairs = t.pairs;
          rows = after;
          invoices = t.paid.invoices;
          unpriced = t.paid.unpriced;
          sum = t.paid.sum;
        }

    -- the rows are those with the book's records
    entered : enters h.rows (records_in book) ≡ rows_of t.pairs after
    entered = (told_rows _ _ _ takes.enters few).0

    next_held : held_of next ≡ Some (holdings next)
    next_held =
        held_yes next few (rw (← entered) (rises_ascends 0 _ (enters_rise (records_in book) h.rows (ascends_rises 0 _ rising))))

    goes : (x : Answer Parts) → judging book ≡ x → adding (Some h) book ≡ outcome (Some (holdings next)) (t.answer)
    goes (Ok p) e =
        adding_fits h book early p e (told_rows _ _ _ takes.enters few).1
        ∙ rw (takes.answers, e, entered, ← takes.pays, add-one)
    goes (Err q) e =
        adding_refused h book early q e
        ∙ rw (takes.answers, e, ← entered, takes.pays, records_none book q e, amounts_none book q e, enters_none, pays_none, add-one)

    pub taken : Adds given book (record { figures = next; answer = t.answer })
    taken =
        let step = ap (λ x. adding x book) is ∙ goes (judging book) refl in
        record {
          answers = sym (ap (λ (o : Outcome). o.answer) step);
          holds = next_held ∙ sym (ap (λ (o : Outcome). o.held) step);
          stays = λ k e late. absurd (omega (arith, before_late k e));
          lost = λ e. absurd (held_is_some (holdings next) next_held e);
        }
