-- The answers about month-end figures as structs: document 02 (iv). Assumes nothing.
use Rattle.std.specs.Prelude.{List, ◌≡◌, ℕ, ◌≤◌, Option, None, Some}
use Rattle.c_answer.specs.Results.{refusal_of, yes, none}
use Rattle.halves.specs.declared.Halves.{Halves}
use Rattle.month.specs.Month.{Held, held_of, adding, no_sum, no_figures}
use Rattle.month.specs.declared.Added.{Added as Answered}
use Rattle.month.specs.declared.Figures.{Figures}
use Rattle.c_month.specs.declared.Added.{Added}
use Rattle.c_month.specs.declared.Satoshi.{Satoshi}

-- What `month::add` answers, as a struct: the figures come back beside a refusal too.
abbrev pub added_of : Answered → Added
added_of a = record { refusal = refusal_of a.answer; figures = a.figures }

-- The struct for a book given to figures: the refusal, what the figures hold then, that they stay for a further book, and that they are always the same where
-- they hold nothing.
pub record Adds (given : Figures) (book : List ℕ) (r : Added) : Type 0 where
  pub answers : r.refusal ≡ refusal_of (adding (held_of given) book).answer
  pub holds : held_of r.figures ≡ (adding (held_of given) book).held
  pub stays : (h : Held) → held_of given ≡ Some h → 1000 ≤ h.books → r.figures ≡ given
  pub lost : held_of r.figures ≡ None → r.figures ≡ no_figures

-- a thousandth of a sum, or none where it is not whole
abbrev pub satoshi_of : Option Halves → Satoshi
satoshi_of (Some s) = record { outcome = yes; satoshi = s }
satoshi_of None = record { outcome = none; satoshi = no_sum }
