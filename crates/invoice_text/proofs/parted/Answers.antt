-- Each of the questions 30 to 33 in its turn.
use Rattle.std.specs.Prelude.{Ok, Err}
use Rattle.std.proofs.Common.{◌≡◌, ℕ, ◌≤◌, true, false, ◌&&◌, length, sym, ap, ◌∙◌, arith}
use mathlib.Core.Bool.{and-false}
use Rattle.letters.specs.Letters.{is_upper, is_lower}
use Rattle.answer.specs.Answer.{refuse}
use Rattle.invoice_text.specs.Text.{has, is_outside, up_to_last_one}
use Rattle.invoice_text.proofs.TextLaws.{last_most, parting_long, parting_outside, parting_cases, parting_none, parting_short, parting_right}
use Rattle.invoice_text.proofs.parted.Goals as goal
use Rattle.invoice_text.proofs.parted.Goals.{After-up_to_last_one-begin, else-has-2-via-then-has-2+else-has-3, else-has-2-via-else-has-2}

pub returns-then-text-gt4096 : goal.returns-then-text-gt4096
returns-then-text-gt4096 c = rw (c.bare.ensures, parting_long c.args.text.now (omega arith))

pub returns-then-has : goal.returns-then-has
returns-then-has c =
    rw (parting_outside c.args.text.now (omega arith) (sym c.has.ensures ∙ c.if-has.true))
    (ap Err c.at.ensures ∙ ap (λ (p : ℕ). Err (refuse 31 p 0)) c.first_where-place.ensures)

pub returns-then-has-3 : goal.returns-then-has-3
returns-then-has-3 c =
    let s = c.args.text.now in
    let upper : has is_upper s ≡ true = sym c.has-2.ensures ∙ c.if-has-2.true in
    let lower : has is_lower s ≡ true = sym c.has-then-has-2.ensures ∙ c.if-has-3.true in
    rw (c.bare-then-has-3.ensures, parting_cases s (omega arith) (sym c.has.ensures ∙ c.if-has.false) (rw (upper, lower)))

-- The text behind the first questions: no byte is outside, and its letters are of one case.
record Plain (c : After-up_to_last_one-begin) : Type 0 where
  short : length c.args.text.now ≤ 4096
  inside : has is_outside c.args.text.now ≡ false
  one_case : (has is_upper c.args.text.now && has is_lower c.args.text.now) ≡ false

plain : (c : After-up_to_last_one-begin) → Plain c
plain c =
    let s = c.args.text.now in
    record {
      short = omega arith;
      inside = sym c.has.ensures ∙ c.if-has.false;
      one_case =
          elim c.else-has-2.branch [
            | else-has-2-via-then-has-2+else-has-3 w ↦
                let lower : has is_lower s ≡ false = sym w.has-then-has-2.ensures ∙ w.if-has-3.false in
                rw (lower, and-false)
            | else-has-2-via-else-has-2 w ↦
                let upper : has is_upper s ≡ false = sym c.has-2.ensures ∙ w.if-has-2.false in
                rw upper
          ];
    }

pub returns-then-begin-lt2 : goal.returns-then-begin-lt2
returns-then-begin-lt2 c =
    let p = plain (goal.at.returns-then-begin-lt2 c).After-up_to_last_one-begin in
    rw (c.bare-then-begin-lt2.ensures, parting_none c.args.text.now p.short p.inside p.one_case (omega (arith, c.up_to_last_one-begin.ensures)))

pub overflow_sub-text : goal.overflow_sub-text
overflow_sub-text c = omega (arith, c.up_to_last_one-begin.ensures, last_most c.args.text.now)

pub returns-then-text-begin-lt117 : goal.returns-then-text-begin-lt117
returns-then-text-begin-lt117 c =
    let p = plain (goal.at.returns-then-text-begin-lt117 c).After-up_to_last_one-begin in
    let some : 2 ≤ up_to_last_one c.args.text.now = omega (arith, c.up_to_last_one-begin.ensures) in
    rw (c.bare-then-text-begin-lt117.ensures, parting_short c.args.text.now p.short p.inside p.one_case some (omega (arith, c.up_to_last_one-begin.ensures)))

pub returns : goal.returns
returns c =
    let p = plain (goal.at.returns c).After-up_to_last_one-begin in
    let some : 2 ≤ up_to_last_one c.args.text.now = omega (arith, c.up_to_last_one-begin.ensures) in
    rw (parting_right c.args.text.now p.short p.inside p.one_case some (omega (arith, c.up_to_last_one-begin.ensures)))
    (ap Ok c.up_to_last_one-begin.ensures)
