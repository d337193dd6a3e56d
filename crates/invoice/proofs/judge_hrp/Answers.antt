-- The prefix, then the amount.
use mathlib.Core.Path.{sym, ap, ◌∙◌}
use Prim.Native.Nat.{◌≤◌}
use lib.ListN.{length}
use lib.Seq.{length-take-le}
use Rattle.answer.specs.Answer.{mapped}
use Rattle.answer.proofs.Answer.{handed_on}
use Rattle.money.specs.Amount.{is_digit}
use Rattle.invoice_text.proofs.FirstWhere.{first_most}
use Rattle.invoice.specs.Private.{hrp_of}
use Rattle.invoice.proofs.InvoiceLaws.{hrp_none, hrp_refused, hrp_fine}
use Rattle.invoice.proofs.judge_hrp.Goals as goal
use Rattle.invoice.proofs.judge_hrp.Goals.{After-first_where-start}

-- the first digit's place is in the text, or its end
within : (f : After-first_where-start) → f.first_where-start.result ≤ length f.args.hrp.now
within f = rw f.first_where-start.ensures (first_most is_digit f.args.hrp.now)

pub slice_bounds-prefix_number-end : goal.slice_bounds-prefix_number-end
slice_bounds-prefix_number-end c = sym (length-take-le _ _ (within (goal.at.slice_bounds-prefix_number-end c).After-first_where-start))

pub returns-in_err-prefix : goal.returns-in_err-prefix
returns-in_err-prefix c =
    rw (hrp_none c.args.hrp.now c.first_where-start.result c.first_where-start.ensures _ (sym c.prefix_number.ensures ∙ c.in_err-prefix.was))
    (handed_on c.from_residual.ensures.1)

pub slice_bounds-characters-count : goal.slice_bounds-characters-count
slice_bounds-characters-count c = within (goal.at.slice_bounds-characters-count c).After-first_where-start

pub slice_bounds-characters-start : goal.slice_bounds-characters-start
slice_bounds-characters-start c = within (goal.at.slice_bounds-characters-start c).After-first_where-start

pub returns-in_err-asked : goal.returns-in_err-asked
returns-in_err-asked c =
    rw (hrp_refused c.args.hrp.now c.first_where-start.result c.first_where-start.ensures _ (sym c.prefix_number.ensures ∙ c.in_ok-prefix.was) _ (sym c.asked.ensures ∙ c.in_err-asked.was))
    (handed_on c.from_residual-in_err-asked.ensures.1)

pub returns : goal.returns
returns c =
    sym (ap (mapped hrp_of)
    (hrp_fine c.args.hrp.now c.first_where-start.result c.first_where-start.ensures _ (sym c.prefix_number.ensures ∙ c.in_ok-prefix.was) _ (sym c.asked.ensures ∙ c.in_ok-asked.was)))
