-- Number, place and type, and how much is missing where something is cut short. Assumes nothing.
use Rattle.std.proofs.Common.{[], sym, ◌∙◌}
use Rattle.answer.specs.Missing.{is_cut}
use Rattle.laws.proofs.Test.{pick_yes, pick_no}
use Rattle.report_lines.specs.Text.{worded}
use Rattle.report_lines.proofs.Putting.{puts_then}
use Rattle.report_lines.proofs.put_refusal.Goals as goal

pub returns-then-is_cut : goal.returns-then-is_cut
returns-then-is_cut c =
    let r = c.args.r in
    rw (pick_yes (is_cut r.number) (worded " missing " r.missing) [] (sym c.is_cut.ensures ∙ c.if-is_cut.true))
    (puts_then c.put_worded-numbered.ensures.0 (puts_then c.put_worded-placed.ensures.0 (puts_then c.put_worded-typed.ensures.0 c.put_ending.ensures.0)))

pub returns : goal.returns
returns c =
    let r = c.args.r in
    rw (pick_no (is_cut r.number) (worded " missing " r.missing) [] (sym c.is_cut.ensures ∙ c.if-is_cut.false))
    (puts_then c.put_worded-numbered.ensures.0 (puts_then c.put_worded-placed.ensures.0 (puts_then c.put_worded-typed.ensures.0 c.put_byte.ensures)))
