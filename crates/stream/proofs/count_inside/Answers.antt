-- `stream::count_inside` meets its contract: the table, then the records. Assumes nothing.
use Rattle.std.proofs.Common.{sym, ap, ◌∙◌}
use Rattle.answer.specs.Answer.{mapped}
use Rattle.answer.proofs.Answer.{handed_on}
use Rattle.stream.specs.Tally.{tally}
use Rattle.stream.proofs.Sought.{sought_rows}
use Rattle.stream.proofs.Values.{inside_table, inside_fine}
use Rattle.stream.proofs.count_inside.Goals as goal

pub returns-in_err-check : goal.returns-in_err-check
returns-in_err-check c = handed_on c.from_residual.ensures.1 ∙ sym (ap (mapped tally) (inside_table _ _ _ _ (sym c.in_err-check.ensures)))

pub returns : goal.returns
returns c =
    sought_rows _ (sym c.in_ok-check.ensures) 2 _ _ _ _ c.judge_stream.ensures ∙ sym (ap (mapped tally) (inside_fine _ _ _ (sym c.in_ok-check.ensures)))
