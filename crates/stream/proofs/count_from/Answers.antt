-- `stream::count_from` meets its contract: the table, then what is asked by one that is accepted. Assumes nothing.
use Rattle.std.proofs.Common.{sym, ap, ◌∙◌}
use Rattle.answer.specs.Answer.{mapped}
use Rattle.answer.proofs.Answer.{handed_on}
use Rattle.stream.specs.Tally.{tally}
use Rattle.stream.proofs.Judging.{judging_table}
use Rattle.stream.proofs.Sought.{sought_judged}
use Rattle.stream.proofs.count_from.Goals as goal

pub returns-in_err-check : goal.returns-in_err-check
returns-in_err-check c = handed_on c.from_residual.ensures.1 ∙ sym (ap (mapped tally) (judging_table _ _ _ _ _ (sym c.in_err-check.ensures)))

pub returns : goal.returns
returns c = sought_judged _ (sym c.in_ok-check.ensures) _ _ _ _ c.count_unchecked.ensures
