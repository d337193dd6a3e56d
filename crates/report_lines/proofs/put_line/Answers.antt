-- The words and the number at the output's front. Assumes nothing.
use Rattle.report_lines.proofs.Putting.{puts_laid}
use Rattle.report_lines.proofs.put_line.Goals as goal

pub returns : goal.returns
returns c = puts_laid _ _ _ _ c.put_ending.ensures.0
