-- Three counts and the refusals. Assumes nothing.
use Rattle.report_lines.proofs.Putting.{puts_then, puts_laid}
use Rattle.report_lines.proofs.put_end.Goals as goal

pub returns : goal.returns
returns c =
    puts_laid _ _ _ _
    (puts_then c.put_worded-a.ensures.0 (puts_then c.put_worded-b.ensures.0 (puts_then c.put_worded-c.ensures.0 c.put_ending.ensures.0)))
