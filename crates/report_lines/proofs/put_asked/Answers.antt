-- An amount, then the fields. Assumes nothing.
use Rattle.report_lines.proofs.Putting.{puts_then}
use Rattle.report_lines.proofs.put_asked.Goals as goal

pub returns-in-Some : goal.returns-in-Some
returns-in-Some c = rw c.in-Some.is (puts_then c.put_worded-next.ensures.0 c.put_ending-in-Some.ensures.0)
