-- The number, then the counts or the refusal. Assumes nothing.
use Rattle.report_lines.proofs.Putting.{puts_then, puts_laid}
use Rattle.report_lines.proofs.put_reading.Goals as goal

pub returns-in-Err-clause-size_value : goal.returns-in-Err-clause-size_value
returns-in-Err-clause-size_value c = rw c.in-Err.is (puts_laid _ _ _ _ (puts_then c.put_worded-begin.ensures.0 c.put_refusal.ensures))

pub returns-in-Ok-clause-size_value : goal.returns-in-Ok-clause-size_value
returns-in-Ok-clause-size_value c =
    rw c.in-Ok.is
    (puts_laid _ _ _ _ (puts_then c.put_worded-begin.ensures.0 (puts_then c.put_worded-next.ensures.0 c.put_ending.ensures.0)))
