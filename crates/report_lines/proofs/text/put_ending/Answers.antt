-- Words and number, then the line's end. Assumes nothing.
use Rattle.std.proofs.Common.{arith}
use Rattle.report_lines.proofs.Putting.{puts_then}
use Rattle.report_lines.proofs.text.put_ending.Goals as goal

pub returns : goal.returns
returns c =
    (puts_then c.put_worded-end.ensures.0 c.put.ensures, omega (arith, c.put_worded-end.ensures.1, c.put.ensures.ends))
