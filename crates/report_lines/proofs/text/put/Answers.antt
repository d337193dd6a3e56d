-- All of it put in its place, or what fits of it at the front of the tail. Assumes nothing.
use Rattle.std.proofs.Common.{refl}
use Rattle.report_lines.proofs.Putting.{mid_puts, copied_laid, tail_puts}
use Rattle.report_lines.proofs.text.put.Goals as goal

pub returns-then-end-out : goal.returns-then-end-out
returns-then-end-out c = mid_puts _ _ _ _ c.if-end-out.true c.copy_from_slice.ensures.after

pub returns-else-end-out : goal.returns-else-end-out
returns-else-end-out c = tail_puts _ _ _ _ _ _ c.min-begin.ensures refl (copied_laid _ _ _ c.copy.ensures.whole c.copy.ensures.cut)
