-- Each row adds its number to the sum.
use Rattle.std.proofs.Common.{refl}
use Rattle.month_end.specs.Program.{column}
use Rattle.month_end.proofs.Columns.{sum_more}
use Rattle.month_end.proofs.sums.over.Goals as goal

pub loop-i-init : goal.loop-i-init
unfolding column
loop-i-init c = refl

pub loop-i-preserved : goal.loop-i-preserved
loop-i-preserved c = sum_more _ _ _ _ c.loop-i.invariant
