-- Every report fits.
use Rattle.std.proofs.Common.{arith}
use Rattle.report_text.proofs.Size.{never_12}
use Rattle.report.proofs.main.Goals as goal

pub unreachable-requires : goal.unreachable-requires
unreachable-requires c = never_12 _ _ (omega (arith, c.space-out.ensures)) _ c.report.ensures.result_value _ c.in-Err.is
