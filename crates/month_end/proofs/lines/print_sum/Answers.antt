-- Every sum has room.
use Rattle.std.proofs.Common.{arith}
use Rattle.month_end.proofs.Room.{never_12}
use Rattle.month_end.proofs.lines.print_sum.Goals as goal

pub unreachable-requires : goal.unreachable-requires
unreachable-requires g c = never_12 _ _ (omega arith) _ c.write.ensures.result_value _ c.in-Err.is
