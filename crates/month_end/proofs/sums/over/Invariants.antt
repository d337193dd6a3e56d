-- After so many rows the sum is theirs.
use Rattle.std.proofs.Common.{◌≡◌, ◌%◌, ◌^◌}
use Rattle.month_end.specs.Program.{column}
use Rattle.month_end.proofs.sums.over.Given as goal

abbrev pub invariant-loop-i : goal.invariant-loop-i
invariant-loop-i l = l.sum ≡ column l.place l.i l.rows % 2 ^ 64
