-- There are at most 512 pairs, and no more books are refused than given.
use Rattle.std.proofs.Common.{◌≤◌}
use Rattle.month_end.proofs.main.Given as goal

abbrev pub invariant-loop-given : goal.invariant-loop-given
invariant-loop-given l = (l.figures.pairs ≤ 512) × (l.refused ≤ l.given)
