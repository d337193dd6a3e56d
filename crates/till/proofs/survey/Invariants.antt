use Rattle.std.proofs.Common.{length, ◌-◌, ◌≤◌}
use Rattle.till.proofs.Surveying.{Underway}
use Rattle.till.proofs.survey.Given as goal

abbrev pub invariant-loop-at : goal.invariant-loop-at
invariant-loop-at l = (l.at ≤ length l.middle) × Underway l.groups l.middle l.at l.judged l.unclean

abbrev pub decreases-loop-at : goal.decreases-loop-at
decreases-loop-at l = length l.middle - l.at
