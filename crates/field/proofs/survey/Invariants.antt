use Rattle.std.proofs.Common.{length, ◌-◌, ◌≤◌}
use Rattle.field.proofs.SurveyLaws.{Underway}
use Rattle.field.proofs.survey.Given as goal

abbrev pub invariant-loop-at : goal.invariant-loop-at
invariant-loop-at l = (l.at ≤ length l.middle) × (l.count ≤ l.at) × Underway l.middle l.at l.count l.payment l.expiry l.delta

abbrev pub decreases-loop-at : goal.decreases-loop-at
decreases-loop-at l = length l.middle - l.at
