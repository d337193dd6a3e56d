-- What is left of the walk, behind what was seen and laid.
use Rattle.std.proofs.Common.{◌-◌, length}
use Rattle.mender.proofs.Turns.{Looking}
use Rattle.mender.proofs.walk.survey.Given as goal

abbrev pub invariant-loop-p : goal.invariant-loop-p
invariant-loop-p l = Looking l.stream l.fn.places l.places l.seen l.last

abbrev pub decreases-loop-p : goal.decreases-loop-p
decreases-loop-p l = length l.stream - l.seen.end
