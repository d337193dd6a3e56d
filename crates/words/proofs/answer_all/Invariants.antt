-- Each question ends at the place where it was looked for or behind it.
use Rattle.std.proofs.Common.{length, ◌+◌, ◌-◌}
use Rattle.words.proofs.answer_all.Given as goal

abbrev pub decreases-loop-question : goal.decreases-loop-question
decreases-loop-question g l = length l.list + 1 - l.at
