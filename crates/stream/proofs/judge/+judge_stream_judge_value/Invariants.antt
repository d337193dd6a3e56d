-- The cycle of `judge_stream` and `judge_value`: the levels left fall. In the loop: what is sought of the bytes left, joined to what is counted so far, is
-- sought of them all.
use Rattle.std.proofs.Common.{◌+◌, ◌-◌, ◌*◌, ◌≤◌, length, drop}
use Rattle.frame.specs.Frame.{lowest}
use Rattle.answer.specs.Answer.{Answer}
use Rattle.stream.specs.Sought.{Sought, sought_in, SoughtAt}
use Rattle.stream.specs.Tally.{joined}
use Rattle.stream.specs.declared.Counts.{Counts}
use Rattle.stream.proofs.judge.+judge_stream_judge_value.Given as goal

abbrev pub decreases-judge_stream : goal.decreases-judge_stream
decreases-judge_stream l = 2 * l.levels + 1

abbrev pub decreases-judge_value : goal.decreases-judge_value
decreases-judge_value l = 2 * l.levels

abbrev pub invariant-judge_stream-loop-at : goal.invariant-judge_stream-loop-at
invariant-judge_stream-loop-at l =
    (l.at ≤ length l.bytes) × (l.records ≤ l.at) × (l.known ≤ l.records) ×
    ((a : Answer Counts) →
    Sought (sought_in l.table l.levels) l.table l.namespace l.levels (l.base + l.at) (lowest l.last) l.row (drop l.at l.bytes) a →
    SoughtAt l.table l.namespace l.levels l.base l.bytes (joined l.records l.known a))

abbrev pub decreases-judge_stream-loop-at : goal.decreases-judge_stream-loop-at
decreases-judge_stream-loop-at l = length l.bytes - l.at
