-- What is left, laid behind what was laid, is the whole.
use Rattle.std.proofs.Common.{drop}
use Rattle.std.proofs.Math.Seq.{sets}
use Rattle.mending.specs.Mender.{spelled}
use Rattle.mender.specs.Private.{records_at}
use Rattle.mender.proofs.Turns.{Laid}
use Rattle.mender.proofs.order.write.Given as goal

abbrev pub invariant-loop-place : goal.invariant-loop-place
invariant-loop-place l =
    Laid l.fn.out (sets l.fn.out 0 (spelled (records_at l.stream l.order))) (records_at l.stream (drop l.place-index l.order)) l.out l.to
