-- What is kept so far, and what is left to be looked at.
use Rattle.mender.proofs.Sifting.{Sifting}
use Rattle.mender.proofs.order.sift.Given as goal

abbrev pub invariant-loop-i : goal.invariant-loop-i
invariant-loop-i l = Sifting l.stream l.fn.order l.order l.first l.kind l.kept l.fault l.size l.respelled l.i
