use Rattle.std.proofs.Common.{◌<◌, ◌++◌, ◌∷◌, []}
use Rattle.bech32.proofs.RegroupLaws.{Regrouping}
use Rattle.bech32.proofs.put_groups.Given as goal

abbrev pub invariant-loop-m : goal.invariant-loop-m
invariant-loop-m l = Regrouping 8 5 (λ x. x) (l.bytes ++ 0 ∷ []) l.fn.out l.out l.held l.bits l.m l.i × (l.bits < 8)
