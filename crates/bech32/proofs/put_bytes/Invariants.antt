use Rattle.std.proofs.Common.{◌<◌}
use Rattle.bech32.specs.Groups.{low5}
use Rattle.bech32.proofs.RegroupLaws.{Regrouping}
use Rattle.bech32.proofs.put_bytes.Given as goal

abbrev pub invariant-loop-group : goal.invariant-loop-group
invariant-loop-group l = Regrouping 5 8 low5 l.groups l.fn.out l.out l.held l.bits l.count l.group-index × (l.bits < 8)
