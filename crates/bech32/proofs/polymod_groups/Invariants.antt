use Rattle.std.proofs.Common.{◌≡◌, ◌^◌, ◌<◌, map, drop}
use Rattle.bech32.specs.Checksum.{polymod_from}
use Rattle.bech32.proofs.polymod_groups.Given as goal

-- polymod over the groups left, each a value as it is, from the state so far
abbrev pub invariant-loop-group : goal.invariant-loop-group
invariant-loop-group l =
    (l.c < 2 ^ 30) × (polymod_from l.c (map (λ g. g) (drop l.group-index l.groups)) ≡ polymod_from l.fn.state l.fn.groups)
