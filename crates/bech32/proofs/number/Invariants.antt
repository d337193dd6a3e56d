use Rattle.std.proofs.Common.{◌≡◌, ◌%◌, ◌^◌, map, take}
use Rattle.bech32.specs.Groups.{low5, number}
use Rattle.bech32.proofs.number.Given as goal

-- the number of the groups so far, in 64 bits
abbrev pub invariant-loop-group : goal.invariant-loop-group
invariant-loop-group l = l.n ≡ number (take l.group-index (map low5 l.groups)) % 2 ^ 64
