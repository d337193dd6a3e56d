use Rattle.std.proofs.Common.{◌≡◌, ◌/◌, ◌^◌, drop}
use Rattle.bech32.specs.Checksum.{generator, reduced}
use Rattle.bech32.proofs.reduce.Given as goal

-- the constants left, chosen by the bits left, from the state so far
abbrev pub invariant-loop-i : goal.invariant-loop-i
invariant-loop-i l = reduced (drop l.i generator) (l.chosen / 2 ^ l.i) l.c ≡ reduced generator l.fn.chosen l.fn.state
