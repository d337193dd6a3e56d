use Rattle.std.proofs.Common.{◌≡◌, ◌/◌, ◌%◌, ◌^◌, map, drop}
use Rattle.letters.specs.Letters.{lower}
use Rattle.bech32.specs.Checksum.{polymod_from}
use Rattle.bech32.proofs.polymod_bits.Given as goal

-- polymod over the characters left, from the state so far
abbrev pub invariant-loop-character : goal.invariant-loop-character
invariant-loop-character l =
    polymod_from l.c (map (λ x. lower x / 2 ^ l.shift % 32) (drop l.character-index l.hrp)) ≡ polymod_from l.fn.state (map (λ x. lower x / 2 ^ l.shift % 32) l.fn.hrp)
