use Rattle.std.proofs.Common.{◌≡◌, drop}
use Rattle.bech32.specs.Alphabet.{groups_in}
use Rattle.bech32.specs.Checksum.{polymod_from}
use Rattle.bech32.proofs.polymod_text.Given as goal

-- polymod over the characters left, from the state so far
abbrev pub invariant-loop-character : goal.invariant-loop-character
invariant-loop-character l = polymod_from l.c (groups_in (drop l.character-index l.text)) ≡ polymod_from l.fn.state (groups_in l.fn.text)
