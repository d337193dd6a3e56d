use Rattle.std.proofs.Common.{◌≡◌, drop}
use lib.Seq.{sets}
use Rattle.bech32.specs.Alphabet.{groups_in}
use Rattle.bech32.proofs.put_text_groups.Given as goal

-- the groups left, put behind those so far, make the whole
abbrev pub invariant-loop-i : goal.invariant-loop-i
invariant-loop-i l = sets l.out l.i (groups_in (drop l.i l.text)) ≡ sets l.fn.out 0 (groups_in l.fn.text)
