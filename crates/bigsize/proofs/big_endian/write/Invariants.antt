-- `bigsize::big_endian::write`'s loop: the first bytes of the N are put.
use Rattle.std.proofs.Common.{◌≡◌, ◌-◌, ◌*◌, ◌/◌, ◌^◌}
use lib.Seq.{sets}
use Rattle.laws.specs.Digits.{to_bytes}
use Rattle.bigsize.proofs.big_endian.write.Given as goal

abbrev pub invariant-loop-i : goal.invariant-loop-i
invariant-loop-i g l = l.out ≡ sets l.initial.out l.at (to_bytes l.i (l.value / 2 ^ (8 * (g.row.N - l.i))))
