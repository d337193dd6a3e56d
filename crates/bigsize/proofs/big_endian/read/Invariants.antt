-- `bigsize::big_endian::read`'s loop: the number of the bytes so far.
use Rattle.std.proofs.Common.{◌≡◌, take, drop}
use Rattle.laws.specs.Digits.{from_bytes}
use Rattle.bigsize.proofs.big_endian.read.Given as goal

abbrev pub invariant-loop-i : goal.invariant-loop-i
invariant-loop-i g l = l.value ≡ from_bytes (take l.i (drop l.at l.bytes))
