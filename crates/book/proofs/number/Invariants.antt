-- The number of the bytes so far.
use Rattle.std.proofs.Common.{◌≡◌, ◌*◌, ◌^◌, ◌<◌, take, drop}
use Rattle.laws.specs.Digits.{from_bytes}
use Rattle.book.proofs.number.Given as goal

abbrev pub invariant-loop-i : goal.invariant-loop-i
invariant-loop-i l = record {
  so_far : l.n ≡ from_bytes (take l.i (drop l.at l.bytes));
  fits : l.n < 2 ^ (8 * l.i);
}
