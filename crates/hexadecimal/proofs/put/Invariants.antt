-- The digits left, put behind those that are there, make the whole.
use Rattle.std.proofs.Common.{◌≡◌, ◌*◌, length, drop}
use Rattle.std.proofs.Math.Seq.{sets}
use Rattle.hexadecimal.specs.Hex.{hex}
use Rattle.hexadecimal.proofs.put.Given as goal

abbrev pub invariant-loop-i : goal.invariant-loop-i
invariant-loop-i l = record {
  as_long : length l.out ≡ length l.fn.out;
  so_far : sets l.out (2 * l.i) (hex (drop l.i l.bytes)) ≡ sets l.fn.out 0 (hex l.bytes);
}
