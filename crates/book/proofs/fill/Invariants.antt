-- The numbers left, put behind those that are there, make the whole.
use Rattle.std.proofs.Common.{◌≡◌, ◌+◌, ◌*◌, ◌-◌, length, drop}
use Rattle.std.proofs.Math.Seq.{sets}
use Rattle.book.specs.Book.{numbers}
use Rattle.book.proofs.fill.Given as goal

abbrev pub invariant-loop-i : goal.invariant-loop-i
invariant-loop-i l = record {
  as_long : length l.out ≡ length l.fn.out;
  so_far : sets l.out l.i (numbers (l.count - l.i) (drop (2 + l.i * 8) l.book)) ≡ sets l.fn.out 0 (numbers l.count (drop 2 l.book));
}
