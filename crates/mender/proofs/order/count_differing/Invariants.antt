-- Those counted so far, and those that are left, are all.
use Rattle.std.proofs.Common.{◌≡◌, ◌+◌, ◌≤◌, length, drop}
use Rattle.mending.specs.Mender.{differing}
use Rattle.mender.proofs.order.count_differing.Given as goal

abbrev pub invariant-loop-x : goal.invariant-loop-x
invariant-loop-x l = record {
  at_most : l.n ≤ length l.yielded;
  so_far : l.n + differing (drop (length l.yielded) l.old) (drop (length l.yielded) l.new) ≡ differing l.old l.new;
}
