-- `message::join_features`'s loop: the bytes left, put behind those that were put, are the joined maps.
use Rattle.std.proofs.Common.{◌≡◌, ◌≤◌, max, length, drop}
use lib.Seq.{sets}
use Rattle.message.specs.Features.{joined}
use Rattle.message.proofs.join_features.Given as goal

abbrev pub invariant-loop-i : goal.invariant-loop-i
invariant-loop-i l =
    (l.n ≡ max (length l.a) (length l.b)) × (l.n ≤ length l.out) × (length l.out ≡ length l.initial.out) ×
    (sets l.out l.i (drop l.i (joined l.a l.b)) ≡ sets l.initial.out 0 (joined l.a l.b))
