use Rattle.std.proofs.Common.{arith}
use Rattle.laws.proofs.Lists.{part_tail}
use Rattle.mender.proofs.Turning.{turned, turn_end}
use Rattle.mender.proofs.Turns.{looking_next, looked}
use Rattle.mender.proofs.walk.survey.Goals as goal

pub overflow_add-seen-in-Some : goal.overflow_add-seen-in-Some
overflow_add-seen-in-Some c = let t = turned c.args.stream.now c.loop-p.seen.end _ (rw part_tail at c.in-Some.ensures) in omega (arith, t.room, c.requires)

pub overflow_add-seen-in-Some-2 : goal.overflow_add-seen-in-Some-2
overflow_add-seen-in-Some-2 c = let t = turned c.args.stream.now c.loop-p.seen.end _ (rw part_tail at c.in-Some.ensures) in omega (arith, t.room, c.requires)

pub loop-p-smaller : goal.loop-p-smaller
loop-p-smaller c = let t = turned c.args.stream.now c.loop-p.seen.end _ (rw part_tail at c.in-Some.ensures) in omega (arith, t.two, t.room)

pub loop-p-preserved : goal.loop-p-preserved
loop-p-preserved c =
    rw c.note.ensures
    (looking_next _ _ _ _ _ c.loop-p.invariant _ _ (turned c.args.stream.now c.loop-p.seen.end _ (rw part_tail at c.in-Some.ensures)) c.still_right.ensures)

pub returns : goal.returns
returns c =
    let l = looked _ _ _ _ _ c.loop-p.invariant (turn_end c.args.stream.now c.loop-p.seen.end (rw part_tail at c.in_default.ensures)) in
    record { sees = l.0; places_after = l.1 }
