-- The values of the first record of a type and of a later one agree, or they do not.
use Rattle.std.proofs.Common.{sym, ◌∙◌, arith}
use Rattle.laws.proofs.Lists.{part_tail}
use Rattle.piece.proofs.Laws.{value_whole}
use Rattle.mender.specs.Private.{record_from}
use Rattle.mender.proofs.Places.{lowered_agree, lowered_first, lowered_less}
use Rattle.mender.proofs.Turning.{place_inside}
use Rattle.mender.proofs.order.lower.Goals as goal
use Rattle.mender.proofs.order.lower.Goals.{in-Some+else-place-at, in_default}

-- both places lie in the stream
pub slice_bounds-agree-count : goal.slice_bounds-agree-count
slice_bounds-agree-count c = place_inside _ _ c.requires.0

pub slice_bounds-agree-start : goal.slice_bounds-agree-start
slice_bounds-agree-start c = place_inside _ _ c.requires.0

pub slice_bounds-agree-count-2 : goal.slice_bounds-agree-count-2
slice_bounds-agree-count-2 c = place_inside _ _ c.requires.1

pub slice_bounds-agree-start-2 : goal.slice_bounds-agree-start-2
slice_bounds-agree-start-2 c = place_inside _ _ c.requires.1

pub returns-then-agree : goal.returns-then-agree
returns-then-agree c =
    let compared = rw (part_tail, part_tail, value_whole _ c.requires.0, value_whole _ c.requires.1) at c.agree.ensures in
    let e = lowered_agree (record_from c.args.stream.now c.args.first) (record_from c.args.stream.now c.args.at) c.args.least (sym compared ∙ c.if-agree.true) in
    elim c.match-least.branch [ in-Some+else-place-at w ↦ w.least-is ∙ sym w.in-Some.is ∙ e | in_default w ↦ w.least-is ∙ e ]

pub returns : goal.returns
returns c =
    let first = record_from c.args.stream.now c.args.first in
    let here = record_from c.args.stream.now c.args.at in
    let compared = rw (part_tail, part_tail, value_whole _ c.requires.0, value_whole _ c.requires.1) at c.agree.ensures in
    let other = sym compared ∙ c.if-agree.false in
    elim c.match-least.branch [
      | in-Some+else-place-at w ↦ rw w.in-Some.is (lowered_less first here w.in-Some.place other (omega (arith, w.if-place-at.false)))
      | in_default w ↦ rw w.in_default.is (lowered_first first here other)
    ]
