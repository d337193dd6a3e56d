use Rattle.std.proofs.Common.{◌∙◌, refl, sym, ap, add-one, arith, get_or}
use Rattle.laws.proofs.Lists.{part_tail}
use Rattle.piece.specs.Piece.{kind_of}
use Rattle.piece.specs.declared.Piece.{Piece}
use Rattle.mender.specs.Private.{record_from}
use Rattle.mender.proofs.Places.{whole_at, records_next, records_end}
use Rattle.mender.proofs.Turns.{laid_room, laid_next, laid_end, value_part, record_laid}
use Rattle.mender.proofs.Turning.{turned, place_inside, told_some}
use Rattle.mender.proofs.order.write.Goals as goal

pub loop-place-init : goal.loop-place-init
loop-place-init c = record { kept = refl; room = omega (arith, c.requires.order_in_bounds); same = refl }

-- the place at hand lies in the stream
pub slice_bounds-read-count : goal.slice_bounds-read-count
slice_bounds-read-count c = place_inside _ _ (whole_at c.args.stream.now c.args.order.now c.loop-place.place-index c.requires.are_whole c.loop-place-test.true)

pub slice_bounds-read-start : goal.slice_bounds-read-start
slice_bounds-read-start c = place_inside _ _ (whole_at c.args.stream.now c.args.order.now c.loop-place.place-index c.requires.are_whole c.loop-place-test.true)

pub unwrap-p-requires : goal.unwrap-p-requires
unwrap-p-requires c =
    told_some c.args.stream.now (get_or c.args.order.now c.loop-place.place-index 0) (whole_at c.args.stream.now c.args.order.now c.loop-place.place-index c.requires.are_whole c.loop-place-test.true) (rw part_tail at c.read.ensures)

pub overflow_add-start : goal.overflow_add-start
overflow_add-start c = let t = turned c.args.stream.now (get_or c.args.order.now c.loop-place.place-index 0) _ (sym c.unwrap-p.ensures ∙ (rw part_tail at c.read.ensures)) in omega (arith, t.room)

pub overflow_add-end : goal.overflow_add-end
overflow_add-end c = let t = turned c.args.stream.now (get_or c.args.order.now c.loop-place.place-index 0) _ (sym c.unwrap-p.ensures ∙ (rw part_tail at c.read.ensures)) in omega (arith, t.room)

pub slice_bounds-write_record-end : goal.slice_bounds-write_record-end
slice_bounds-write_record-end c = let t = turned c.args.stream.now (get_or c.args.order.now c.loop-place.place-index 0) _ (sym c.unwrap-p.ensures ∙ (rw part_tail at c.read.ensures)) in omega (arith, t.room)

pub overflow_add-to : goal.overflow_add-to
overflow_add-to c =
    let l = c.loop-place in
    let t = turned c.args.stream.now (get_or c.args.order.now c.loop-place.place-index 0) _ (sym c.unwrap-p.ensures ∙ (rw part_tail at c.read.ensures)) in
    let left = rw (records_next c.args.stream.now c.args.order.now l.place-index c.loop-place-test.true) at l.invariant in
    omega (arith, laid_room _ _ _ _ left, ap (λ (x : Piece). x.short) t.is)

pub loop-place-preserved : goal.loop-place-preserved
loop-place-preserved c =
    let s = c.args.stream.now in
    let l = c.loop-place in
    let at = get_or c.args.order.now l.place-index 0 in
    let e = record_from s at in
    let t = turned s at _ (sym c.unwrap-p.ensures ∙ (rw part_tail at c.read.ensures)) in
    let left = rw (records_next s c.args.order.now l.place-index c.loop-place-test.true) at l.invariant in
    let kind = ap (λ (x : Piece). x.kind) t.is in
    let short = ap (λ (x : Piece). x.short) t.is in
    let put = record_laid l.out _ l.to (kind_of e) _ e.value (value_part s at c.unwrap-p.result t.is) (laid_room _ _ _ _ left) (rw kind at c.write_record.ensures.out_after) in
    rw (add-one l.place-index, short) (laid_next _ _ _ _ left _ put)

pub returns : goal.returns
returns c =
    let l = c.loop-place in
    laid_end _ _ (rw (records_end c.args.stream.now c.args.order.now l.place-index c.loop-place-test.false) at l.invariant)
