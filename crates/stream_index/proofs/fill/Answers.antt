-- `stream_index::fill` meets its contract: what is left of the stream goes into the rest of the index. Assumes nothing.
use Rattle.std.proofs.Common.{arith, refl, ap, ◌∙◌, suc, ◌+◌, ◌≤◌, length}
use native.Mathlib.Nat.{add_assoc, add-sub_cancel_left}
use Rattle.laws.proofs.Lists.{part_tail}
use Rattle.stream.specs.Stream.{per_row, outer_from}
use Rattle.stream_index.proofs.Accepted.{type_inside, ahead}
use Rattle.stream_index.proofs.Filling.{all_filled, left_end, room_here, left_next}
use Rattle.table.proofs.Cursor.{cursor_start, cursor_next, cursor_found}
use Rattle.stream_index.proofs.fill.Goals as goal

pub loop-at-init : goal.loop-at-init
unfolding outer_from
loop-at-init c =
    let rows = c.requires.bytes_value in (
      refl,
      0,
      record {
        rows = rows.0;
        walks = rows.1;
        room = omega (arith, rows.2);
        same = rw rows.1 (all_filled rows.0 c.args.index.now rows.2);
      },
      cursor_start c.args.table.now c.args.namespace,
    )

pub overflow_add-behind : goal.overflow_add-behind
overflow_add-behind c =
    omega (arith, type_inside _ _ _ _ _ _ c.loop-at-test.true c.loop-at.invariant.2.walks _ (rw part_tail at c.peek-kind.ensures))

pub slice_bounds-peek-count-in-loop-at : goal.slice_bounds-peek-count-in-loop-at
slice_bounds-peek-count-in-loop-at c =
    omega (arith, type_inside _ _ _ _ _ _ c.loop-at-test.true c.loop-at.invariant.2.walks _ (rw part_tail at c.peek-kind.ensures))

pub slice_bounds-peek-start-in-loop-at : goal.slice_bounds-peek-start-in-loop-at
slice_bounds-peek-start-in-loop-at c =
    omega (arith, type_inside _ _ _ _ _ _ c.loop-at-test.true c.loop-at.invariant.2.walks _ (rw part_tail at c.peek-kind.ensures))

pub overflow_add-start : goal.overflow_add-start
overflow_add-start c =
    let h = ahead _ _ _ _ _ _ c.loop-at-test.true c.loop-at.invariant.2.walks _ _ (rw part_tail at c.peek-kind.ensures) (rw part_tail at c.peek-size.ensures) in
    omega (arith, h.0.inside)

pub overflow_add-end : goal.overflow_add-end
overflow_add-end c =
    let h = ahead _ _ _ _ _ _ c.loop-at-test.true c.loop-at.invariant.2.walks _ _ (rw part_tail at c.peek-kind.ensures) (rw part_tail at c.peek-size.ensures) in
    omega (arith, h.0.inside)

pub slice_bounds-of-end : goal.slice_bounds-of-end
slice_bounds-of-end c =
    let h = ahead _ _ _ _ _ _ c.loop-at-test.true c.loop-at.invariant.2.walks _ _ (rw part_tail at c.peek-kind.ensures) (rw part_tail at c.peek-size.ensures) in
    omega (arith, h.0.inside)

pub put_row-requires : goal.put_row-requires
put_row-requires c =
    let h = ahead _ _ _ _ _ _ c.loop-at-test.true c.loop-at.invariant.2.walks _ _ (rw part_tail at c.peek-kind.ensures) (rw part_tail at c.peek-size.ensures) in
    room_here _ _ _ _ _ _ _ _ c.loop-at.invariant.2 _ h.0

pub overflow_add-i : goal.overflow_add-i
overflow_add-i c =
    let h = ahead _ _ _ _ _ _ c.loop-at-test.true c.loop-at.invariant.2.walks _ _ (rw part_tail at c.peek-kind.ensures) (rw part_tail at c.peek-size.ensures) in
    let room : c.loop-at.i + per_row ≤ length c.loop-at.index = room_here _ _ _ _ _ _ _ _ c.loop-at.invariant.2 _ h.0 in
    omega (arith, c.loop-at.invariant.0, c.well_formed)

pub loop-at-smaller : goal.loop-at-smaller
loop-at-smaller c =
    let h = ahead _ _ _ _ _ _ c.loop-at-test.true c.loop-at.invariant.2.walks _ _ (rw part_tail at c.peek-kind.ensures) (rw part_tail at c.peek-size.ensures) in
    omega (arith, h.0.up, h.0.inside)

pub loop-at-preserved : goal.loop-at-preserved
loop-at-preserved c =
    let l = c.loop-at in
    let fine = c.requires.table_value in
    let h = ahead _ _ _ _ _ _ c.loop-at-test.true l.invariant.2.walks _ _ (rw part_tail at c.peek-kind.ensures) (rw part_tail at c.peek-size.ensures) in
    let found = ap (λ w. w.found) c.find-search.ensures ∙ cursor_found _ _ _ _ l.invariant.3 _ h.1 fine in (
      omega (arith, c.put_row.auto, l.invariant.0),
      suc c.peek-kind.result.value,
      rw (c.put_row.ensures, add_assoc l.at)
          (left_next _ _ _ _ _ _ _ _ l.invariant.2 _ h.0 _ (rw (found, add-sub_cancel_left, add_assoc l.at) at c.of-mark.ensures)),
      rw (ap (λ w. w.next) c.find-search.ensures) (cursor_next _ _ _ _ l.invariant.3 _ h.1 fine),
    )

pub returns : goal.returns
returns c = left_end _ _ _ _ _ _ _ _ c.loop-at-test.false c.loop-at.invariant.2
