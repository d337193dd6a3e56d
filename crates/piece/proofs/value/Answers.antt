-- The part behind the head, or nothing.
use Rattle.std.proofs.Common.{sym, arith}
use native.Mathlib.Nat.{add-sub_cancel_left}
use Rattle.piece.proofs.Laws.{piece_inside, piece_some, piece_none, value_whole, value_cut}
use Rattle.piece.proofs.value.Goals as goal

pub returns-in_default : goal.returns-in_default
returns-in_default c = sym (value_cut _ (piece_none _ c.in_default.ensures))

pub overflow_add-end : goal.overflow_add-end
overflow_add-end c = omega (arith, piece_inside _ _ c.in-Some.ensures)

pub slice_bounds-result-end-2 : goal.slice_bounds-result-end-2
slice_bounds-result-end-2 c = piece_inside _ _ c.in-Some.ensures

pub returns : goal.returns
returns c =
    let w = piece_some _ _ c.in-Some.ensures in
    rw add-sub_cancel_left (rw (w.1, value_whole _ w.0))
