-- `piece::read` meets its contract: a number is cut short, the value is, or the record is whole. Assumes nothing.
use Rattle.std.proofs.Common.{arith, ℕ, ◌+◌}
use mathlib.Core.Path.{ap₂}
use Rattle.bigsize.proofs.Laws.{width_le}
use Rattle.laws.proofs.Lists.{part_tail}
use Rattle.piece.proofs.Laws.{cut_type, type_inside, head_inside, cut_length, cut_value, told, longer_le}
use Rattle.piece.proofs.read.Goals as goal

pub returns-then-kind-eq0 : goal.returns-then-kind-eq0
returns-then-kind-eq0 c = cut_type c.args.bytes.now _ c.peek-kind.ensures c.if-kind-eq0.true

pub slice_bounds-peek-count : goal.slice_bounds-peek-count
slice_bounds-peek-count c = type_inside c.args.bytes.now _ c.peek-kind.ensures

pub slice_bounds-peek-start : goal.slice_bounds-peek-start
slice_bounds-peek-start c = type_inside c.args.bytes.now _ c.peek-kind.ensures

pub returns-then-size-eq0 : goal.returns-then-size-eq0
returns-then-size-eq0 c = cut_length c.args.bytes.now _ c.peek-kind.ensures _ (rw part_tail at c.peek-size.ensures) c.if-size-eq0.true

pub overflow_add-head : goal.overflow_add-head
overflow_add-head c = omega (arith, head_inside c.args.bytes.now _ c.peek-kind.ensures _ (rw part_tail at c.peek-size.ensures))

pub overflow_sub-rest : goal.overflow_sub-rest
overflow_sub-rest c = head_inside c.args.bytes.now _ c.peek-kind.ensures _ (rw part_tail at c.peek-size.ensures)

pub returns-then-rest-size : goal.returns-then-rest-size
returns-then-rest-size c = cut_value c.args.bytes.now _ c.peek-kind.ensures _ (rw part_tail at c.peek-size.ensures) c.if-rest-size.true

pub overflow_add-result : goal.overflow_add-result
overflow_add-result c =
    omega (
      arith,
      rw c.width-first.ensures at c.differ.ensures,
      rw c.width-second.ensures at c.differ-2.ensures,
      longer_le c.peek-kind.result,
      longer_le c.peek-size.result,
    )

pub overflow_add-result-2 : goal.overflow_add-result-2
overflow_add-result-2 c =
    omega (arith, c.width-first.ensures, c.width-second.ensures, width_le c.peek-kind.result.value, width_le c.peek-size.result.value)

pub overflow_add-result-3 : goal.overflow_add-result-3
overflow_add-result-3 c =
    omega (
      arith,
      c.width-first.ensures,
      c.width-second.ensures,
      width_le c.peek-kind.result.value,
      width_le c.peek-size.result.value,
      head_inside c.args.bytes.now _ c.peek-kind.ensures _ (rw part_tail at c.peek-size.ensures),
    )

pub returns : goal.returns
returns c =
    told c.args.bytes.now _ c.peek-kind.ensures _ (rw part_tail at c.peek-size.ensures) (omega (arith, c.if-kind-eq0.false))
    (omega (arith, c.if-size-eq0.false)) c.if-rest-size.false _ _
    (ap₂ (λ (a b : ℕ). a + b) (rw c.width-first.ensures at c.differ.ensures) (rw c.width-second.ensures at c.differ-2.ensures))
    (ap₂ (λ (a b : ℕ). a + b + c.peek-size.result.value) c.width-first.ensures c.width-second.ensures)
