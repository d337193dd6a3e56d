-- `frame::read_size` meets its contract: each answer by the law of its case. Assumes nothing.
use Rattle.std.specs.Prelude.{Ok, Some}
use Rattle.std.specs.Result.{result_ok}
use Rattle.std.proofs.Common.{arith, sym, ◌≡◌, ℕ, ◌+◌, ◌≤◌, List, length, drop, length-drop}
use Rattle.bigsize.proofs.Laws.{reading_width, unreadable, readable_read}
use Rattle.bigsize.specs.BigSize.{reading}
use Rattle.bigsize.specs.declared.Number.{Number}
use Rattle.laws.proofs.Lists.{part_tail}
use Rattle.frame.proofs.Laws.{sized_refused, sized_cut, sized_whole}
use Rattle.frame.proofs.read_size.Goals as goal

-- the length behind the type, which lies in the bytes
module _ (bytes : List ℕ) (width : ℕ) (size : Number) (type_inside : width ≤ length bytes) (is : Some size ≡ result_ok (reading (drop width bytes))) where
  length_is : reading (drop width bytes) ≡ Ok size
  length_is = readable_read is

  inside : width + size.width ≤ length bytes
  inside = omega (arith, type_inside, (reading_width _ _ length_is).1, length-drop width bytes)

pub returns-in_default-clause-result_value : goal.returns-in_default-clause-result_value
returns-in_default-clause-result_value c =
    let u = unreadable (rw part_tail at c.in_default.ensures) in
    rw ((rw part_tail at c.refusal.ensures) u.0 u.1) (sym (sized_refused _ _ _ _ u.0 u.1))

pub overflow_add-head : goal.overflow_add-head
overflow_add-head c = omega (arith, inside _ _ _ c.requires (rw part_tail at c.in-Some.ensures))

pub overflow_sub-there : goal.overflow_sub-there
overflow_sub-there c = inside _ _ _ c.requires (rw part_tail at c.in-Some.ensures)

pub returns-then-there-size-clause-result_value : goal.returns-then-there-size-clause-result_value
returns-then-there-size-clause-result_value c =
    let is = rw part_tail at c.in-Some.ensures in
    let fits = inside c.args.bytes.now c.args.width c.in-Some.size c.requires is in
    rw c.lacking.ensures (sym (sized_cut _ _ _ _ _ _ (readable_read is) (omega (arith, fits))))

pub overflow_add-result : goal.overflow_add-result
overflow_add-result c = omega (arith, inside _ _ _ c.requires (rw part_tail at c.in-Some.ensures))

pub returns-clause-result_value : goal.returns-clause-result_value
returns-clause-result_value c =
    let is = rw part_tail at c.in-Some.ensures in
    let fits = inside c.args.bytes.now c.args.width c.in-Some.size c.requires is in
    sym (sized_whole _ _ _ _ _ _ (readable_read is) (omega (arith, fits)))
