-- `stream_index::seek` meets its contract: what is sought among the rows that are left. Assumes nothing.
use Rattle.std.specs.Prelude.{Err}
use Rattle.std.proofs.Common.{arith, sym, ap, ◌∙◌, suc}
use native.Mathlib.Nat.{add_assoc}
use Rattle.laws.proofs.Lists.{part_tail}
use Rattle.answer.proofs.Answer.{then_accepted}
use Rattle.stream_index.specs.Index.{find}
use Rattle.stream.specs.Stream.{outer_from}
use Rattle.stream_index.proofs.Accepted.{type_inside, ahead}
use Rattle.stream_index.proofs.Seeking.{sought_end, sought_here, sought_next}
use Rattle.stream_index.proofs.seek.Goals as goal

pub loop-at-init : goal.loop-at-init
unfolding outer_from
loop-at-init c =
    (0, record { rows = c.requires.0; walks = c.requires.1; same = sym (then_accepted c.requires.0 (find c.args.kind) _ c.requires.1) })

pub overflow_add-behind : goal.overflow_add-behind
overflow_add-behind c =
    omega (arith, type_inside _ _ _ _ _ _ c.loop-at-test.true c.loop-at.invariant.1.walks _ (rw part_tail at c.peek-found.ensures))

pub slice_bounds-peek-count-in-loop-at : goal.slice_bounds-peek-count-in-loop-at
slice_bounds-peek-count-in-loop-at c =
    omega (arith, type_inside _ _ _ _ _ _ c.loop-at-test.true c.loop-at.invariant.1.walks _ (rw part_tail at c.peek-found.ensures))

pub slice_bounds-peek-start-in-loop-at : goal.slice_bounds-peek-start-in-loop-at
slice_bounds-peek-start-in-loop-at c =
    omega (arith, type_inside _ _ _ _ _ _ c.loop-at-test.true c.loop-at.invariant.1.walks _ (rw part_tail at c.peek-found.ensures))

pub overflow_add-start : goal.overflow_add-start
overflow_add-start c =
    let h = ahead _ _ _ _ _ _ c.loop-at-test.true c.loop-at.invariant.1.walks _ _ (rw part_tail at c.peek-found.ensures) (rw part_tail at c.peek-size.ensures) in
    omega (arith, h.0.inside)

pub returns-then-found-kind : goal.returns-then-found-kind
returns-then-found-kind c =
    let h = ahead _ _ _ _ _ _ c.loop-at-test.true c.loop-at.invariant.1.walks _ _ (rw part_tail at c.peek-found.ensures) (rw part_tail at c.peek-size.ensures) in
    rw (add_assoc c.loop-at.at) (sought_here _ _ _ _ _ _ _ c.loop-at.invariant.1 _ h.0 c.if-found-kind.true)

pub overflow_add-at : goal.overflow_add-at
overflow_add-at c =
    let h = ahead _ _ _ _ _ _ c.loop-at-test.true c.loop-at.invariant.1.walks _ _ (rw part_tail at c.peek-found.ensures) (rw part_tail at c.peek-size.ensures) in
    omega (arith, h.0.inside)

pub loop-at-smaller : goal.loop-at-smaller
loop-at-smaller c =
    let h = ahead _ _ _ _ _ _ c.loop-at-test.true c.loop-at.invariant.1.walks _ _ (rw part_tail at c.peek-found.ensures) (rw part_tail at c.peek-size.ensures) in
    omega (arith, h.0.up, h.0.inside)

pub loop-at-preserved : goal.loop-at-preserved
loop-at-preserved c =
    let h = ahead _ _ _ _ _ _ c.loop-at-test.true c.loop-at.invariant.1.walks _ _ (rw part_tail at c.peek-found.ensures) (rw part_tail at c.peek-size.ensures) in
    (suc c.peek-found.result.value, rw (add_assoc c.loop-at.at) (sought_next _ _ _ _ _ _ _ c.loop-at.invariant.1 _ h.0 c.if-found-kind.false))

pub returns : goal.returns
returns c = ap Err c.at.ensures ∙ sought_end _ _ _ _ _ _ _ c.loop-at-test.false c.loop-at.invariant.1
