-- Group by group.
use borrow.Author.Count.{below_more}
use native.Mathlib.Nat.{div-one}
use native.Mathlib.Omega.{arith}
use mathlib.Core.Path.{sym}
use Rattle.laws.proofs.Test.{by_order}
use Rattle.field_writer.proofs.ShortestLaws.{shortest_size, more_left, none_left, left_turn}
use Rattle.field_writer.proofs.groups_for.Goals as goal

pub loop-rest-init : goal.loop-rest-init
loop-rest-init c = (sym (div-one _), λ k h. absurd (omega arith))

-- a number of 64 bits needs no more than 13 groups
pub overflow_add-size : goal.overflow_add-size
overflow_add-size c =
    let l = c.loop-rest in
    by_order 13 l.size (λ many. absurd (omega (arith, l.invariant.1 13 many))) λ h. omega arith

pub loop-rest-preserved : goal.loop-rest-preserved
loop-rest-preserved c =
    let l = c.loop-rest in
    let n = c.args.number in (
      left_turn n l.size l.rest l.invariant.0,
      below_more _ _ l.invariant.1 (more_left n l.size l.rest l.invariant.0 c.loop-rest-test.true),
    )

pub returns : goal.returns
returns c =
    let l = c.loop-rest in
    let n = c.args.number in
    sym (shortest_size n (omega arith) l.size (none_left n l.size l.rest l.invariant.0 c.loop-rest-test.false) l.invariant.1)
