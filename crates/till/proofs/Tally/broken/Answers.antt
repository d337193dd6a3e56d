-- Test by test.
use native.Mathlib.Omega.{arith}
use mathlib.Core.Bool.{true}
use mathlib.Core.Path.{◌≡◌, ◌∙◌}
use Rattle.till.proofs.Listing.{listed_all, listed_none, listed_few, listed_kept, listed_broken}
use Rattle.till.proofs.Tally.broken.Goals as goal
use Rattle.till.proofs.Tally.broken.Goals.{then-not-kept-i, else-not-kept-i}

pub loop-i-init : goal.loop-i-init
loop-i-init c = listed_none

pub bounds-rules-count : goal.bounds-rules-count
bounds-rules-count c = omega (arith, listed_few _ true _ _ _ c.loop-i-test.true c.loop-i.invariant)

pub overflow_add-count : goal.overflow_add-count
overflow_add-count c = omega (arith, listed_few _ true _ _ _ c.loop-i-test.true c.loop-i.invariant)

pub loop-i-preserved : goal.loop-i-preserved
loop-i-preserved c = elim c.if-not-kept-i.branch [
  | then-not-kept-i w ↦ rw (w.rules-is, w.count-is) (listed_broken _ _ _ _ _ c.loop-i-test.true c.loop-i.invariant w.if-not-kept-i.true c.loop-i-test.true)
  | else-not-kept-i w ↦ rw (w.rules-is, w.count-is) (listed_kept _ _ _ _ _ c.loop-i-test.true c.loop-i.invariant w.if-not-kept-i.false)
]

pub returns : goal.returns
returns c =
    let all : c.loop-i.i ≡ 6 = omega arith in
    listed_all _ _ _ (rw all at c.loop-i.invariant)
    ∙ rw (c.one_payment_hash.ensures, c.one_description.ensures, c.at_most_once.ensures, c.all_packed.ensures, c.all_stripped.ensures)
