-- `table::halve` meets its contract: what each look leaves, and what the halving tells at its end. Assumes nothing.
use Rattle.std.proofs.Common.{rules, sym}
use Rattle.table.proofs.Searching.{left_none, left_here, left_before, left_behind}
use Rattle.table.proofs.halve.Goals as goal

pub returns-in-Here : goal.returns-in-Here
returns-in-Here c = rw c.row_of.ensures (sym (left_here _ _ _ c.loop-low.invariant.3 c.loop-low-test.true (sym c.in-Here.ensures)))

pub loop-low-preserved-in-Before : goal.loop-low-preserved-in-Before
loop-low-preserved-in-Before c =
    (search rules, search rules, search rules, left_before _ _ _ c.loop-low.invariant.3 c.loop-low-test.true (sym c.in-Before.ensures))

pub loop-low-preserved : goal.loop-low-preserved
loop-low-preserved c =
    (search rules, search rules, search rules, left_behind _ _ _ c.loop-low.invariant.3 c.loop-low-test.true (sym c.in-Behind.ensures))

pub returns : goal.returns
returns c = sym (left_none _ _ _ c.loop-low.invariant.3 c.loop-low-test.false)
