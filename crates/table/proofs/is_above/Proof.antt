-- `table::is_above` meets its contract: a higher namespace, the same one, a lower one. Assumes nothing.
use borrow.Author.Tests.{lt-ltb, le-ltb, eq-eqb, ne_eqb}
use Rattle.table.specs.Table.{not_below}
use Rattle.table.proofs.is_above.Statement.{statement}
use Rattle.table.proofs.is_above.Tie as tie

returns : tie.Need-returns-then-namespace-ns
unfolding not_below
returns c = rw (lt-ltb _ _ c.if-namespace-ns.true)

returns-2 : tie.Need-returns-then-namespace-ns-2
unfolding not_below
returns-2 c = rw (le-ltb _ _ c.before.if-namespace-ns.false, eq-eqb _ _ c.if-namespace-ns-2.true)

returns-3 : tie.Need-returns-else-namespace-ns-2
unfolding not_below
returns-3 c = rw (le-ltb _ _ c.before.if-namespace-ns.false, ne_eqb _ _ c.if-namespace-ns-2.false)

pub is_above_spec : {M : Type 1} → statement M
is_above_spec = tie.close (tie.spec returns returns-2 returns-3)
