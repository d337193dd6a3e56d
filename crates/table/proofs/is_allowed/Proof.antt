-- `table::is_allowed` meets its contract: each form by its row of the definition. Assumes nothing.
use borrow.Author.Tests.{le-leb, lt-leb, eq-eqb, ne_eqb}
use Rattle.laws.specs.Test.{pick}
use Rattle.table.specs.Table.{allowed}
use Rattle.table.proofs.is_allowed.Statement.{statement}
use Rattle.table.proofs.is_allowed.Tie as tie

returns : tie.Need-returns-in-0
unfolding allowed pick
returns c = rw c.in-0.is

returns-2 : tie.Need-returns-in-1
unfolding allowed pick
returns-2 c = rw c.in-1.is

returns-3 : tie.Need-returns-then-parameter-eq2
unfolding allowed pick
returns-3 c = rw (c.before.in-2.is, eq-eqb _ _ c.if-parameter-eq2.true)

returns-4 : tie.Need-returns-then-parameter-eq4
unfolding allowed pick
returns-4 c = rw (c.before.before.in-2.is, ne_eqb _ _ c.before.if-parameter-eq2.false, eq-eqb _ _ c.if-parameter-eq4.true)

returns-5 : tie.Need-returns-else-parameter-eq4
unfolding allowed pick
returns-5 c = rw (c.before.before.in-2.is, ne_eqb _ _ c.before.if-parameter-eq2.false, ne_eqb _ _ c.if-parameter-eq4.false)

returns-6 : tie.Need-returns-then-parameter-ge1
unfolding allowed pick
returns-6 c = rw (c.before.in-3.is, le-leb _ _ c.if-parameter-ge1.true)

returns-7 : tie.Need-returns-else-parameter-ge1
unfolding allowed pick
returns-7 c = rw (c.before.in-3.is, lt-leb _ _ c.if-parameter-ge1.false)

returns-8 : tie.Need-returns-in-4
unfolding allowed pick
returns-8 c = rw c.in-4.is

returns-9 : tie.Need-returns-in-5
unfolding allowed pick
returns-9 c = rw c.in-5.is

returns-10 : tie.Need-returns-in-6
unfolding allowed pick
returns-10 c = rw c.in-6.is

returns-11 : tie.Need-returns-in_default
unfolding allowed pick
returns-11 c =
    let no = c.in_default.in_default-own.rest in
    rw (
      ne_eqb _ _ no.0.0.0.0.0.0.1,
      ne_eqb _ _ no.0.0.0.0.0.1,
      ne_eqb _ _ no.0.0.0.0.1,
      ne_eqb _ _ no.0.0.0.1,
      ne_eqb _ _ no.0.0.1,
      ne_eqb _ _ no.0.1,
      ne_eqb _ _ no.1,
    )

pub is_allowed_spec : {M : Type 1} → statement M
is_allowed_spec = tie.close (tie.spec returns returns-2 returns-3 returns-4 returns-5 returns-6 returns-7 returns-8 returns-9 returns-10 returns-11)
