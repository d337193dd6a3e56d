-- `address::is_rest` meets its contract: each type by its row of the definition. Assumes nothing.
use borrow.Author.Rules.{rules}
use borrow.Author.Tests.{ne_eqb}
use Rattle.address.specs.Address.{by_length, is_rest}
use Rattle.laws.specs.Test.{pick}
use Rattle.address.proofs.is_rest.Statement.{statement}
use Rattle.address.proofs.is_rest.Tie as tie

returns : tie.Need-returns-in-1
unfolding is_rest by_length pick
returns c = rw c.in-1.is

returns-2 : tie.Need-returns-in-2
unfolding is_rest by_length pick
returns-2 c = rw c.in-2.is

returns-3 : tie.Need-returns-in-3
unfolding is_rest by_length pick
returns-3 c = rw c.in-3.is

returns-4 : tie.Need-returns-in-4
unfolding is_rest by_length pick
returns-4 c = rw c.in-4.is

returns-5 : tie.Need-returns-in-5
unfolding is_rest by_length pick
returns-5 c = rw c.before.in-5.is c.is_name.ensures

returns-6 : tie.Need-returns-in_default
unfolding is_rest by_length pick
returns-6 c =
    let no = c.in_default.in_default-own.rest in
    rw (ne_eqb _ _ no.0.0.0.0.1, ne_eqb _ _ no.0.0.0.1, ne_eqb _ _ no.0.0.1, ne_eqb _ _ no.0.1, ne_eqb _ _ no.1)

pub is_rest_spec : {M : Type 1} → statement M
is_rest_spec = tie.close (tie.spec (search rules) returns returns-2 returns-3 returns-4 returns-5 returns-6)
