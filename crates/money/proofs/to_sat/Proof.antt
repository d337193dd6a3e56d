-- `money::to_sat` meets its contract: the two ways of its test. Assumes nothing.
use borrow.Author.Rules.{rules}
use mathlib.Core.Path.{sym}
use Rattle.money.proofs.UnitLaws.{to_sat_exact, to_sat_not}
use Rattle.money.proofs.to_sat.Statement.{statement}
use Rattle.money.proofs.to_sat.Tie as tie

returns : tie.Need-returns-then-amount-ne0
returns c = rw c.bare.ensures (sym (to_sat_not _ c.before.if-amount-ne0.true))

returns-2 : tie.Need-returns
returns-2 c = sym (to_sat_exact _ c.before.if-amount-ne0.false)

pub to_sat_spec : {M : Type 1} → statement M
to_sat_spec = tie.close (tie.spec (search rules) returns returns-2)
