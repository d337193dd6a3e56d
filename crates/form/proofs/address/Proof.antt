-- `form::address` meets its contract: the two ways of its test. Assumes nothing.
use borrow.Author.Rules.{rules}
use mathlib.Core.Path.{sym, ◌∙◌}
use Rattle.form.proofs.Laws.{address_yes, address_no}
use Rattle.form.proofs.address.Statement.{statement}
use Rattle.form.proofs.address.Tie as tie

returns : tie.Need-returns-then-is_descriptor
returns c place kind = sym (address_yes _ _ _ (sym c.before.is_descriptor.ensures ∙ c.if-is_descriptor.true))

returns-2 : tie.Need-returns
returns-2 c place kind = sym (address_no _ _ _ (sym c.before.is_descriptor.ensures ∙ c.if-is_descriptor.false))

pub address_spec : {M : Type 1} → statement M
address_spec = tie.close (tie.spec (search rules) returns returns-2)
