-- `form::fault` meets its contract: each form by its law. Assumes nothing.
use mathlib.Core.Path.{sym, ◌∙◌}
use borrow.Author.Rules.{rules}
use Rattle.form.proofs.Laws.{plain_0, plain_1, plain_2, plain_3, plain_4, plain_6}
use Rattle.form.proofs.fault.Statement.{statement}
use Rattle.form.proofs.fault.Tie as tie

returns : tie.Need-returns-in-1
returns c place kind = c.exactly.ensures place kind ∙ sym (plain_1 _ _ _ _ _ c.before.in-1.is)

returns-2 : tie.Need-returns-in-2
returns-2 c place kind = c.integer.ensures place kind ∙ sym (plain_2 _ _ _ _ _ c.before.in-2.is)

returns-3 : tie.Need-returns-in-3
returns-3 c place kind = c.items.ensures place kind ∙ sym (plain_3 _ _ _ _ _ c.before.in-3.is)

returns-4 : tie.Need-returns-in-4
returns-4 c place kind = c.point.ensures place kind ∙ sym (plain_4 _ _ _ _ _ c.before.in-4.is)

returns-5 : tie.Need-returns-in-6
returns-5 c place kind = c.address.ensures place kind ∙ sym (plain_6 _ _ _ _ _ c.before.in-6.is)

returns-6 : tie.Need-returns-in_default
returns-6 c place kind =
    let others = c.in_default.in_default-own.rest in
    sym (plain_0 _ _ _ _ _ others.0.0.0.0.1 others.0.0.0.1 others.0.0.1 others.0.1 others.1)

pub fault_spec : {M : Type 1} → statement M
fault_spec = tie.close (tie.spec (search rules) (search rules) (search rules) (search rules) (search rules) returns returns-2 returns-3 returns-4 returns-5 returns-6)
