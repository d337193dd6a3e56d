-- `form::items` meets its contract: the ways of its two tests. Assumes nothing.
use mathlib.Core.Path.{sym, ◌∙◌}
use borrow.Author.Rules.{rules}
use Rattle.form.proofs.Laws.{items_none, items_yes, items_no}
use Rattle.form.proofs.items.Statement.{statement}
use Rattle.form.proofs.items.Tie as tie

returns : tie.Need-returns-then-n-eq0
returns c place kind = c.exactly.ensures place kind ∙ sym (items_none _ _ _ _ c.before.if-n-eq0.true)

returns-2 : tie.Need-returns-then-value-n-eq0
returns-2 c place kind = sym (items_yes _ _ _ _ c.if-value-n-eq0.true)

returns-3 : tie.Need-returns
returns-3 c place kind = sym (items_no _ _ _ _ c.if-value-n-eq0.false)

pub items_spec : {M : Type 1} → statement M
items_spec = tie.close (tie.spec (search rules) returns (search rules) returns-2 returns-3)
