-- `form::exactly` meets its contract: the two ways of its test. Assumes nothing.
use mathlib.Core.Path.{sym}
use Rattle.form.proofs.Laws.{exactly_yes, exactly_no}
use Rattle.form.proofs.exactly.Statement.{statement}
use Rattle.form.proofs.exactly.Tie as tie

returns : tie.Need-returns-then-value-n
returns c place kind = sym (exactly_yes _ _ _ _ c.if-value-n.true)

returns-2 : tie.Need-returns
returns-2 c place kind = sym (exactly_no _ _ _ _ c.if-value-n.false)

pub exactly_spec : {M : Type 1} → statement M
exactly_spec = tie.close (tie.spec returns returns-2)
