-- `form::integer` meets its contract: each answer by its law. Assumes nothing.
use mathlib.Core.Path.{sym}
use borrow.Author.Rules.{rules}
use Rattle.form.proofs.Laws.{integer_long, integer_empty, integer_zero, integer_yes}
use Rattle.form.proofs.integer.Statement.{statement}
use Rattle.form.proofs.integer.Tie as tie

returns : tie.Need-returns-then-n-value
returns c place kind = sym (integer_long _ _ _ _ c.if-n-value.true)

returns-2 : tie.Need-returns-then-value-eq0
returns-2 c place kind = sym (integer_empty _ _ _ _ c.before.if-n-value.false c.if-value-eq0.true)

returns-3 : tie.Need-returns-then-value-eq0-2
returns-3 c place kind =
    let b = c.before.before in
    sym (integer_zero _ _ _ _ b.before.if-n-value.false b.if-value-eq0.false c.if-value-eq0-2.true)

returns-4 : tie.Need-returns
returns-4 c place kind =
    let b = c.before.before in
    sym (integer_yes _ _ _ _ b.before.if-n-value.false b.if-value-eq0.false c.if-value-eq0-2.false)

pub integer_spec : {M : Type 1} → statement M
integer_spec = tie.close (tie.spec returns returns-2 (search rules) returns-3 returns-4)
