-- `form::point` meets its contract: each answer by its law. Assumes nothing.
use mathlib.Core.Path.{sym}
use native.Mathlib.Omega.{arith}
use borrow.Author.Rules.{rules}
use Rattle.form.proofs.Laws.{point_long, point_even, point_odd, point_byte}
use Rattle.form.proofs.point.Statement.{statement}
use Rattle.form.proofs.point.Tie as tie

returns : tie.Need-returns-then-size-lt33
returns c place kind = sym (point_long _ _ _ _ (omega (arith, c.if-size-lt33.true)))

returns-2 : tie.Need-returns-then-size-n
returns-2 c place kind = sym (point_long _ _ _ _ (omega arith))

returns-3 : tie.Need-returns-then-first-eq2
returns-3 c place kind = sym (point_even _ _ _ _ (omega arith) c.if-first-eq2.true)

returns-4 : tie.Need-returns-then-first-eq3
returns-4 c place kind = sym (point_odd _ _ _ _ (omega arith) c.before.if-first-eq2.false c.if-first-eq3.true)

returns-5 : tie.Need-returns
returns-5 c place kind = sym (point_byte _ _ _ _ (omega arith) c.before.if-first-eq2.false c.if-first-eq3.false)

pub point_spec : {M : Type 1} → statement M
point_spec = tie.close (tie.spec returns returns-2 (search rules) returns-3 returns-4 returns-5)
