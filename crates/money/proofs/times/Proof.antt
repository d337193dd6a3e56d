-- `money::times` meets its contract: the cap divided by the scale decides, so that no product is too large. Assumes nothing.
use borrow.Author.Rules.{rules}
use mathlib.Core.Path.{sym, ◌∙◌}
use native.Mathlib.Nat.{div-lt_iff_lt-mul, le-div_iff_mul-le}
use native.Mathlib.Omega.{arith}
use Rattle.money.proofs.AmountLaws.{capped_yes, capped_no}
use Rattle.money.proofs.times.Statement.{statement}
use Rattle.money.proofs.times.Tie as tie

returns : tie.Need-returns-then-scale-number
returns c = c.refused.ensures ∙ sym (capped_no _ ((div-lt_iff_lt-mul c.before.before.requires).0 c.before.if-scale-number.true))

mul-t3 : tie.Need-overflow_mul-result
mul-t3 c = omega (arith, (le-div_iff_mul-le c.before.requires).0 c.if-scale-number.false)

returns-2 : tie.Need-returns
returns-2 c = sym (capped_yes _ ((le-div_iff_mul-le c.before.requires).0 c.if-scale-number.false))

pub times_spec : {M : Type 1} → statement M
times_spec = tie.close (tie.spec (search rules) (search rules) returns mul-t3 returns-2)
