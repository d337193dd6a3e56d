-- `money::read_amount` meets its contract: the digits, no zero in front, then what follows them. Assumes nothing.
use borrow.Author.Rules.{rules}
use native.Mathlib.Omega.{arith}
use mathlib.Core.Path.{sym, ◌∙◌}
use Rattle.laws.proofs.Lists.{part_tail}
use Rattle.money.proofs.AmountLaws.{amounting_none, amounting_zero, amounting_read}
use Rattle.money.proofs.DigitLaws.{count_le, count_lower, first_lower}
use Rattle.money.proofs.read_amount.Statement.{statement}
use Rattle.money.proofs.read_amount.Tie as tie

returns : tie.Need-returns-then-count-eq0
returns c =
    let d = c.before.before in
    c.refused.ensures ∙ sym (amounting_none _ (count_lower d.before.before.args.text.now ∙ omega (arith, d.leading_digits-digits.ensures.0)))

shared-slice-read-if2 : tie.Need-bounds-text-0
shared-slice-read-if2 c =
    let d = c.before.before in
    omega (arith, d.leading_digits-digits.ensures.0, count_le d.before.before.args.text.now)

returns-2 : tie.Need-returns-then-text-eq48
returns-2 c =
    let d = c.before.before.before.before in
    let s = d.before.before.args.text.now in
    c.refused-then-text-eq48.ensures ∙ sym (amounting_zero _ (first_lower s (omega (arith, d.leading_digits-digits.ensures.0)) ∙ c.before.if-text-eq48.true))

sub-value : tie.Need-slice_bounds-value-count
sub-value c =
    let d = c.before.before.before in
    omega (arith, d.leading_digits-digits.ensures.0, count_le d.before.before.args.text.now)

part-value-start : tie.Need-slice_bounds-value-start
part-value-start c =
    let d = c.before.before.before in
    omega (arith, d.leading_digits-digits.ensures.0, count_le d.before.before.args.text.now)

returns-3 : tie.Need-returns
returns-3 c =
    let d = c.before.before.before.before.before in
    let s = d.before.before.args.text.now in
    let is = amounting_read s _ d.leading_digits-digits.ensures.0 (omega arith) c.before.before.if-text-eq48.false in
    (rw (part_tail, d.leading_digits-digits.ensures.1) at c.value.ensures) ∙ sym is

pub read_amount_spec : {M : Type 1} → statement M
read_amount_spec =
    tie.close
    (tie.spec (search rules) (search rules) returns shared-slice-read-if2 (search rules) returns-2 sub-value part-value-start (search rules) (search rules)
    returns-3)
