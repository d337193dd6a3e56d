-- `invoice_text::check` meets its contract: the groups, then the checksum. Assumes nothing.
use Rattle.std.proofs.Common.{arith, sym, ap, ◌∙◌, ◌+◌, ℕ, Err, length}
use Rattle.answer.specs.Answer.{refuse}
use Rattle.invoice_text.specs.Text.{is_above31}
use Rattle.invoice_text.proofs.FirstWhere.{first_most}
use Rattle.invoice_text.proofs.TextLaws.{sealing_above, sealing_wrong, sealing_right}
use Rattle.invoice_text.proofs.check.Goals as goal

pub overflow_add-place : goal.overflow_add-place
overflow_add-place c = omega (arith, c.first_where.ensures, first_most is_above31 c.args.groups.now)

pub returns-then-has : goal.returns-then-has
returns-then-has c =
    let a = c.args in
    ap Err c.at.ensures
    ∙ ap (λ (n : ℕ). Err (refuse 34 (length a.hrp.now + 1 + n) 0)) c.first_where.ensures
    ∙ sym (sealing_above _ _ _ (sym c.has.ensures ∙ c.if-has.true))

pub returns-then-not-verify_groups : goal.returns-then-not-verify_groups
returns-then-not-verify_groups c =
    ap Err c.bare.ensures
    ∙ sym (sealing_wrong _ _ _ (sym c.has.ensures ∙ c.if-has.false) (sym c.if-not-verify_groups.ensures))

pub returns : goal.returns
returns c = sym (sealing_right _ _ _ (sym c.has.ensures ∙ c.if-has.false) (sym c.if-not-verify_groups.ensures))
