-- `frame::read` meets its contract: each answer by the law of its case. Assumes nothing.
use Rattle.std.proofs.Common.{sym, ◌∙◌}
use borrow.Author.Tests.{ltb-true, ltb-false}
use Rattle.bigsize.proofs.Laws.{reading_width, unreadable, readable_read}
use Rattle.frame.proofs.Laws.{framing_refused, framing_falls, framing_rises}
use Rattle.frame.proofs.read.Goals as goal

pub returns-in_default-clause-result_value : goal.returns-in_default-clause-result_value
returns-in_default-clause-result_value c =
    let u = unreadable c.in_default.ensures in
    rw (c.refusal.ensures u.0 u.1) (sym (framing_refused _ _ _ u.0 u.1))

pub returns-then-falls-clause-result_value : goal.returns-then-falls-clause-result_value
returns-then-falls-clause-result_value c =
    rw c.at.ensures (sym (framing_falls _ _ _ _ _ (readable_read c.in-Some.ensures) (ltb-true _ _ (sym c.falls.ensures ∙ c.if-falls.true))))

pub read_size-requires : goal.read_size-requires
read_size-requires c = (reading_width _ _ (readable_read c.in-Some.ensures)).1

pub returns-clause-result_value : goal.returns-clause-result_value
returns-clause-result_value c =
    c.read_size.ensures.result_value
    ∙ sym (framing_rises _ _ _ _ _ (readable_read c.in-Some.ensures) (ltb-false _ _ (sym c.falls.ensures ∙ c.if-falls.false)))
