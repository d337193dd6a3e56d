-- What `judge` answers.
use Rattle.std.specs.Prelude.{Err}
use mathlib.Core.Path.{sym, ap, ◌∙◌}
use Rattle.answer.proofs.Answer.{then_accepted, then_refused, handed_on, mapped_accepted, mapped_refused}
use Rattle.invoice.specs.Invoice.{summary_of}
use Rattle.invoice_writer.specs.Private.{unwritten_of}
use Rattle.invoice_writer.proofs.unwritten.Goals as goal

pub returns-in_err-judge : goal.returns-in_err-judge
unfolding unwritten_of
returns-in_err-judge c =
    handed_on c.from_residual.ensures.1 ∙ sym (then_refused _ _ _ (mapped_refused summary_of _ _ (sym c.judge.ensures ∙ c.in_err-judge.was)))

pub returns : goal.returns
unfolding unwritten_of
returns c =
    let a = mapped_accepted summary_of _ _ (sym c.judge.ensures ∙ c.in_ok-judge.was) in
    ap Err c.bare.ensures ∙ sym (then_accepted a.0 _ _ a.1)
