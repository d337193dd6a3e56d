-- The number, then what is said of the invoice. Assumes nothing.
use Rattle.std.proofs.Common.{sym, ◌∙◌}
use Rattle.answer.proofs.Answer.{mapped_accepted, mapped_refused}
use Rattle.invoice.specs.Invoice.{judging as judgingInvoice, summary_of}
use Rattle.report_lines.proofs.Putting.{puts_then, puts_laid}
use Rattle.report_lines.proofs.put_invoice.Goals as goal

pub returns-in-Err-clause-size_value : goal.returns-in-Err-clause-size_value
returns-in-Err-clause-size_value c =
    let e = mapped_refused summary_of (judgingInvoice c.args.text.now) _ (sym c.judge.ensures ∙ c.in-Err.is) in
    rw e (puts_laid _ _ _ _ (puts_then c.put_worded-begin.ensures.0 (puts_then c.put_worded-next.ensures.0 c.put_ending.ensures.0)))

pub returns-in-Ok-clause-size_value : goal.returns-in-Ok-clause-size_value
returns-in-Ok-clause-size_value c =
    let m = mapped_accepted summary_of (judgingInvoice c.args.text.now) _ (sym c.judge.ensures ∙ c.in-Ok.is) in
    rw m.1 (puts_laid _ _ _ _ (puts_then c.put_worded-begin.ensures.0 (rw (← m.2) at c.put_asked.ensures)))
