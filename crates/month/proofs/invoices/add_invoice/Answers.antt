-- `month::invoices::add_invoice` meets its contract. Assumes nothing.
use Rattle.std.proofs.Common.{sym, ap, ◌∙◌, ◌≡◌}
use Rattle.answer.proofs.Answer.{mapped_accepted, mapped_refused}
use Rattle.invoice.specs.Invoice.{summary_of}
use Rattle.month.specs.Month.{paying}
use Rattle.month.proofs.Paying.{pays_none, pays_one}
use Rattle.month.proofs.invoices.add_invoice.Goals as goal

pub returns-in-Err : goal.returns-in-Err
returns-in-Err c = rw (mapped_refused summary_of _ _ (sym c.in-Err.ensures)) (sym (pays_none c.args.earlier))

pub returns-in-Ok : goal.returns-in-Ok
returns-in-Ok c =
    let m = mapped_accepted summary_of _ _ (sym c.in-Ok.ensures) in
    let asks : paying c.in-Ok.summary.asked c.args.earlier ≡ paying m.0.hrp.msat c.args.earlier = sym (ap (λ s. paying s.asked c.args.earlier) m.2) in
    rw m.1 (c.pay.ensures ∙ asks ∙ sym (pays_one c.args.earlier m.0.hrp.msat))
