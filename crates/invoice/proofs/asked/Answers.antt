-- None, or what its characters say.
use native.Mathlib.Omega.{arith}
use mathlib.Core.Path.{sym, ◌∙◌}
use lib.ListN.{length-map}
use Rattle.letters.specs.Letters.{lower}
use Rattle.answer.proofs.Answer.{handed_on}
use Rattle.invoice.proofs.InvoiceLaws.{asking_none, asking_refused, asking_some}
use Rattle.invoice.proofs.asked.Goals as goal

pub returns-then-amount-eq0 : goal.returns-then-amount-eq0
returns-then-amount-eq0 c = sym (asking_none _ (length-map c.args.amount.now lower ∙ c.if-amount-eq0.true))

pub returns-in_err-msat : goal.returns-in_err-msat
returns-in_err-msat c = handed_on c.from_residual.ensures.1 ∙ sym (asking_refused _ (omega (arith, c.if-amount-eq0.false, length-map c.args.amount.now lower)) _ (sym c.read_amount.ensures ∙ c.in_err-msat.was))

pub returns : goal.returns
returns c = sym (asking_some _ (omega (arith, c.if-amount-eq0.false, length-map c.args.amount.now lower)) _ (sym c.read_amount.ensures ∙ c.in_ok-msat.was))
