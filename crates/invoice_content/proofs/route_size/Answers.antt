-- The refusal of the field's groups, or the count.
use Rattle.std.specs.Prelude.{Ok}
use mathlib.Core.Path.{sym, ap, ◌∙◌}
use Rattle.answer.proofs.Answer.{handed_on, mapped_refused}
use Rattle.invoice_content.proofs.CheckLaws.{parted}
use Rattle.invoice_content.proofs.ContentLaws.{size_refused, size_sound}
use Rattle.invoice_content.proofs.route_size.Goals as goal

pub returns-in_err-part : goal.returns-in_err-part
returns-in_err-part c = handed_on c.from_residual.ensures.1 ∙ sym (size_refused _ _ _ _ (mapped_refused _ _ _ (sym c.in_err-part.ensures)) _)

pub returns : goal.returns
returns c = ap Ok c.entries.ensures ∙ sym (size_sound _ _ _ (parted _ _ _ _ (sym c.in_ok-part.ensures)).checked _)
