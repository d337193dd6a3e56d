-- The refusal of the field's groups, or what `bytes_of` answers of them.
use mathlib.Core.Path.{refl, sym}
use Rattle.answer.proofs.Answer.{handed_on, mapped_refused}
use Rattle.bech32.proofs.GroupLaws.{low5_same}
use Rattle.invoice_content.proofs.CheckLaws.{parted}
use Rattle.invoice_content.proofs.ContentLaws.{bytes_refused, bytes_sound}
use Rattle.invoice_content.proofs.bytes.Goals as goal

pub returns-in_err-part : goal.returns-in_err-part
returns-in_err-part c =
    rw (handed_on c.from_residual.ensures.1, bytes_refused _ _ _ _ (mapped_refused _ _ _ (sym c.in_err-part.ensures)) _) record { result_value = refl; out_after = refl }

pub returns : goal.returns
returns c =
    let a = c.args in
    let p = parted a.groups.now a.start a.size _ (sym c.in_ok-part.ensures) in
    rw (bytes_sound _ _ _ p.checked, ← p.is) (rw (low5_same _ p.are) at c.bytes_of.ensures)
