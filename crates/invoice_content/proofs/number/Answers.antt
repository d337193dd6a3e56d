-- The refusal of the field's groups, 38, or the number, which fits 64 bits.
use Rattle.std.specs.Prelude.{Ok, Err}
use native.Mathlib.Omega.{arith}
use mathlib.Core.Path.{◌≡◌, sym, ap, ◌∙◌}
use lib.ListN.{length}
use Rattle.answer.proofs.Answer.{handed_on, mapped_refused}
use Rattle.bech32.proofs.GroupLaws.{number_fits}
use Rattle.laws.proofs.Lists.{length_part}
use Rattle.invoice_content.proofs.CheckLaws.{Parted, parted}
use Rattle.invoice_content.proofs.ContentLaws.{number_refused, number_many, number_few}
use Rattle.invoice_content.proofs.number.Goals as goal
use Rattle.invoice_content.proofs.number.Goals.{In_ok-part}

pub returns-in_err-part : goal.returns-in_err-part
returns-in_err-part c = handed_on c.from_residual.ensures.1 ∙ sym (number_refused _ _ _ _ (mapped_refused _ _ _ (sym c.in_err-part.ensures)))

parted_of : (k : In_ok-part) → Parted k.args.groups.now k.args.start k.args.size k.in_ok-part.part.now
parted_of k = parted _ _ _ _ (sym k.in_ok-part.ensures)

long : (k : In_ok-part) → length k.in_ok-part.part.now ≡ k.args.size
long k = let p = parted_of k in ap length p.is ∙ length_part _ _ _ p.inside

pub returns-then-part-gt12 : goal.returns-then-part-gt12
returns-then-part-gt12 c =
    let k = (goal.at.returns-then-part-gt12 c).In_ok-part in
    ap Err c.bare.ensures ∙ sym (number_many _ _ _ (parted_of k).checked (omega (arith, long k, c.if-part-gt12.true)))

pub returns : goal.returns
returns c =
    let k = (goal.at.returns c).In_ok-part in
    let p = parted_of k in
    rw (number_few _ _ _ p.checked (omega (arith, long k, c.if-part-gt12.false)), ← p.is)
    (ap Ok (c.number.ensures ∙ number_fits _ p.are (omega (arith, c.if-part-gt12.false))))
