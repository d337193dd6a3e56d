-- 34 and 35, then both parts.
use Rattle.std.specs.Prelude.{Ok}
use native.Mathlib.Omega.{arith}
use mathlib.Core.Path.{◌≡◌, sym, ◌∙◌}
use Prim.Native.Nat.{◌+◌, ◌-◌}
use lib.ListN.{length, length-take}
use Rattle.answer.proofs.Answer.{handed_on}
use Rattle.bech32.proofs.GroupLaws.{take_groups}
use Rattle.invoice_text.specs.Text.{sealing}
use Rattle.invoice_text.proofs.TextLaws.{accepted_sealed}
use Rattle.invoice.proofs.AnswerLaws.{reads_refused}
use Rattle.invoice.proofs.InvoiceLaws.{data_refused, data_parts}
use Rattle.invoice.proofs.read_data.Goals as goal
use Rattle.invoice.proofs.read_data.Goals.{In_ok-check}

pub returns-in_err-check : goal.returns-in_err-check
returns-in_err-check c = rw (handed_on c.from_residual.ensures.1) (reads_refused _ _ _ _ (data_refused _ _ _ (sym c.check.ensures ∙ c.in_err-check.was)))

-- 34 and 35 accept
right : (e : In_ok-check) → sealing (length e.args.hrp.now + 1) e.args.hrp.now e.args.whole.now ≡ Ok tt
right e = sym e.check.ensures ∙ e.in_ok-check.was

pub read_parts-requires : goal.read_parts-requires
read_parts-requires c =
    let gs = c.args.whole.now in
    let long = length-take (length gs - 6) gs in (
      omega (arith, c.requires, long),
      omega (arith, c.requires, long),
      take_groups (length gs - 6) gs (accepted_sealed _ _ gs (right (goal.at.read_parts-requires c).In_ok-check)).are,
    )

pub returns : goal.returns
returns c = rw (data_parts _ _ (right (goal.at.returns c).In_ok-check)) c.read_parts.ensures
