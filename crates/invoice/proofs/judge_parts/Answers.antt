-- The human readable part, then the groups.
use Rattle.std.specs.Prelude.{Ok}
use mathlib.Core.Path.{refl, sym, ap, ◌∙◌}
use Rattle.answer.proofs.Answer.{handed_on, mapped_refused, mapped_accepted}
use Rattle.invoice.specs.Private.{hrp_of, data_of}
use Rattle.invoice.proofs.AnswerLaws.{summary_is}
use Rattle.invoice.proofs.InvoiceLaws.{parts_hrp, parts_fields, parts_fine}
use Rattle.invoice.proofs.judge_parts.Goals as goal

pub returns-in_err-hrp : goal.returns-in_err-hrp
returns-in_err-hrp c =
    rw (parts_hrp _ _ _ (mapped_refused hrp_of _ _ (sym c.judge_hrp.ensures ∙ c.in_err-hrp.was))) (handed_on c.from_residual.ensures.1)

pub returns-in_err-told : goal.returns-in_err-told
returns-in_err-told c =
    let p = mapped_accepted hrp_of _ _ (sym c.judge_hrp.ensures ∙ c.in_ok-hrp.was) in
    rw (parts_fields _ _ p.0 p.1 _ (mapped_refused (data_of c.args.content.now) _ _ (sym c.judge_groups.ensures ∙ c.in_err-told.was)))
    (handed_on c.from_residual-in_err-told.ensures.1)

pub returns : goal.returns
returns c =
    let p = mapped_accepted hrp_of _ _ (sym c.judge_hrp.ensures ∙ c.in_ok-hrp.was) in
    let f = mapped_accepted (data_of c.args.content.now) _ _ (sym c.judge_groups.ensures ∙ c.in_ok-told.was) in
    rw (parts_fine _ _ p.0 p.1 f.0 f.1) (ap Ok (summary_is p.0 c.args.content.now f.0 _ _ _ p.2 f.2 refl))
