-- `message::with_extension` meets its contract: by the extension's answer. Assumes nothing.
use Rattle.std.proofs.Common.{sym, ap, ◌∙◌, Ok}
use Rattle.answer.proofs.Answer.{handed_on, then_accepted, then_refused, mapped_accepted, mapped_refused}
use Rattle.stream.specs.Tally.{tally}
use Rattle.message.proofs.MessageLaws.{accepted_is}
use Rattle.message.proofs.with_extension.Goals as goal

pub returns-in_err-counts : goal.returns-in_err-counts
returns-in_err-counts c m x is e =
    let j = mapped_refused tally x _ (sym e ∙ c.in_err-counts.was) in
    rw (then_refused _ _ x j) (handed_on c.from_residual.ensures.1)

pub returns : goal.returns
returns c m x is e =
    let j = mapped_accepted tally x _ (sym e ∙ c.in_ok-counts.was) in
    rw (then_accepted j.0 _ x j.1, is) (ap Ok (accepted_is c.args.parsed.payload _ _ j.0 _ _ c.requires.0 j.2))
