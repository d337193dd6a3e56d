-- `message::judge_extension` meets its contract: no records, or what the stream's judge and the search say. Assumes nothing.
use Rattle.std.proofs.Common.{[], sym, ap, ◌∙◌}
use Rattle.answer.specs.Answer.{mapped}
use Rattle.answer.proofs.Answer.{then_accepted}
use Rattle.stream.specs.Tally.{tally, knowns}
use Rattle.stream_index.specs.Index.{find, locating_from}
use Rattle.message.proofs.MessageLaws.{no_extension}
use Rattle.message.proofs.judge_extension.Goals as goal

pub returns-then-message-begin : goal.returns-then-message-begin
unfolding knowns locating_from find
returns-then-message-begin c =
    let none = no_extension _ _ _ c.requires c.if-message-begin.true in
    record { reading_value = sym (ap (mapped tally) none); located_value = c.no_address.ensures ∙ sym (then_accepted [] (find 3) _ none) }
