-- `message::read_extension` meets its contract: no rows, or what the stream's reader says. Assumes nothing.
use Rattle.std.proofs.Common.{[], arith, refl, length}
use Rattle.stream.specs.Tally.{knowns}
use Rattle.stream.proofs.Judging.{reading_fits}
use Rattle.stream_index.specs.Index.{numbers}
use Rattle.message.specs.Message.{built_in}
use Rattle.message.proofs.MessageLaws.{no_extension}
use Rattle.message.proofs.read_extension.Goals as goal

pub returns-then-message-begin : goal.returns-then-message-begin
unfolding knowns numbers
returns-then-message-begin c =
    let a = c.args in
    let none = no_extension _ _ _ c.requires c.if-message-begin.true in
    rw (reading_fits a.begin built_in a.namespace a.message.now (length a.index.now) [] none (omega arith)) record { result_value = refl; index_after = refl }
