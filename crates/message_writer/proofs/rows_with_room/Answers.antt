-- `message_writer::rows_with_room` meets its contract. Assumes nothing.
use Rattle.std.proofs.Common.{sym, ◌∙◌}
use borrow.Author.Tests.{le-leb, lt-leb}
use Rattle.laws.proofs.Test.{pick_yes, pick_no}
use Rattle.message_writer.proofs.rows_with_room.Goals as goal

pub returns-then-out-size : goal.returns-then-out-size
returns-then-out-size c = sym (pick_no _ _ _ (lt-leb _ _ c.if-out-size.true))

pub returns : goal.returns
returns c = c.min.ensures ∙ sym (pick_yes _ _ _ (le-leb _ _ c.if-out-size.false))
