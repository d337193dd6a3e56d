-- `stream_writer::place_row` meets its contract: each answer by the law of its case. Assumes nothing.
use Rattle.std.specs.Prelude.{Err}
use Rattle.std.proofs.Common.{arith, sym, ap, ◌∙◌}
use borrow.Author.Tests.{ltb-true, ltb-false}
use Rattle.stream_writer.proofs.RowLaws.{placed_outside, placed_falls, placed_fine}
use Rattle.stream_writer.proofs.place_row.Goals as goal

pub returns-then-all-start : goal.returns-then-all-start
returns-then-all-start c = ap Err c.at.ensures ∙ sym (placed_outside _ _ _ _ _ _ (omega arith))

pub returns-then-all-start-2 : goal.returns-then-all-start-2
returns-then-all-start-2 c = ap Err c.at-then-all-start-2.ensures ∙ sym (placed_outside _ _ _ _ _ _ (omega arith))

pub returns-then-falls : goal.returns-then-falls
returns-then-falls c =
    ap Err c.at-then-falls.ensures ∙ sym (placed_falls _ _ _ _ _ _ (omega arith) (ltb-true _ _ (sym c.falls.ensures ∙ c.if-falls.true)))

pub returns : goal.returns
returns c = sym (placed_fine _ _ _ _ _ _ (omega arith) (ltb-false _ _ (sym c.falls.ensures ∙ c.if-falls.false)))
