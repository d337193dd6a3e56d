-- The book's refusal, or its lines. Assumes nothing.
use Rattle.std.proofs.Common.{sym, ◌∙◌}
use Rattle.answer.proofs.Answer.{mapped_refused}
use Rattle.book.specs.Book.{judging, contents_of}
use Rattle.book.proofs.PartLaws.{opened}
use Rattle.report_lines.proofs.Putting.{laid_puts}
use Rattle.report_text.specs.Report.{reporting}
use Rattle.report_text.proofs.put_report.Goals as goal

pub put_parts-requires : goal.put_parts-requires
put_parts-requires c =
    let t = opened _ _ _ _ (sym c.read.ensures.value ∙ c.in-Ok.is) c.read.ensures.table_after in
    (t.parts, t.fine, t.is, t.front)

pub returns-in-Err : goal.returns-in-Err
unfolding reporting
returns-in-Err c =
    let e = mapped_refused contents_of (judging c.args.book.now) _ (sym c.read.ensures.value ∙ c.in-Err.is) in
    rw e (laid_puts _ _ _ _ c.put_line.ensures)

pub returns-in-Ok : goal.returns-in-Ok
unfolding reporting
returns-in-Ok c =
    let t = opened _ _ _ _ (sym c.read.ensures.value ∙ c.in-Ok.is) c.read.ensures.table_after in
    rw t.fine (c.put_parts.ensures t.parts t.fine)
