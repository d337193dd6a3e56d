-- `report_text::report` meets its contract: too short, or the report. Assumes nothing.
use Rattle.std.specs.Prelude.{Ok}
use Rattle.std.proofs.Common.{refl, ap, arith, ◌≤◌, length}
use Rattle.report_text.specs.Report.{reporting}
use Rattle.report_text.proofs.Size.{report_small}
use Rattle.report_text.proofs.WritingLaws.{writing_short, writing_fits, puts_front}
use Rattle.report_text.proofs.report.Goals.{then-out-lt-MOST+else-out-measure, else-out-lt-MOST}
use Rattle.report_text.proofs.report.Goals as goal

pub returns-then-out-measure : goal.returns-then-out-measure
returns-then-out-measure c =
    let a = c.args in
    rw (writing_short a.book.now (length a.out.now) (omega (arith, c.measure.ensures, c.if-out-measure.true)), c.bare.ensures) record { result_value = refl; out_after = refl }

pub returns : goal.returns
returns c =
    let a = c.args in
    -- either way the report fits
    let fits : length (reporting a.book.now) ≤ length a.out.now =
    elim c.if-out-lt-MOST.branch [
      | then-out-lt-MOST+else-out-measure w ↦ omega (arith, w.measure.ensures, w.if-out-measure.false)
      | else-out-lt-MOST w ↦ omega (arith, report_small a.book.now, w.if-out-lt-MOST.false)
    ] in
    let f = puts_front _ _ _ _ c.put_report.ensures fits in
    rw (writing_fits _ _ fits) record { result_value = ap Ok f.0; out_after = f.1 }
