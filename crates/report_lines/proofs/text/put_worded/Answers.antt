-- The words, then the digits. Assumes nothing.
use Rattle.std.proofs.Common.{◌≡◌, take, sym, ◌∙◌, arith, length-append}
use Rattle.report_lines.specs.Text.{decimal}
use Rattle.report_lines.proofs.Decimal.{length_decimal, decimal_is}
use Rattle.report_lines.proofs.Putting.{puts_then}
use Rattle.report_lines.proofs.text.put_worded.Goals as goal

pub returns : goal.returns
returns c =
    let a = c.args in
    let spelled : take c.decimal-k.result c.decimal-k.new.out ≡ decimal a.n =
    c.decimal-k.ensures.digits ∙ sym (decimal_is _ a.n c.ranges.n.fits c.decimal-k.ensures.len) in
    let whole = puts_then c.put-begin.ensures (rw spelled at c.put.ensures) in
    (whole, omega (arith, whole.ends, length-append a.words.now (decimal a.n), length_decimal 20 a.n))
