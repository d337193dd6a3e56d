-- The counts go to the last line, in the output's tail. Assumes nothing.
use Rattle.std.proofs.Common.{arith}
use Rattle.report_lines.proofs.Putting.{tail_puts}
use Rattle.report_lines.proofs.Sizes.{end_small}
use Rattle.report_text.proofs.put_end.Goals as goal

pub overflow_add-result : goal.overflow_add-result
overflow_add-result c =
    let a = c.args in
    omega (arith, c.put_end-size.ensures.0, end_small a.contents.streams.count a.contents.messages.count a.contents.invoices.count a.refused, c.requires)

pub returns : goal.returns
returns c = tail_puts _ _ _ _ _ _ c.tail_from-begin.ensures c.put_end-size.ensures.0 c.put_end-size.ensures.1
