-- The item's part of the book goes to its section's line, in the output's tail. Assumes nothing.
use Rattle.std.proofs.Common.{ap, ◌∙◌}
use native.Mathlib.Nat.{add-sub_cancel_left}
use Rattle.book.specs.Book.{part_of}
use Rattle.stream.proofs.Sought.{sought_judged}
use Rattle.stream.specs.Stream.{judging}
use Rattle.stream.specs.Tally.{tally}
use Rattle.report_lines.specs.Lines.{is_refused}
use Rattle.report_lines.proofs.LineLaws.{refused_mapped}
use Rattle.report_lines.proofs.Putting.{tail_puts}
use Rattle.report_text.proofs.put_item.Goals as goal

pub returns-in-Streams-clause-puts : goal.returns-in-Streams-clause-puts
returns-in-Streams-clause-puts c =
    let e = c.args.e in
    let read = rw (add-sub_cancel_left e.start e.size) at (sought_judged _ c.requires.0 _ _ _ _ c.count_unchecked-reading.ensures) in
    let line = rw read at c.put_reading.ensures.size_value in
    rw c.in-Streams.is (tail_puts _ _ _ _ _ _ c.tail_from-begin.ensures line.0 line.1)

pub returns-in-Streams-clause-refused_value : goal.returns-in-Streams-clause-refused_value
returns-in-Streams-clause-refused_value c =
    let a = c.args in
    let read = rw (add-sub_cancel_left a.e.start a.e.size) at (sought_judged _ c.requires.0 _ _ _ _ c.count_unchecked-reading.ensures) in
    rw c.in-Streams.is
    (c.put_reading.ensures.refused_value ∙ ap is_refused read ∙ refused_mapped tally (judging a.table.now a.e.namespace (part_of a.e a.book.now)))

pub returns-in-Messages-clause-puts : goal.returns-in-Messages-clause-puts
returns-in-Messages-clause-puts c =
    let put = rw (add-sub_cancel_left c.args.e.start c.args.e.size) at c.put_message.ensures.size_value in
    rw c.in-Messages.is (tail_puts _ _ _ _ _ _ c.tail_from-begin.ensures put.0 put.1)

pub returns-in-Invoices-clause-puts : goal.returns-in-Invoices-clause-puts
returns-in-Invoices-clause-puts c =
    let put = rw (add-sub_cancel_left c.args.e.start c.args.e.size) at c.put_invoice.ensures.size_value in
    rw c.in-Invoices.is (tail_puts _ _ _ _ _ _ c.tail_from-begin.ensures put.0 put.1)
