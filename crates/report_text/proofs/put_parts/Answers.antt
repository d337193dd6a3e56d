-- The rows, the three sections, the end. Assumes nothing.
use Rattle.std.proofs.Common.{◌≡◌, arith}
use Rattle.report_lines.proofs.Putting.{laid_puts}
use Rattle.report_text.proofs.PartsLaws.{accepted, streams_there, streams_ready, messages_there, messages_ready, invoices_there, invoices_ready, refused_few, end_ready, parts_put}
use Rattle.report_text.proofs.put_parts.Goals as goal

pub put_section-streams-requires-clause-table_value : goal.put_section-streams-requires-clause-table_value
put_section-streams-requires-clause-table_value c =
    let o = accepted c.requires.1 c.requires.2 c.requires.3 in
    streams_ready o (laid_puts _ _ _ _ c.put_line-begin.ensures)

pub put_section-streams-requires-clause-book_value : goal.put_section-streams-requires-clause-book_value
put_section-streams-requires-clause-book_value c =
    let o = accepted c.requires.1 c.requires.2 c.requires.3 in
    streams_there o

pub put_section-messages-requires-clause-table_value : goal.put_section-messages-requires-clause-table_value
put_section-messages-requires-clause-table_value c =
    let o = accepted c.requires.1 c.requires.2 c.requires.3 in
    messages_ready o (laid_puts _ _ _ _ c.put_line-begin.ensures) c.put_section-streams.ensures

pub put_section-messages-requires-clause-book_value : goal.put_section-messages-requires-clause-book_value
put_section-messages-requires-clause-book_value c =
    let o = accepted c.requires.1 c.requires.2 c.requires.3 in
    messages_there o

pub put_section-invoices-requires-clause-table_value : goal.put_section-invoices-requires-clause-table_value
put_section-invoices-requires-clause-table_value c =
    let o = accepted c.requires.1 c.requires.2 c.requires.3 in
    invoices_ready o (laid_puts _ _ _ _ c.put_line-begin.ensures) c.put_section-streams.ensures c.put_section-messages.ensures

pub put_section-invoices-requires-clause-book_value : goal.put_section-invoices-requires-clause-book_value
put_section-invoices-requires-clause-book_value c =
    let o = accepted c.requires.1 c.requires.2 c.requires.3 in
    invoices_there o

pub overflow_add-refused : goal.overflow_add-refused
overflow_add-refused c =
    let o = accepted c.requires.1 c.requires.2 c.requires.3 in
    omega (
      arith,
      refused_few o (laid_puts _ _ _ _ c.put_line-begin.ensures) c.put_section-streams.ensures c.put_section-messages.ensures c.put_section-invoices.ensures,
    )

pub overflow_add-refused-2 : goal.overflow_add-refused-2
overflow_add-refused-2 c =
    let o = accepted c.requires.1 c.requires.2 c.requires.3 in
    omega (
      arith,
      refused_few o (laid_puts _ _ _ _ c.put_line-begin.ensures) c.put_section-streams.ensures c.put_section-messages.ensures c.put_section-invoices.ensures,
    )

pub put_end-requires : goal.put_end-requires
put_end-requires c =
    let o = accepted c.requires.1 c.requires.2 c.requires.3 in
    end_ready o (laid_puts _ _ _ _ c.put_line-begin.ensures) c.put_section-streams.ensures c.put_section-messages.ensures c.put_section-invoices.ensures

pub returns : goal.returns
returns c p is =
    let o = accepted c.requires.1 c.requires.2 c.requires.3 in
    let same : c.requires.0 ≡ p = cc c.requires.1 in
    rw (← same)
    (parts_put o (laid_puts _ _ _ _ c.put_line-begin.ensures) c.put_section-streams.ensures c.put_section-messages.ensures c.put_section-invoices.ensures
    c.put_end.ensures)
