-- The report on a recording book: document 01, "The recording book". Assumes nothing.
use Rattle.std.specs.Prelude.{Bool, ℕ, suc, ◌+◌, ◌/◌, List, [], ◌∷◌, ◌++◌, length, Ok, Err}
use Rattle.book.specs.Book.{Listed, Parts, part_of, judging}
use Rattle.book.specs.declared.Item.{Item}
use Rattle.book.specs.declared.Section.{Section}
use Rattle.invoice.specs.Invoice.{judging as judgingInvoice}
use Rattle.message.specs.Message.{judging as judgingMessage}
use Rattle.answer.specs.Answer.{Answer, ◌>>=◌, fits}
use Rattle.report_lines.specs.Lines.{stream_line, message_line, invoice_line, is_refused, refusal, end_line}
use Rattle.report_lines.specs.Text.{ending}
use Rattle.stream.specs.Stream.{judging as judgingStream}

-- An item's line. A stream is judged in its namespace by the book's table.
abbrev pub line_of : Section → (table book : List ℕ) (number : ℕ) → Item → List ℕ
line_of Section.Streams table book number e = stream_line number (judgingStream table e.namespace (part_of e book))
line_of Section.Messages table book number e = message_line number (part_of e book) (judgingMessage (part_of e book))
line_of Section.Invoices table book number e = invoice_line number (judgingInvoice (part_of e book))

-- whether it is refused, and the same as a number, 1 or 0
abbrev pub is_refused_in : Section → (table book : List ℕ) → Item → Bool
is_refused_in Section.Streams table book e = is_refused (judgingStream table e.namespace (part_of e book))
is_refused_in Section.Messages table book e = is_refused (judgingMessage (part_of e book))
is_refused_in Section.Invoices table book e = is_refused (judgingInvoice (part_of e book))

abbrev pub refusal_of : Section → (table book : List ℕ) → Item → ℕ
refusal_of Section.Streams table book e = refusal (judgingStream table e.namespace (part_of e book))
refusal_of Section.Messages table book e = refusal (judgingMessage (part_of e book))
refusal_of Section.Invoices table book e = refusal (judgingInvoice (part_of e book))

-- The lines of items, numbered behind those `before` them, and how many items are refused.
unfoldable pub lines : Section → (table book : List ℕ) (before : ℕ) → List Item → List ℕ
lines section table book before [] = []
lines section table book before (e ∷ es) = line_of section table book (suc before) e ++ lines section table book (suc before) es

unfoldable pub refusals : Section → (table book : List ℕ) → List Item → ℕ
refusals section table book [] = 0
refusals section table book (e ∷ es) = refusal_of section table book e + refusals section table book es

-- the same of a whole section
abbrev pub lines_in : Section → (table book : List ℕ) → Listed → List ℕ
lines_in section table book l = lines section table book 0 l.items

abbrev pub refusals_in : Section → (table book : List ℕ) → Listed → ℕ
refusals_in section table book l = refusals section table book l.items

-- A book's lines: its rows, each section's items, the end.
abbrev pub parts_text : (book : List ℕ) → Parts → List ℕ
parts_text book p =
    ending "rows " (length p.table / 4)
    ++ (lines_in Section.Streams p.table book p.streams
    ++ (lines_in Section.Messages p.table book p.messages
    ++ (lines_in Section.Invoices p.table book p.invoices
    ++ end_line
    (length p.streams.items)
    (length p.messages.items)
    (length p.invoices.items)
    (refusals_in Section.Streams p.table book p.streams
    + (refusals_in Section.Messages p.table book p.messages
    + refusals_in Section.Invoices p.table book p.invoices)))))

-- The whole report. A bad book or table gives only book refused 70, with its number.
abbrev pub text_of : (book : List ℕ) → Answer Parts → List ℕ
text_of book (Ok parts) = parts_text book parts
text_of book (Err r) = ending "book refused " r.number

unfoldable pub reporting : (book : List ℕ) → List ℕ
reporting book = text_of book (judging book)

-- The report in an output of that length: 12 where it does not fit.
unfoldable pub writing : (book : List ℕ) (room : ℕ) → Answer (List ℕ)
writing book room = do
  _ ← fits (length (reporting book)) room
  Ok (reporting book)
