-- How long an item's line is, in bytes of the book: at most 30 for each byte of the item. Assumes nothing.
use Rattle.std.specs.Prelude.{Ok, Err}
use Rattle.std.specs.Int.{from_bool}
use mathlib.Core.List.{List, [], ◌∷◌}
use mathlib.Core.Path.{◌≡◌, refl}
use Prim.Native.Nat.{ℕ, zero, suc, ◌+◌, ◌*◌, ◌≤◌}
use native.Mathlib.Omega.{arith}
use lib.ListN.{length, length-append}
use Rattle.book.specs.Book.{lead, end, part_of, end_from, items_at}
use Rattle.book.specs.declared.Item.{Item}
use Rattle.book.specs.declared.Section.{Section}
use Rattle.book.proofs.SectionLaws.{item_inside, items_first, items_none}
use Rattle.invoice.specs.Invoice.{judging as judgingInvoice}
use Rattle.laws.proofs.Lists.{length_part}
use Rattle.laws.proofs.Test.{by_order}
use Rattle.message.specs.Message.{judging as judgingMessage}
use Rattle.answer.specs.Answer.{Answer}
use Rattle.report_lines.specs.Lines.{refusal}
use Rattle.report_lines.proofs.Sizes.{stream_small, stream_empty, message_small, message_short, invoice_small, invoice_empty}
use Rattle.stream.specs.Stream.{judging as judgingStream}
use Rattle.table.specs.Table.{checking}
use Rattle.report_lines.proofs.LineLaws.{refusal_counts}
use Rattle.report_text.specs.Report.{line_of, is_refused_in, refusal_of, lines, refusals}

-- An item's line: at most 30 bytes for each of the item's.
module _ (table book : List ℕ) (fine : checking table ≡ Ok tt) where
  pub line_small : (section : Section) (number : ℕ) (e : Item) → end e ≤ length book → length (line_of section table book number e) ≤ 30 * (lead section + 2 + e.size)
  line_small Section.Streams number e inside =
      by_order 0 e.size
      (λ some. omega (arith, stream_small number (judgingStream table e.namespace (part_of e book))))
      (λ none.
      let z : e.size ≡ 0 = omega arith in
      rw z (omega (arith, stream_empty table e.namespace number fine)))
  line_small Section.Messages number e inside =
      let size = length_part book e.start e.size inside in
      by_order e.size 2
      (λ few. omega (arith, message_short (part_of e book) number (rw size few)))
      (λ more. rw size at (message_small number (part_of e book) (judgingMessage (part_of e book)) refl (rw size more)))
  line_small Section.Invoices number e inside =
      by_order 0 e.size
      (λ some. omega (arith, invoice_small number (judgingInvoice (part_of e book))))
      (λ none.
      let z : e.size ≡ 0 = omega arith in
      rw z (omega (arith, invoice_empty number)))

  -- the lines of items, one behind the other
  pub lines_small : (section : Section) (n at before : ℕ) (es : List Item) → items_at section n at book ≡ Ok es →
      length (lines section table book before es) + 30 * at ≤ 30 * end_from at es
  unfolding lines
  lines_small section zero at before es h =
      let is : [] ≡ es = cc (items_none section book at) in
      rw (← is) (omega arith)
  lines_small section (suc n) at before es h =
      let f = items_first section book n at es h in
      let i = item_inside section at book f.is f.found in
      let line = line_small section (suc before) f.is i.ends in
      let rest = lines_small section n (end f.is) (suc before) f.rest f.follow in
      rw f.all
      (omega (
        arith,
        i.starts,
        line,
        rest,
        length-append (line_of section table book (suc before) f.is) (lines section table book (suc before) f.rest),
      ))

-- whether an item is refused, as a number
pub refusal_is : (section : Section) (table book : List ℕ) (e : Item) → from_bool (is_refused_in section table book e) ≡ refusal_of section table book e
refusal_is Section.Streams table book e = refusal_counts (judgingStream table e.namespace (part_of e book))
refusal_is Section.Messages table book e = refusal_counts (judgingMessage (part_of e book))
refusal_is Section.Invoices table book e = refusal_counts (judgingInvoice (part_of e book))

-- No more refusals than items.
one_refusal : {A : Type 0} (x : Answer A) → refusal x ≤ 1
one_refusal (Ok a) = omega arith
one_refusal (Err r) = omega arith

pub refusal_one : (section : Section) (table book : List ℕ) (e : Item) → refusal_of section table book e ≤ 1
refusal_one Section.Streams table book e = one_refusal (judgingStream table e.namespace (part_of e book))
refusal_one Section.Messages table book e = one_refusal (judgingMessage (part_of e book))
refusal_one Section.Invoices table book e = one_refusal (judgingInvoice (part_of e book))

pub refusals_few : (section : Section) (table book : List ℕ) (es : List Item) → refusals section table book es ≤ length es
unfolding refusals
refusals_few section table book [] = omega arith
refusals_few section table book (e ∷ es) = omega (arith, refusal_one section table book e, refusals_few section table book es)
