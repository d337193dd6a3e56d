-- `month::take` meets its contract: the book is refused, or its streams and invoices are added. Assumes nothing.
use Rattle.std.specs.Prelude.{Ok}
use Rattle.std.proofs.Common.{◌≡◌, ◌*◌, ℕ, List, take, sym, ap, ◌∙◌, arith, length-take-le}
use Rattle.answer.specs.Answer.{mapped}
use Rattle.answer.proofs.Answer.{mapped_refused}
use Rattle.book.specs.Book.{items_at, judging, contents_of}
use Rattle.book.specs.declared.Contents.{Contents}
use Rattle.book.specs.declared.Section.TheVariants as Section
use Rattle.book.proofs.PartLaws.{Parted, parted, judged, Opened, opened}
use Rattle.book.proofs.SectionLaws.{run_items}
use Rattle.table.specs.Table.{checking}
use Rattle.month.proofs.Going.{nothing_entered}
use Rattle.month.proofs.Paying.{pays_none, amounts_none, amounts_are}
use Rattle.month.proofs.Records.{records_none, records_are}
use Rattle.month.proofs.take.Goals as goal

-- a book that was read: the table is accepted, and the items of the sections are those of the runs
module _ (book table : List ℕ) (contents : Contents) (t : Opened book table contents) where
  checked : checking (take (contents.rows * 4) table) ≡ Ok tt
  checked = rw t.front (judged _ t.parts t.fine).1

  sections : Parted book t.parts
  sections = parted _ t.parts (judged _ t.parts t.fine).0

  streams : items_at Section.Streams contents.streams.count contents.streams.begin book ≡ Ok t.parts.streams.items
  streams = run_items _ _ _ _ sections.streams _ (ap (λ (x : Contents). x.streams) t.is)

  invoices : items_at Section.Invoices contents.invoices.count contents.invoices.begin book ≡ Ok t.parts.invoices.items
  invoices = run_items _ _ _ _ sections.invoices _ (ap (λ (x : Contents). x.invoices) t.is)

pub returns-in-Err : goal.returns-in-Err
returns-in-Err c =
    let a = c.args in
    let book = a.book.now in
    let e = mapped_refused contents_of (judging book) _ (sym c.in-Err.ensures.value) in
    record {
      answers = sym (ap (mapped (λ _. tt)) e);
      enters = rw (records_none book _ e) (nothing_entered a.rows.now a.count c.requires.1);
      pays = sym (rw (amounts_none book _ e) (pays_none a.earlier));
    }

pub overflow_mul-table : goal.overflow_mul-table
overflow_mul-table c = omega (arith, (opened _ _ _ _ (sym c.in-Ok.ensures.value) c.in-Ok.ensures.table_after).small)

pub slice_bounds-table-end : goal.slice_bounds-table-end
slice_bounds-table-end c = (opened _ _ _ _ (sym c.in-Ok.ensures.value) c.in-Ok.ensures.table_after).inside

pub slice_bounds-table-end-in-Ok : goal.slice_bounds-table-end-in-Ok
slice_bounds-table-end-in-Ok c = sym (length-take-le _ _ (opened _ _ _ _ (sym c.in-Ok.ensures.value) c.in-Ok.ensures.table_after).inside)

pub add-requires : goal.add-requires
add-requires c =
    let t = opened _ _ _ _ (sym c.in-Ok.ensures.value) c.in-Ok.ensures.table_after in
    record {
      table_value = (checked _ _ _ t, c.requires.0, c.requires.1, c.requires.2);
      book_value = (t.parts.streams.items, streams _ _ _ t);
    }

pub add-requires-in-Ok : goal.add-requires-in-Ok
add-requires-in-Ok c =
    let t = opened _ _ _ _ (sym c.in-Ok.ensures.value) c.in-Ok.ensures.table_after in
    (t.parts.invoices.items, invoices _ _ _ t)

pub returns-in-Ok : goal.returns-in-Ok
returns-in-Ok c =
    let book = c.args.book.now in
    let t = opened _ _ _ _ (sym c.in-Ok.ensures.value) c.in-Ok.ensures.table_after in
    record {
      answers = sym (ap (mapped (λ _. tt)) t.fine);
      enters = c.add.ensures _ (streams _ _ _ t) ∙ rw (records_are book t.parts t.fine, t.front);
      pays = c.add-in-Ok.ensures _ (invoices _ _ _ t) ∙ rw (amounts_are book t.parts t.fine);
    }
