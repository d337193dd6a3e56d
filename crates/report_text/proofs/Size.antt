-- How long a report is: for any bytes at most 1,966,198. Assumes nothing.
use Rattle.std.specs.Prelude.{Ok, Err}
use mathlib.Core.List.{List, ◌++◌}
use mathlib.Core.Path.{◌≡◌, refl, sym, ap, ◌∙◌}
use Prim.Native.Nat.{ℕ, ◌+◌, ◌*◌, ◌/◌, ◌≤◌}
use native.Mathlib.Omega.{arith}
use lib.ListN.{length, length-append}
use Rattle.book.specs.Book.{Parts, judging}
use Rattle.book.specs.declared.Section.TheVariants as Section
use Rattle.book.proofs.PartLaws.{parted, judged}
use Rattle.answer.specs.Answer.{Answer, mapped}
use Rattle.answer.specs.declared.Refusal.{Refusal}
use Rattle.report_lines.specs.Lines.{end_line}
use Rattle.report_text.specs.Report.{lines_in, refusals_in, parts_text, text_of, reporting, writing}
use Rattle.report_lines.specs.Text.{ending}
use Rattle.report_lines.proofs.Sizes.{ending_small, end_small}
use Rattle.report_text.proofs.Sizes.{lines_small}
use Rattle.report_text.proofs.WritingLaws.{writing_fits}

-- the lines of an accepted book: 30 bytes for each of its bytes, and the first and the last line
parts_small : (book : List ℕ) (p : Parts) → judging book ≡ Ok p → length (parts_text book p) ≤ 148 + 30 * length book
parts_small book p h =
    let j = judged book p h in
    let q = parted book p j.0 in
    let s = lines_in Section.Streams p.table book p.streams in
    let m = lines_in Section.Messages p.table book p.messages in
    let i = lines_in Section.Invoices p.table book p.invoices in
    let e =
    end_line
    (length p.streams.items)
    (length p.messages.items)
    (length p.invoices.items)
    (refusals_in Section.Streams p.table book p.streams
    + (refusals_in Section.Messages p.table book p.messages
    + refusals_in Section.Invoices p.table book p.invoices)) in
    omega (
      arith,
      length-append (ending "rows " (length p.table / 4)) (s ++ (m ++ (i ++ e))),
      length-append s (m ++ (i ++ e)),
      length-append m (i ++ e),
      length-append i e,
      ending_small "rows " (length p.table / 4),
      lines_small p.table book j.1 Section.Streams (length p.streams.items) p.streams.begin 0 p.streams.items q.streams.items,
      lines_small p.table book j.1 Section.Messages (length p.messages.items) p.messages.begin 0 p.messages.items q.messages.items,
      lines_small p.table book j.1 Section.Invoices (length p.invoices.items) p.invoices.begin 0 p.invoices.items q.invoices.items,
      end_small
          (length p.streams.items)
          (length p.messages.items)
          (length p.invoices.items)
          (refusals_in Section.Streams p.table book p.streams
          + (refusals_in Section.Messages p.table book p.messages
          + refusals_in Section.Invoices p.table book p.invoices)),
      q.messages.begins,
      q.invoices.begins,
      q.whole,
    )

text_small : (book : List ℕ) (x : Answer Parts) → judging book ≡ x → length (text_of book x) ≤ 1966198
text_small book (Ok p) h =
    let q = parted book p (judged book p h).0 in
    omega (arith, parts_small book p h, q.short)
text_small book (Err r) h = omega (arith, ending_small "book refused " r.number)

pub report_small : (book : List ℕ) → length (reporting book) ≤ 1966198
unfolding reporting
report_small book = text_small book (judging book) refl

-- So an output of that length holds every report: `report` never answers 12.
module _ (book : List ℕ) (room : ℕ) (long : 1966198 ≤ room) (w : Answer ℕ) (answer : w ≡ mapped length (writing book room)) where
  all_written : w ≡ Ok (length (reporting book))
  all_written = answer ∙ ap (mapped length) (writing_fits book room (omega (arith, report_small book)))

  pub never_12 : (r : Refusal) → w ≡ Err r → ⊥
  never_12 r told =
      let e : Err r ≡ Ok (length (reporting book)) = sym told ∙ all_written in
      let z : ◌≡◌ {A = ℕ} 0 1 = cc in
      omega arith
