-- The lines of an accepted book, put one behind the other. Assumes nothing.
use Rattle.std.specs.Prelude.{Ok}
use mathlib.Core.List.{List}
use mathlib.Core.Path.{◌≡◌, ap}
use Prim.Native.Nat.{ℕ, ◌+◌, ◌*◌, ◌≤◌}
use native.Mathlib.Omega.{arith}
use lib.ListN.{length}
use Rattle.book.specs.Book.{Listed, Parts, end_of, run_of, items_at, judging, contents_of}
use Rattle.book.specs.declared.Contents.{Contents}
use Rattle.book.specs.declared.Item.{Item}
use Rattle.book.specs.declared.Run.{Run}
use Rattle.book.specs.declared.Section.{Section}
use Rattle.book.proofs.PartLaws.{Parted, parted, judged}
use Rattle.book.proofs.SectionLaws.{Read, items_few, run_items, run_inside}
use Rattle.table.specs.Table.{checking}
use Rattle.report_lines.specs.Private.{Puts}
use Rattle.report_lines.specs.Lines.{end_line}
use Rattle.report_text.specs.Report.{lines, refusals, parts_text}
use Rattle.report_lines.specs.Text.{ending}
use Rattle.report_lines.proofs.Putting.{puts_then}
use Rattle.report_lines.proofs.Sizes.{ending_small}
use Rattle.report_text.proofs.Sizes.{lines_small, refusals_few}

-- What is asked for to put a section, what is said of one that was put, and what that means of one that was read: where its lines end, and how many of its
-- items are refused.
module _ (section : Section) (table book : List ℕ) where
  abbrev pub Ready : Run → (at : ℕ) → Type 0
  Ready run at = (checking table ≡ Ok tt) × (length book ≤ 65535) × (run.begin ≤ length book) × (at ≤ 26 + 30 * run.begin)

  abbrev pub There : Run → Type 0
  There run = (es : List Item) × (items_at section run.count run.begin book ≡ Ok es)

  abbrev pub Told : Run → (out : List ℕ) (at : ℕ) (after : List ℕ) (end refused : ℕ) → Type 0
  Told run out at after end refused =
      (es : List Item) → items_at section run.count run.begin book ≡ Ok es →
      Puts (lines section table book 0 es) out at after end × (refused ≡ refusals section table book es)

  pub record Put (l : Listed) (out : List ℕ) (at : ℕ) (after : List ℕ) (end refused : ℕ) : Type 0 where
    pub puts : Puts (lines section table book 0 l.items) out at after end
    pub counts : refused ≡ refusals section table book l.items
    pub ends : end ≤ 26 + 30 * end_of l
    pub few : 2 * refused ≤ length book

  section_put : (from : ℕ) (l : Listed) → Read section from book l → (run : Run) → run_of l ≡ run → {out : List ℕ} {at : ℕ} {after : List ℕ} {end refused : ℕ} →
      Ready run at → Told run out at after end refused → Put l out at after end refused
  section_put from l r run is ready told =
      let t = told l.items (run_items section from book l r run is) in
      let begins : l.begin ≡ run.begin = ap (λ (x : Run). x.begin) is in
      record {
        puts = t.0;
        counts = t.1;
        ends = omega (arith, t.0.ends, lines_small table book ready.0 section (length l.items) l.begin 0 l.items r.items, ready.3, begins);
        few =
            omega (
              arith,
              t.1,
              refusals_few section table book l.items,
              items_few section book (length l.items) l.begin l.items r.items,
              r.ends,
            );
      }

-- An accepted book, by its parts, its contents and its table.
pub record Accepted (book : List ℕ) (p : Parts) (contents : Contents) (table : List ℕ) : Type 0 where
  pub fine : judging book ≡ Ok p
  pub is : contents_of p ≡ contents
  pub same : table ≡ p.table

pub accepted : {book : List ℕ} {p : Parts} {contents : Contents} {table : List ℕ} → judging book ≡ Ok p → contents_of p ≡ contents → table ≡ p.table →
    Accepted book p contents table
accepted fine is same = record { fine = fine; is = is; same = same }

-- All its lines.
module _ {book : List ℕ} {p : Parts} {contents : Contents} {table : List ℕ} (o : Accepted book p contents table) where
  sections : Parted book p
  sections = parted book p (judged book p o.fine).0

  fine : checking table ≡ Ok tt
  fine = rw o.same (judged book p o.fine).1

  streams_run : run_of p.streams ≡ contents.streams
  streams_run = ap (λ (x : Contents). x.streams) o.is

  messages_run : run_of p.messages ≡ contents.messages
  messages_run = ap (λ (x : Contents). x.messages) o.is

  invoices_run : run_of p.invoices ≡ contents.invoices
  invoices_run = ap (λ (x : Contents). x.invoices) o.is

  pub streams_there : There Section.Streams table book contents.streams
  streams_there = (p.streams.items, run_items _ _ _ _ sections.streams _ streams_run)

  pub messages_there : There Section.Messages table book contents.messages
  messages_there = (p.messages.items, run_items _ _ _ _ sections.messages _ messages_run)

  pub invoices_there : There Section.Invoices table book contents.invoices
  invoices_there = (p.invoices.items, run_items _ _ _ _ sections.invoices _ invoices_run)

  module _ {l₀ l₁ : List ℕ} {a₁ : ℕ} (rows : Puts (ending "rows " contents.rows) l₀ 0 l₁ a₁) where
    pub streams_ready : Ready Section.Streams table book contents.streams a₁
    streams_ready = (fine, sections.short, run_inside _ _ _ _ sections.streams _ streams_run, omega (arith, rows.ends, ending_small "rows " contents.rows))

    module _ {l₂ : List ℕ} {a₂ s : ℕ} (streams : Told Section.Streams table book contents.streams l₁ a₁ l₂ a₂ s) where
      pub streams_put : Put Section.Streams table book p.streams l₁ a₁ l₂ a₂ s
      streams_put = section_put _ _ _ _ _ sections.streams _ streams_run streams_ready streams

      pub messages_ready : Ready Section.Messages table book contents.messages a₂
      messages_ready =
          (fine, sections.short, run_inside _ _ _ _ sections.messages _ messages_run, omega (arith, streams_put.ends, sections.messages.begins, ap (λ (r : Run). r.begin) messages_run))

      module _ {l₃ : List ℕ} {a₃ m : ℕ} (messages : Told Section.Messages table book contents.messages l₂ a₂ l₃ a₃ m) where
        pub messages_put : Put Section.Messages table book p.messages l₂ a₂ l₃ a₃ m
        messages_put = section_put _ _ _ _ _ sections.messages _ messages_run messages_ready messages

        pub invoices_ready : Ready Section.Invoices table book contents.invoices a₃
        invoices_ready =
            (fine, sections.short, run_inside _ _ _ _ sections.invoices _ invoices_run, omega (arith, messages_put.ends, sections.invoices.begins, ap (λ (r : Run). r.begin) invoices_run))

        module _ {l₄ : List ℕ} {a₄ i : ℕ} (invoices : Told Section.Invoices table book contents.invoices l₃ a₃ l₄ a₄ i) where
          invoices_put : Put Section.Invoices table book p.invoices l₃ a₃ l₄ a₄ i
          invoices_put = section_put _ _ _ _ _ sections.invoices _ invoices_run invoices_ready invoices

          -- the refusals fit, and so does the end
          pub refused_few : s + (m + i) ≤ 98303
          refused_few = omega (arith, streams_put.few, messages_put.few, invoices_put.few, sections.short)

          pub end_ready : a₄ ≤ 1000000000
          end_ready = omega (arith, invoices_put.ends, sections.short, sections.whole)

          pub parts_put : {l₅ : List ℕ} {a₅ : ℕ} →
              Puts (end_line contents.streams.count contents.messages.count contents.invoices.count (s + (m + i))) l₄ a₄ l₅ a₅ → Puts (parts_text book p) l₀ 0 l₅ a₅
          parts_put end =
              let rows' = rw (← o.is) at rows in
              let end' = rw (← o.is, streams_put.counts, messages_put.counts, invoices_put.counts, o.same) at end in
              puts_then rows'
              (puts_then (rw o.same at streams_put.puts) (puts_then (rw o.same at messages_put.puts) (puts_then (rw o.same at invoices_put.puts) end')))
