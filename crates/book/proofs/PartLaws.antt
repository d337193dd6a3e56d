-- The answers about a whole book, one law each. Assumes nothing.
use Rattle.std.specs.Prelude.{Ok, Err}
use mathlib.Core.List.{List, ◌++◌}
use mathlib.Core.Path.{◌≡◌, sym, ap, ◌∙◌}
use Prim.Native.Nat.{ℕ, ◌+◌, ◌*◌, ◌/◌, ◌≤◌, ◌<◌}
use native.Mathlib.Omega.{arith}
use lib.ListN.{length, take, drop, length-append}
use lib.Seq.{sets, take-append_seam}
use borrow.Author.Tests.{leb-true, eqb-true, le-leb, lt-leb, eq-eqb, ne_eqb}
use Rattle.laws.proofs.Lists.{sets_front}
use Rattle.answer.specs.Answer.{bare, mapped, filled}
use Rattle.answer.specs.declared.Refusal.{Refusal}
use Rattle.answer.proofs.Answer.{then_accepted, then_refused, both, ensure_yes, ensure_no, ensured, mapped_accepted}
use Rattle.table.specs.Table.{checking}
use Rattle.book.specs.Book.{numbers, table_in, Listed, end_of, Parts, section_at, behind_table, parting, judging, run_of, contents_of}
use Rattle.book.specs.declared.Contents.{Contents}
use Rattle.book.specs.declared.Run.{Run}
use Rattle.book.specs.declared.Section.TheVariants as Section
use Rattle.book.proofs.SectionLaws.{Read, section_read}
use Rattle.book.proofs.TableLaws.{Rows, table_rows}

-- The sections behind a table.
module _ (table book : List ℕ) where
  pub behind_streams : (r : Refusal) → section_at Section.Streams (2 + 8 * length table) book ≡ Err r → behind_table table book ≡ Err r
  unfolding behind_table
  behind_streams r e = then_refused r _ _ e

  module _ (streams : Listed) (first : section_at Section.Streams (2 + 8 * length table) book ≡ Ok streams) where
    pub behind_messages : (r : Refusal) → section_at Section.Messages (end_of streams) book ≡ Err r → behind_table table book ≡ Err r
    unfolding behind_table
    behind_messages r e = then_accepted streams _ _ first ∙ then_refused r _ _ e

    module _ (messages : Listed) (second : section_at Section.Messages (end_of streams) book ≡ Ok messages) where
      pub behind_invoices : (r : Refusal) → section_at Section.Invoices (end_of messages) book ≡ Err r → behind_table table book ≡ Err r
      unfolding behind_table
      behind_invoices r e = then_accepted streams _ _ first ∙ then_accepted messages _ _ second ∙ then_refused r _ _ e

      module _ (invoices : Listed) (third : section_at Section.Invoices (end_of messages) book ≡ Ok invoices) where
        pub behind_extra : (end_of invoices ≡ length book → ⊥) → behind_table table book ≡ Err (bare 71)
        unfolding behind_table
        behind_extra h =
            then_accepted streams _ _ first
            ∙ then_accepted messages _ _ second
            ∙ then_accepted invoices _ _ third
            ∙ ensure_no _ _ _ (ne_eqb (end_of invoices) (length book) h)

        pub behind_all : end_of invoices ≡ length book →
            behind_table table book ≡ Ok (record { table = table; streams = streams; messages = messages; invoices = invoices })
        unfolding behind_table
        behind_all h =
            then_accepted streams _ _ first
            ∙ then_accepted messages _ _ second
            ∙ then_accepted invoices _ _ third
            ∙ ensure_yes _ _ _ (eq-eqb (end_of invoices) (length book) h)

-- The parts of a book.
module _ (book : List ℕ) where
  pub parting_long : 65535 < length book → parting book ≡ Err (bare 72)
  unfolding parting
  parting_long h = ensure_no _ _ _ (lt-leb (length book) 65535 h)

  module _ (short : length book ≤ 65535) where
    pub parting_cut : table_in book ≡ Err (bare 70) → parting book ≡ Err (bare 70)
    unfolding parting
    parting_cut e = ensure_yes _ _ _ (le-leb (length book) 65535 short) ∙ then_refused _ _ _ e

    pub parting_behind : (table : List ℕ) → table_in book ≡ Ok table → parting book ≡ behind_table table book
    unfolding parting
    parting_behind table e = ensure_yes _ _ _ (le-leb (length book) 65535 short) ∙ then_accepted table _ _ e

  -- What an accepted book is made of.
  pub record Parted (p : Parts) : Type 0 where
    pub short : length book ≤ 65535
    pub table : Rows book p.table
    pub streams : Read Section.Streams (2 + 8 * length p.table) book p.streams
    pub messages : Read Section.Messages (end_of p.streams) book p.messages
    pub invoices : Read Section.Invoices (end_of p.messages) book p.invoices
    pub whole : end_of p.invoices ≡ length book

  pub parted : (p : Parts) → parting book ≡ Ok p → Parted p
  unfolding parting behind_table
  parted p h =
      let a = ensured _ _ _ p h in
      let b = both _ _ p a.rest in
      let c = both _ _ p b.second in
      let d = both _ _ p c.second in
      let e = both _ _ p d.second in
      let f = ensured _ _ _ p e.second in
      let is : ◌≡◌ {A = Parts} (record { table = b.is; streams = c.is; messages = d.is; invoices = e.is }) p = cc f.rest in
      rw (← is) (record {
        short = leb-true _ _ a.holds;
        table = table_rows book b.is b.first;
        streams = section_read _ _ _ c.is c.first;
        messages = section_read _ _ _ d.is d.first;
        invoices = section_read _ _ _ e.is e.first;
        whole = eqb-true _ _ f.holds;
      })

  -- Then the table.
  pub judging_parts_is : (r : Refusal) → parting book ≡ Err r → judging book ≡ Err r
  unfolding judging
  judging_parts_is r e = then_refused r _ _ e

  module _ (p : Parts) (e : parting book ≡ Ok p) where
    pub judging_table : (r : Refusal) → checking p.table ≡ Err r → judging book ≡ Err r
    unfolding judging
    judging_table r h = then_accepted p _ _ e ∙ then_refused r _ _ h

    pub judging_fine : checking p.table ≡ Ok tt → judging book ≡ Ok p
    unfolding judging
    judging_fine h = then_accepted p _ _ e ∙ then_accepted tt _ _ h

  pub judged : (p : Parts) → judging book ≡ Ok p → (parting book ≡ Ok p) × (checking p.table ≡ Ok tt)
  unfolding judging
  judged p h =
      let a = both _ _ p h in
      let b = both _ _ p a.second in
      let is : a.is ≡ p = cc b.second in
      (a.first ∙ ap Ok is, rw (← is) b.first)

-- What the reader answers about its parts.
pub contents_are : (p : Parts) (rows : ℕ) (streams messages invoices : Run) → length p.table ≡ 4 * rows → run_of p.streams ≡ streams → run_of p.messages ≡ messages →
    run_of p.invoices ≡ invoices →
    Ok (record { rows = rows; streams = streams; messages = messages; invoices = invoices }) ≡ mapped contents_of (Ok p)
contents_are p rows streams messages invoices long a b c =
    let e : length p.table / 4 ≡ rows = omega arith in
    rw (← a, ← b, ← c, e)

-- An accepted book's parts by what was answered: as many numbers as its rows have, which lie in the book.
pub record Whole (book : List ℕ) (c : Contents) : Type 0 where
  pub parts : Parts
  pub fine : parting book ≡ Ok parts
  pub is : contents_of parts ≡ c
  pub long : length parts.table ≡ c.rows * 4
  pub inside : 2 + 8 * length parts.table ≤ length book
  pub table : parts.table ≡ numbers (c.rows * 4) (drop 2 book)

pub whole : (book : List ℕ) (c : Contents) → mapped contents_of (parting book) ≡ Ok c → Whole book c
whole book c h =
    let a = mapped_accepted contents_of _ c h in
    let rows = (parted book a.0 a.1).table in
    let count : length a.0.table / 4 ≡ c.rows = ap (λ (x : Contents). x.rows) a.2 in
    let long : length a.0.table ≡ c.rows * 4 = omega (arith, rows.fours) in
    record { parts = a.0; fine = a.1; is = a.2; long = long; inside = rows.inside; table = rows.is ∙ rw long }

-- What was put at the front of a buffer that is long enough stands there.
pub front_taken : (l q a : List ℕ) (n : ℕ) → q ≡ sets l 0 a → n ≡ length a → n ≤ length l → take n q ≡ a
front_taken l q a n put is fits = rw (put, sets_front l a (rw (← is) fits), is) (take-append_seam a (drop (length a) l))

-- A book that was read: its parts, and its table at the front of the lent buffer.
pub record Opened (book table : List ℕ) (contents : Contents) : Type 0 where
  pub parts : Parts
  pub fine : judging book ≡ Ok parts
  pub is : contents_of parts ≡ contents
  pub small : contents.rows * 4 ≤ 65535
  pub inside : contents.rows * 4 ≤ length table
  pub front : take (contents.rows * 4) table ≡ parts.table

pub opened : (book before table : List ℕ) (contents : Contents) → mapped contents_of (judging book) ≡ Ok contents →
    table ≡ filled (mapped (λ (p : Parts). p.table) (judging book)) before → Opened book table contents
opened book before table contents h put =
    let a = mapped_accepted contents_of _ contents h in
    let p = a.0 in
    let j = judged book p a.1 in
    let q = parted book p j.0 in
    let w = whole book contents (ap (mapped contents_of) j.0 ∙ ap Ok a.2) in
    let same : w.parts ≡ p = cc (w.fine, j.0) in
    let long : length p.table ≡ contents.rows * 4 = ap (λ (x : Parts). length x.table) (sym same) ∙ w.long in
    let is : table ≡ p.table ++ drop (length p.table) before = put ∙ ap (λ x. filled (mapped (λ (y : Parts). y.table) x) before) a.1 in
    record {
      parts = p;
      fine = a.1;
      is = a.2;
      small = omega (arith, q.table.inside, q.short);
      inside = rw is (omega (arith, length-append p.table (drop (length p.table) before)));
      front = rw (is, ← long) (take-append_seam p.table (drop (length p.table) before));
    }
