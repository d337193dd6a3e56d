-- A mended book is a book. Assumes nothing.
use Rattle.std.specs.Prelude.{Ok}
use mathlib.Core.List.{List, [], ◌∷◌, ◌++◌, map, append_assoc}
use mathlib.Core.Path.{◌≡◌, refl, sym, ap, ◌∙◌}
use Prim.Native.Nat.{ℕ, zero, suc, ◌+◌, ◌*◌, ◌/◌, ◌%◌, ◌≤◌}
use native.Mathlib.Omega.{arith}
use lib.ListN.{length, take, drop, length-append, length-drop, take-append-drop}
use lib.Seq.{drop-drop, drop-length, take-append_seam, drop-append_seam, take-append-le, drop-append-le, drop_at, length-take-le}
use borrow.Author.Tests.{leb-true, eqb-true}
use Rattle.laws.specs.Digits.{AreBytes, from_bytes}
use Rattle.laws.proofs.Digits.{from_to_whole, from_one, part_digits}
use Rattle.laws.proofs.Lists.{length_part}
use Rattle.answer.proofs.Answer.{both, ensured}
use Rattle.book.specs.Book.{Parts, number_at, numbers, table_in, item, end, part_of, item_at, items_at, end_from, Listed, end_of, section_at, behind_table, parting, judging}
use Rattle.book.specs.declared.Item.{Item}
use Rattle.book.specs.declared.Section.{Section}
use Rattle.book.proofs.PartLaws.{behind_all, parting_behind, judging_fine, judged}
use Rattle.book.proofs.SectionLaws.{number_there, item_there, item_inside, items_first, items_none, section_read}
use Rattle.book.proofs.TableLaws.{length_numbers, table_there}
use Rattle.book_mender.specs.BookMender.{becoming, stream_of, new_streams, new_book, Heard, heard, become, Becomes}
use Rattle.book_mender.proofs.Becoming.{becoming_shorter}
use Rattle.book_mender.proofs.Going.{none_left, one_left}
use Rattle.book_mender.proofs.Moved.{number_is, items_more, section_is, MovedSection, section_moved}
use Rattle.book_mender.proofs.Putting.{two_bytes, length_stream}

-- the length that two bytes spell
length_back : (n : ℕ) → n ≤ 65535 → n ≡ from_bytes (n / 256 ∷ n % 256 ∷ [])
length_back n h = sym (ap from_bytes (sym (two_bytes n h)) ∙ from_to_whole 8 2 n (omega arith))

-- A stream at a place of the new book.
module _ (new : List ℕ) (at namespace : ℕ) (s rest : List ℕ) (small : length s ≤ 65535) (is : drop at new ≡ stream_of namespace s ++ rest) where
  spread : drop at new ≡ namespace ∷ (length s / 256 ∷ (length s % 256 ∷ (s ++ rest)))
  spread = is ∙ rw (two_bytes (length s) small) refl

  long : at + 1 + 2 + length s ≤ length new
  long = omega (arith, ap length spread, length-drop at new, length-append s rest)

  sized : drop (at + 1) new ≡ length s / 256 ∷ (length s % 256 ∷ (s ++ rest))
  sized = sym (drop-drop 1 at new) ∙ ap (drop 1) spread

  part : drop (at + 1 + 2) new ≡ s ++ rest
  part = sym (drop-drop 2 (at + 1) new) ∙ ap (drop 2) sized

  stream_found : item_at Section.Streams at new ≡ Ok (item namespace (at + 1 + 2) (length s))
  stream_found =
      item_there Section.Streams at new (length s) (omega (arith, long)) (length_back (length s) small ∙ ap (λ (x : List ℕ). from_bytes (take 2 x)) (sym sized)) long
      ∙ ap (λ (n : ℕ). Ok (item n (at + 1 + 2) (length s))) (ap (λ (x : List ℕ). from_bytes (take 1 x)) spread ∙ from_one 8 namespace)

  stream_part : take (length s) (drop (at + 1 + 2) new) ≡ s
  stream_part = ap (take (length s)) part ∙ take-append_seam s rest

  stream_behind : drop (at + 1 + 2 + length s) new ≡ rest
  stream_behind = sym (drop-drop (length s) (at + 1 + 2) new) ∙ ap (drop (length s)) part ∙ drop-append_seam s rest

-- The streams of a book.
module _ (book : List ℕ) (bytes : AreBytes book) (short : length book ≤ 65535) where
  one_shorter : (at : ℕ) (e : Item) → item_at Section.Streams at book ≡ Ok e → length (becoming (part_of e book)) ≤ e.size
  one_shorter at e h =
      let i = item_inside Section.Streams at book e h in
      omega (arith, becoming_shorter (part_of e book) (part_digits 8 book e.start e.size bytes), length_part book e.start e.size i.ends)

  one_small : (at : ℕ) (e : Item) → item_at Section.Streams at book ≡ Ok e → length (becoming (part_of e book)) ≤ 65535
  one_small at e h = omega (arith, one_shorter at e h, (item_inside Section.Streams at book e h).ends)

  streams_shorter : (n at : ℕ) (es : List Item) → items_at Section.Streams n at book ≡ Ok es → at + length (new_streams book es) ≤ end_from at es
  streams_shorter zero at es h =
      let none : [] ≡ es = cc (items_none Section.Streams book at) in
      rw (← none, none_left book) (omega arith)
  streams_shorter (suc n) at es h =
      let f = items_first Section.Streams book n at es h in
      let e = f.is in
      let this = stream_of e.namespace (becoming (part_of e book)) in
      let i = item_inside Section.Streams at book e f.found in
      rw (f.all, one_left book e f.rest, length-append this (new_streams book f.rest))
      (omega (arith, length_stream e.namespace (becoming (part_of e book)) (one_small at e f.found), one_shorter at e f.found, i.starts, streams_shorter n (end e) f.rest f.follow))

  record There (new : List ℕ) (n at' : ℕ) (es : List Item) (rest : List ℕ) : Type 0 where
    are : List Item
    found : items_at Section.Streams n at' new ≡ Ok are
    same : heard new are ≡ map become (heard book es)
    behind : drop (end_from at' are) new ≡ rest

  streams_there : (new rest : List ℕ) (n at at' : ℕ) (es : List Item) → items_at Section.Streams n at book ≡ Ok es →
      drop at' new ≡ new_streams book es ++ rest → There new n at' es rest
  streams_there new rest zero at at' es h is =
      let none : [] ≡ es = cc (items_none Section.Streams book at) in
      let behind : drop at' new ≡ rest = rw (← none, none_left book) at is in
      rw (← none) (record { are = []; found = items_none Section.Streams new at'; same = refl; behind = behind })
  streams_there new rest (suc n) at at' es h is =
      let f = items_first Section.Streams book n at es h in
      let e = f.is in
      let s = becoming (part_of e book) in
      let this : drop at' new ≡ stream_of e.namespace s ++ (new_streams book f.rest ++ rest) =
      is ∙ ap (λ (x : List Item). new_streams book x ++ rest) f.all ∙ ap (λ (x : List ℕ). x ++ rest) (one_left book e f.rest) ∙ append_assoc (stream_of e.namespace s) (new_streams book f.rest) rest in
      let small = one_small at e f.found in
      let later = new_streams book f.rest ++ rest in
      let now = item e.namespace (at' + 1 + 2) (length s) in
      let heard-now : ◌≡◌ {A = Heard} (record { namespace = e.namespace; bytes = part_of now new }) (record { namespace = e.namespace; bytes = s }) =
      ap (λ (x : List ℕ). record { namespace = e.namespace; bytes = x }) (stream_part new at' e.namespace s later small this) in
      let more = streams_there new rest n (end e) (at' + 1 + 2 + length s) f.rest f.follow (stream_behind new at' e.namespace s later small this) in
      rw f.all (record {
        are = now ∷ more.are;
        found = items_more Section.Streams new n at' now more.are (stream_found new at' e.namespace s later small this) more.found;
        same = ap (λ (x : Heard). x ∷ heard new more.are) heard-now ∙ ap (λ (x : List Heard). record { namespace = e.namespace; bytes = s } ∷ x) more.same;
        behind = more.behind;
      })

-- The front of a book, which the new one shares.
numbers_front : (n : ℕ) (s rest : List ℕ) → 8 * n ≤ length s → numbers n (s ++ rest) ≡ numbers n s
unfolding numbers
numbers_front zero s rest h = refl
numbers_front (suc n) s rest h =
    rw (take-append-le 8 s rest (omega arith), drop-append-le 8 s rest (omega arith), numbers_front n (drop 8 s) rest (omega (arith, length-drop 8 s))) refl

part_front : (a x : List ℕ) (k n : ℕ) → k + n ≤ length a → take n (drop k (a ++ x)) ≡ take n (drop k a)
part_front a x k n h = rw (drop-append-le k a x (omega arith)) (take-append-le n (drop k a) x (omega (arith, length-drop k a)))

module _ (a x y : List ℕ) where
  number_same : (k n : ℕ) → k + 2 ≤ length a → number_at k (a ++ x) ≡ Ok n → number_at k (a ++ y) ≡ Ok n
  number_same k n h is =
      number_there k (a ++ y) (omega (arith, length-append a y))
      ∙ ap Ok (ap from_bytes (part_front a y k 2 h ∙ sym (part_front a x k 2 h)) ∙ sym (number_is k (a ++ x) n is))

  table_same : (table : List ℕ) → 2 + 8 * length table ≤ length a → table_in (a ++ x) ≡ Ok table → table_in (a ++ y) ≡ Ok table
  unfolding table_in
  table_same table h is =
      let b = both _ _ table is in
      let t = ensured _ _ _ table b.second in
      let rows : numbers (4 * b.is) (drop 2 (a ++ x)) ≡ table = cc t.rest in
      let long : length table ≡ 4 * b.is = ap length (sym rows) ∙ length_numbers (4 * b.is) (drop 2 (a ++ x)) in
      let front : (z : List ℕ) → numbers (4 * b.is) (drop 2 (a ++ z)) ≡ numbers (4 * b.is) (drop 2 a) =
      λ z. rw (drop-append-le 2 a z (omega arith)) (numbers_front (4 * b.is) (drop 2 a) z (omega (arith, long, length-drop 2 a))) in
      table_there (a ++ y) b.is (omega (arith, length-append a y))
      (number_is 0 (a ++ x) b.is b.first ∙ ap from_bytes (part_front a x 0 2 (omega arith) ∙ sym (part_front a y 0 2 (omega arith))))
      (omega (arith, long, length-append a y))
      ∙ ap Ok (front y ∙ sym (front x) ∙ rows)

-- What an accepted book is made of, section by section.
record Found (book : List ℕ) (p : Parts) : Type 0 where
  short : length book ≤ 65535
  table : table_in book ≡ Ok p.table
  streams : section_at Section.Streams (2 + 8 * length p.table) book ≡ Ok p.streams
  messages : section_at Section.Messages (end_of p.streams) book ≡ Ok p.messages
  invoices : section_at Section.Invoices (end_of p.messages) book ≡ Ok p.invoices
  whole : end_of p.invoices ≡ length book

found_in : (book : List ℕ) (p : Parts) → parting book ≡ Ok p → Found book p
unfolding parting behind_table
found_in book p h =
    let a = ensured _ _ _ p h in
    let b = both _ _ p a.rest in
    let c = both _ _ p b.second in
    let d = both _ _ p c.second in
    let e = both _ _ p d.second in
    let f = ensured _ _ _ p e.second in
    let is : ◌≡◌ {A = Parts} (record { table = b.is; streams = c.is; messages = d.is; invoices = e.is }) p = cc f.rest in
    rw (← is)
    (record { short = leb-true _ _ a.holds; table = b.first; streams = c.first; messages = d.first; invoices = e.first; whole = eqb-true _ _ f.holds })

-- the count of a section and its items
record Counted (section : Section) (at : ℕ) (book : List ℕ) (l : Listed) : Type 0 where
  count : ℕ
  first : number_at at book ≡ Ok count
  begins : l.begin ≡ at + 2
  items : items_at section count (at + 2) book ≡ Ok l.items

counted : (section : Section) (at : ℕ) (book : List ℕ) (l : Listed) → section_at section at book ≡ Ok l → Counted section at book l
unfolding section_at
counted section at book l h =
    let a = both _ _ l h in
    let b = both _ _ l a.second in
    let is : ◌≡◌ {A = Listed} (record { begin = at + 2; items = b.is }) l = cc b.second in
    rw (← is) (record { count = a.is; first = a.first; begins = refl; items = b.first })

module _ (book : List ℕ) (p : Parts) (bytes : AreBytes book) (fine : judging book ≡ Ok p) where
  old_parts : Found book p
  old_parts = found_in book p (judged book p fine).0

  abbrev at : ℕ
  at = 2 + 8 * length p.table

  old_streams : Counted Section.Streams at book p.streams
  old_streams = counted Section.Streams at book p.streams old_parts.streams

  abbrev before : List ℕ
  before = take p.streams.begin book

  abbrev behind : List ℕ
  behind = new_streams book p.streams.items ++ drop (end_of p.streams) book

  inside : p.streams.begin ≤ length book
  inside = (section_read Section.Streams at book p.streams old_parts.streams).inside

  front_long : length before ≡ at + 2
  front_long = length-take-le p.streams.begin book inside ∙ old_streams.begins

  old : before ++ drop p.streams.begin book ≡ book
  old = take-append-drop p.streams.begin book

  ends : end_of p.streams ≤ length book
  ends = (section_read Section.Streams at book p.streams old_parts.streams).ends

  new_short : length (new_book book p) ≤ 65535
  new_short =
      let b = new_streams book p.streams.items in
      let begin : end_from (at + 2) p.streams.items ≡ end_of p.streams = ap (λ (k : ℕ). end_from k p.streams.items) (sym old_streams.begins) in
      omega (
        arith,
        length-append before behind,
        length-append b (drop (end_of p.streams) book),
        front_long,
        length-drop (end_of p.streams) book,
        begin,
        ends,
        old_parts.short,
        streams_shorter book bytes old_parts.short old_streams.count (at + 2) p.streams.items old_streams.items,
      )

  -- its table and its streams
  new_table : table_in (new_book book p) ≡ Ok p.table
  new_table = table_same before (drop p.streams.begin book) behind p.table (omega (arith, front_long)) (rw old old_parts.table)

  streams_put : There book bytes old_parts.short (new_book book p) old_streams.count (at + 2) p.streams.items (drop (end_of p.streams) book)
  streams_put =
      streams_there book bytes old_parts.short (new_book book p) (drop (end_of p.streams) book) old_streams.count (at + 2) (at + 2) p.streams.items old_streams.items
      (drop_at before behind (at + 2) front_long)

  abbrev new_streams_listed : Listed
  new_streams_listed = record { begin = at + 2; items = streams_put.are }

  streams_found : section_at Section.Streams at (new_book book p) ≡ Ok new_streams_listed
  streams_found =
      section_is Section.Streams (new_book book p) at old_streams.count streams_put.are
      (number_same before (drop p.streams.begin book) behind at old_streams.count (omega (arith, front_long)) (rw old old_streams.first)) streams_put.found

  messages_moved : MovedSection Section.Messages book (new_book book p) (end_of new_streams_listed) p.messages
  messages_moved = section_moved Section.Messages book (new_book book p) (end_of p.streams) (end_of new_streams_listed) p.messages streams_put.behind old_parts.messages

  invoices_moved : MovedSection Section.Invoices book (new_book book p) (end_of messages_moved.is) p.invoices
  invoices_moved = section_moved Section.Invoices book (new_book book p) (end_of p.messages) (end_of messages_moved.is) p.invoices messages_moved.behind old_parts.invoices

  new_whole : end_of invoices_moved.is ≡ length (new_book book p)
  new_whole =
      let last : drop (end_of invoices_moved.is) (new_book book p) ≡ [] = invoices_moved.behind ∙ ap (λ (k : ℕ). drop k book) old_parts.whole ∙ drop-length book in
      omega (arith, ap length last, length-drop (end_of invoices_moved.is) (new_book book p), (section_read Section.Invoices (end_of messages_moved.is) (new_book book p) invoices_moved.is invoices_moved.found).ends)

  abbrev parts : Parts
  parts = record { table = p.table; streams = new_streams_listed; messages = messages_moved.is; invoices = invoices_moved.is }

  new_parting : parting (new_book book p) ≡ Ok parts
  new_parting =
      parting_behind (new_book book p) new_short p.table new_table
      ∙ behind_all p.table (new_book book p) new_streams_listed streams_found messages_moved.is messages_moved.found invoices_moved.is invoices_moved.found new_whole

-- A mended book is accepted: it has the old table, each stream as it becomes, in its namespace, and the messages and the invoices as they were.
pub new_book_accepted : (book : List ℕ) (p : Parts) → AreBytes book → judging book ≡ Ok p →
    (q : Parts) × (judging (new_book book p) ≡ Ok q) × Becomes book p q
new_book_accepted book p bytes fine =
    let q = parts book p bytes fine in (
      q,
      judging_fine (new_book book p) q (new_parting book p bytes fine) (judged book p fine).1,
      record { table = refl; streams = (streams_put book p bytes fine).same; messages = (messages_moved book p bytes fine).same; invoices = (invoices_moved book p bytes fine).same },
    )
