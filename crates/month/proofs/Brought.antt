-- What books bring, in bytes: records as many as the accepted streams have, and no more than the books have. Assumes nothing.
use Rattle.std.specs.Prelude.{Ok, Err}
use Rattle.std.proofs.Common.{◌≡◌, ℕ, zero, suc, ◌+◌, ◌-◌, ◌^◌, ◌<◌, ◌≤◌, List, [], ◌∷◌, ◌++◌, length, take, drop, sym, refl, ap, ◌∙◌, subst, ap₂, add-zero, zero-add, arith}
use Rattle.laws.proofs.Lists.{length_part}
use Rattle.laws.proofs.Test.{pick_all, by_order}
use Rattle.answer.specs.Answer.{Answer}
use Rattle.book.specs.Book.{Parts, end, end_from, part_of, items_at, judging}
use Rattle.book.specs.declared.Item.{Item}
use Rattle.book.specs.declared.Section.TheVariants as Section
use Rattle.book.proofs.PartLaws.{parted, judged}
use Rattle.book.proofs.SectionLaws.{item_inside, items_first, items_none}
use Rattle.stream.specs.Stream as Stream
use Rattle.stream.proofs.Judging.{judging_fine}
use Rattle.table.specs.Table.{lookup}
use Rattle.stream_index.proofs.Accepted.{from, none_left, here, passed_here}
use Rattle.pairs.specs.declared.Row.{Row}
use Rattle.month.specs.Month.{records_from, records_of, stream_records, records_in}
use Rattle.month.specs.Month.{outer}
use Rattle.month.specs.Run.{throughout, stream_of, accepted_streams, streams_in, records, streams, sum_of, bytes_of}
use Rattle.month.proofs.Records.{none_brought, one_brought}
use Rattle.month.proofs.Sums.{sum_append, throughout_most}
use Rattle.month.proofs.Totals.{AreFramed}

-- What one record brings.
module _ (ns kind mark size frame : ℕ) where
  outer_bytes : bytes_of (outer ns kind mark size frame) ≡ size + frame
  unfolding outer
  outer_bytes = pick_all (λ (r : Row). bytes_of r ≡ size + frame) _ _ _ (λ _. omega arith) (λ _. omega arith)

  outer_framed : 2 ≤ frame → (outer ns kind mark size frame).known + (outer ns kind mark size frame).passed ≤ (outer ns kind mark size frame).frame
  unfolding outer
  outer_framed h = pick_all (λ (r : Row). r.known + r.passed ≤ r.frame) _ _ _ (λ _. omega arith) (λ _. omega arith)

-- those of a list of records, and each of them framed
abbrev Holds : List Row → ℕ → Type 0
Holds ms n = (sum_of bytes_of ms ≡ n) × AreFramed ms

framed_append : (a b : List Row) → AreFramed a → AreFramed b → AreFramed (a ++ b)
unfolding AreFramed
framed_append [] b h k = k
framed_append (m ∷ a) b h k = (h.0, framed_append a b h.1 k)

holds_append : (a b : List Row) (m n : ℕ) → Holds a m → Holds b n → Holds (a ++ b) (m + n)
holds_append a b m n h k = (sum_append bytes_of a b ∙ ap₂ (λ (x y : ℕ). x + y) h.0 k.0, framed_append a b h.1 k.1)

-- A stream's records have the bytes of the stream.
module _ (table : List ℕ) (ns : ℕ) (s : List ℕ) where
  from_holds : (rows : List Stream.Row) (at low left : ℕ) → at + left ≡ length s → from table ns s at low ≡ Ok rows → Holds (records_from ns at rows) left
  unfolding sum_of AreFramed
  from_holds [] at low left long walks =
      by_order at (length s)
      (λ more. absurd (let z : ◌≡◌ {A = ℕ} 0 1 = cc (passed_here table ns s at low [] more walks).whole in omega arith))
      (λ past. rw (none_brought table ns s at [] low past walks) (omega arith, tt))
  from_holds (r ∷ rs) at low left long walks =
      by_order at (length s)
      (λ more.
      let x = (here table ns s at low (r ∷ rs) more walks).frame in
      let p = passed_here table ns s at low (r ∷ rs) more walks in
      let next = at + x.head + x.size in
      let same : rs ≡ p.rest = cc p.whole in
      let rest = from_holds rs next (suc x.kind) (length s - next) (omega (arith, p.inside)) (p.walks ∙ ap Ok (sym same)) in
      let those = subst (λ (t : List Stream.Row). Holds (records_from ns next t) (length s - next)) same rest in
      let mark = Stream.mark_of (lookup table ns x.kind) (take x.size (drop (at + x.head) s)) in
      rw (one_brought table ns s at (r ∷ rs) x p mark refl)
      (omega (arith, outer_bytes ns x.kind mark x.size x.head, those.0, p.inside), (outer_framed ns x.kind mark x.size x.head p.up, those.1)))
      (λ past. absurd (let z : ◌≡◌ {A = ℕ} 0 1 = cc (none_left table ns s at low (r ∷ rs) past walks) in omega arith))

  stream_holds : (x : Answer (List Stream.Row)) → Stream.judging table ns s ≡ x → Holds (records_of ns x) (sum_of length (stream_of x s))
  unfolding sum_of AreFramed Stream.outer_from
  stream_holds (Ok rows) e = rw add-zero (from_holds rows 0 0 (length s) (zero-add (length s)) (judging_fine 0 table ns s rows e).walked)
  stream_holds (Err r) e = (refl, tt)

-- So do those of a section's streams,
items_hold : (table book : List ℕ) (es : List Item) → Holds (stream_records table book es) (sum_of length (accepted_streams table book es))
unfolding stream_records accepted_streams sum_of AreFramed
items_hold table book [] = (refl, tt)
items_hold table book (e ∷ es) =
    let s = part_of e book in
    let x = Stream.judging table e.namespace s in
    rw (accepted_streams, sum_append length (stream_of x s) (accepted_streams table book es))
    (holds_append (records_of e.namespace x) (stream_records table book es) _ _ (stream_holds table e.namespace s x refl) (items_hold table book es))

-- those of a book,
book_holds : (book : List ℕ) (x : Answer Parts) → judging book ≡ x → Holds (records_in book) (sum_of length (streams_in book))
unfolding records_in streams_in sum_of AreFramed
book_holds book (Ok p) e = rw e (items_hold p.table book p.streams.items)
book_holds book (Err r) e = rw e (refl, tt)

-- and those of all books.
pub books_hold : (books : List (List ℕ)) → Holds (records books) (sum_of length (streams books))
unfolding throughout sum_of AreFramed
books_hold [] = (refl, tt)
books_hold (b ∷ bs) =
    rw (sum_append length (streams_in b) (throughout streams_in bs))
    (holds_append (records_in b) (throughout records_in bs) _ _ (book_holds b (judging b) refl) (books_hold bs))

-- A book's streams lie in it one behind the other, so that they have no more bytes than it.
one_inside : (x : Answer (List Stream.Row)) (s : List ℕ) → sum_of length (stream_of x s) ≤ length s
unfolding sum_of
one_inside (Ok rows) s = omega arith
one_inside (Err r) s = omega arith

streams_inside : (table book : List ℕ) (n at : ℕ) (es : List Item) → items_at Section.Streams n at book ≡ Ok es →
    sum_of length (accepted_streams table book es) + at ≤ end_from at es
unfolding accepted_streams sum_of
streams_inside table book zero at es h =
    let is : [] ≡ es = cc (items_none Section.Streams book at) in
    rw (← is) (omega arith)
streams_inside table book (suc n) at es h =
    let f = items_first Section.Streams book n at es h in
    let e = f.is in
    let i = item_inside Section.Streams at book e f.found in
    let s = part_of e book in
    let x = Stream.judging table e.namespace s in
    rw f.all
    (omega (
      arith,
      i.starts,
      one_inside x s,
      length_part book e.start e.size i.ends,
      sum_append length (stream_of x s) (accepted_streams table book f.rest),
      streams_inside table book n (end e) f.rest f.follow,
    ))

book_most : (book : List ℕ) (x : Answer Parts) → judging book ≡ x → sum_of length (streams_in book) ≤ 65535
unfolding streams_in sum_of
book_most book (Ok p) e =
    let q = parted book p (judged book p e).0 in
    let r = q.streams in
    rw e (omega (arith, streams_inside p.table book _ _ _ r.items, r.ends, q.short))
book_most book (Err r) e = rw e (omega arith)

-- A thousand books are far from 2^64 bytes.
pub bytes_fit : (books : List (List ℕ)) → length books ≤ 1000 → sum_of bytes_of (records books) < 2 ^ 64
bytes_fit books few =
    let most = throughout_most streams_in length 65535 (λ b. book_most b (judging b) refl) books in
    rw (books_hold books).0 (omega (arith, most))
