-- What the records of an accepted stream bring, record by record. Assumes nothing.
use Rattle.std.specs.Prelude.{Ok, Err}
use Rattle.std.proofs.Common.{◌≡◌, ℕ, ◌+◌, ◌≤◌, List, [], ◌∷◌, ◌++◌, length, take, drop, refl, ap, ◌∙◌}
use native.Mathlib.Nat.{add-sub_cancel_left}
use Rattle.answer.specs.declared.Refusal.{Refusal}
use Rattle.book.specs.Book.{Parts, part_of, judging}
use Rattle.book.specs.declared.Item.{Item}
use Rattle.frame.specs.Frame.{Frame}
use Rattle.stream.specs.Stream as Stream
use Rattle.stream_index.proofs.Accepted.{from, none_left, Passed}
use Rattle.table.specs.Table.{lookup}
use Rattle.month.specs.Month.{records_from, records_of, stream_records, records_in}
use Rattle.month.specs.Month.{outer}

module _ (table : List ℕ) (ns : ℕ) (s : List ℕ) (at : ℕ) (rows : List Stream.Row) where
  -- at the end they bring nothing more
  pub none_brought : (low : ℕ) → length s ≤ at → from table ns s at low ≡ Ok rows → records_from ns at rows ≡ []
  unfolding records_from
  none_brought low past walks = rw (none_left table ns s at low rows past walks)

  -- the record at hand, and those behind it
  pub one_brought : (x : Frame) (p : Passed table ns s at x rows) (mark : ℕ) →
      mark ≡ Stream.mark_of (lookup table ns x.kind) (take x.size (drop (at + x.head) s)) →
      records_from ns at rows ≡ outer ns x.kind mark x.size x.head ∷ records_from ns (at + x.head + x.size) p.rest
  unfolding records_from
  one_brought x p mark is = ap (records_from ns at) p.whole ∙ rw (is, add-sub_cancel_left)

-- The streams of a section, item by item.
pub none_streamed : (table book : List ℕ) → stream_records table book [] ≡ []
unfolding stream_records
none_streamed table book = refl

pub one_streamed : (table book : List ℕ) (e : Item) (es : List Item) →
    stream_records table book (e ∷ es) ≡ records_of e.namespace (Stream.judging table e.namespace (part_of e book)) ++ stream_records table book es
unfolding stream_records
one_streamed table book e es = refl

-- A book's, by its answer.
pub records_none : (book : List ℕ) (r : Refusal) → judging book ≡ Err r → records_in book ≡ []
unfolding records_in
records_none book r e = rw e

pub records_are : (book : List ℕ) (p : Parts) → judging book ≡ Ok p → records_in book ≡ stream_records p.table book p.streams.items
unfolding records_in
records_are book p e = rw e
