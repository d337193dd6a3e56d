-- `month::streams::add` meets its contract: the streams that are left, added, make the whole. Assumes nothing.
use Rattle.std.proofs.Common.{sym, refl, ap, ◌∙◌, ◌≡◌, ◌+◌, ◌-◌, ◌<◌, ℕ, List, ◌++◌, Ok, arith}
use native.Mathlib.Nat.{add-sub_cancel_left, sub-zero}
use Rattle.book.proofs.SectionLaws.{item_inside}
use Rattle.stream.specs.Stream as Stream
use Rattle.book.specs.Book.{part_of, item_at, items_at}
use Rattle.book.specs.declared.Item.{Item}
use Rattle.book.specs.declared.Section.TheVariants as Section
use Rattle.month.specs.Month.{records_of, stream_records}
use Rattle.month.proofs.Going.{going_end, going_over, going_next}
use Rattle.month.proofs.Items.{same_items, item_there, Behind, item_next, items_done}
use Rattle.month.proofs.Records.{none_streamed, one_streamed}
use Rattle.month.proofs.streams.add.Goals as goal

pub loop-init : goal.loop-init
loop-init c =
    let es = c.requires.book_value in
    let t = c.requires.table_value in
    (es.0, es.0, es.1, rw sub-zero es.1, record { long = t.1; few = t.2; rises = t.3; same = refl })

pub unwrap-e-requires : goal.unwrap-e-requires
unwrap-e-requires c = rw (c.item_at.ensures ∙ (item_there _ _ _ _ _ c.loop.invariant.3 (omega arith)).1) refl

pub overflow_add-next : goal.overflow_add-next
overflow_add-next c = omega (arith, (item_inside _ _ _ _ (sym c.item_at.ensures ∙ c.unwrap-e.ensures)).ends, c.well_formed)

pub slice_bounds-add_stream-end : goal.slice_bounds-add_stream-end
slice_bounds-add_stream-end c = omega (arith, (item_inside _ _ _ _ (sym c.item_at.ensures ∙ c.unwrap-e.ensures)).ends)

pub add_stream-held-requires : goal.add_stream-held-requires
add_stream-held-requires c = let g = c.loop.invariant.4 in (c.requires.table_value.0, g.long, g.few, g.rises)

-- what is left begins with what the next stream brings
module _ (table book : List ℕ) (left next : ℕ) (rest : List Item) (are : items_at Section.Streams left next book ≡ Ok rest) (more : 0 < left) (e : Item)
    (found : item_at Section.Streams next book ≡ Ok e) where
  behind : Behind Section.Streams book left next rest are e
  behind = item_next _ _ _ _ _ are more e found

  brought : stream_records table book rest ≡
      records_of e.namespace (Stream.judging table e.namespace (part_of e book)) ++ stream_records table book behind.rest
  brought = ap (stream_records table book) behind.all ∙ one_streamed table book e behind.rest

pub returns-then-held-gt-PAIRS : goal.returns-then-held-gt-PAIRS
returns-then-held-gt-PAIRS c es is =
    let a = c.args in
    let l = c.loop in
    let all = same_items _ l.invariant.2 is in
    let found = sym c.item_at.ensures ∙ c.unwrap-e.ensures in
    let going = rw (brought a.table.now a.book.now _ _ _ l.invariant.3 (omega arith) _ found) at l.invariant.4 in
    rw (← all) (going_over _ _ _ _ _ _ _ going (rw add-sub_cancel_left at c.add_stream-held.ensures) c.if-held-gt-PAIRS.true)

pub loop-preserved : goal.loop-preserved
loop-preserved c =
    let a = c.args in
    let l = c.loop in
    let found = sym c.item_at.ensures ∙ c.unwrap-e.ensures in
    let b = behind a.table.now a.book.now _ _ _ l.invariant.3 (omega arith) _ found in
    let going = rw (brought a.table.now a.book.now _ _ _ l.invariant.3 (omega arith) _ found) at l.invariant.4 in
    let one_less : a.run.count - l.counter - 1 ≡ a.run.count - (l.counter + 1) = omega arith in (
      l.invariant.0,
      b.rest,
      l.invariant.2,
      rw (← one_less) b.follow,
      going_next _ _ _ _ _ _ _ going (rw add-sub_cancel_left at c.add_stream-held.ensures) (omega (arith, c.add_stream-held.auto)) c.if-held-gt-PAIRS.false,
    )

pub returns : goal.returns
returns c es is =
    let l = c.loop in
    let none = items_done _ _ _ _ _ l.invariant.3 (omega arith) in
    rw (← (same_items _ l.invariant.2 is)) (going_end _ _ _ (rw (none, none_streamed) at l.invariant.4))
