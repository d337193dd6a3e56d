-- `month::streams::add_records` meets its contract: the records that are left, entered, make the whole. Assumes nothing.
use Rattle.std.specs.Prelude.{Ok}
use Rattle.std.proofs.Common.{◌≡◌, ℕ, suc, ◌+◌, ◌-◌, ◌/◌, ◌≤◌, List, [], ◌∷◌, length, sym, refl, ap, ◌∙◌, subst, add_assoc, arith, rules}
use native.Mathlib.Nat.{add-sub_cancel_left, min-le_left}
use Rattle.frame.specs.Frame.{frame}
use Rattle.laws.proofs.Lists.{part_tail}
use Rattle.stream.specs.Stream as Stream
use Rattle.stream_index.proofs.Accepted.{from, Passed, type_inside, ahead}
use Rattle.pairs.proofs.Laying.{length_rows}
use Rattle.table.specs.Search.{Cursor}
use Rattle.table.proofs.Cursor.{cursor_start, cursor_next, cursor_found}
use Rattle.pairs.specs.declared.Row.{Row}
use Rattle.month.specs.Month.{records_from, records_of}
use Rattle.month.specs.Private.{within, EntersAll}
use Rattle.pairs.specs.Rows.{enters, rows_of}
use Rattle.month.proofs.Going.{entered_one, Going, going_end, going_over, going_next}
use Rattle.month.proofs.Records.{none_brought, one_brought}
use Rattle.month.proofs.streams.add_records.Statement.{statement}
use Rattle.month.proofs.streams.add_records.Tie as tie

abbrev invariant-loop : tie.invariant-loop-at
invariant-loop namespace table stream rows₀ count at₀ row₀ near₀ held₀ rows at row near held =
    (low : ℕ) × (read : List Stream.Row) × (from table namespace stream at low ≡ Ok read) ×
    Going (within (enters (rows_of count rows₀) (records_of namespace (Stream.outer table namespace stream)))) rows held (records_from namespace at read) ×
    Cursor table namespace low row

abbrev decreases-loop : tie.decreases-loop-at
decreases-loop namespace table stream rows₀ count at₀ row₀ near₀ held₀ rows at row near held = length stream - at

loop-holds : tie.Need-loop-at-init invariant-loop decreases-loop
unfolding Stream.outer_from
loop-holds c =
    let read = c.requires.1 in (
      0,
      read.0,
      read.1,
      record { long = c.requires.0.1; few = c.requires.0.2; rises = c.requires.0.3; same = rw read.1 refl },
      cursor_start c.args.table.now c.args.namespace,
    )

-- its type lies in the stream
typed : (c : tie.After-peek-kind invariant-loop decreases-loop) →
    c.loop-at.at + c.peek-kind.result.width ≤ length c.args.stream.now
typed c =
    type_inside _ _ _ _ _ _ c.loop-at-test.true c.loop-at.invariant.2 _ (rw part_tail at c.peek-kind.ensures)

-- the record at hand
met : (c : tie.After-peek-size invariant-loop decreases-loop) →
    let a = c.args in
    let k = c.peek-kind.result in
    Passed a.table.now a.namespace a.stream.now c.loop-at.at (frame k.value (k.width + c.peek-size.result.width) c.peek-size.result.value)
    c.loop-at.invariant.1 ×
    (c.loop-at.invariant.0 ≤ k.value)
met c =
    ahead _ _ _ _ _ _ c.loop-at-test.true c.loop-at.invariant.2 _ _ (rw part_tail at c.peek-kind.ensures) (rw part_tail at c.peek-size.ensures)

add-behind : tie.Need-overflow_add-behind invariant-loop decreases-loop
add-behind c = omega (arith, typed c.before)

sub-peek-2 : tie.Need-slice_bounds-peek-count-in-loop-at invariant-loop decreases-loop
sub-peek-2 c = omega (arith, typed c.before)

part-peek-start-2 : tie.Need-slice_bounds-peek-start-in-loop-at invariant-loop decreases-loop
part-peek-start-2 c = omega (arith, typed c.before)

add_start : tie.Need-overflow_add-start invariant-loop decreases-loop
add_start c = let h = met c.before in omega (arith, h.0.inside)

add-end : tie.Need-overflow_add-end invariant-loop decreases-loop
add-end c = let h = met c.before in omega (arith, h.0.inside)

part-of-end : tie.Need-slice_bounds-of-end invariant-loop decreases-loop
part-of-end c = let h = met c.before.before in omega (arith, h.0.inside)

abbrev peeked : tie.After-enter-entered invariant-loop decreases-loop → tie.After-peek-size invariant-loop decreases-loop
peeked e = e.before.before.before.before.before.before.before

abbrev loop : tie.After-enter-entered invariant-loop decreases-loop → tie.At-loop-at invariant-loop decreases-loop
loop e = (peeked e).before.before.before.before.before.before

-- what was entered is the first of what is left
first : (e : tie.After-enter-entered invariant-loop decreases-loop) →
    let p = peeked e in
    let k = p.peek-kind.result in
    let n = p.peek-size.result in
    let l = loop e in
    let a = l.args in
    records_from a.namespace l.loop-at.at l.loop-at.invariant.1
    ≡ e.share-share.result ∷ records_from a.namespace (l.loop-at.at + (k.width + n.width) + n.value) (met p).0.rest
first e =
    let p = peeked e in
    let k = p.peek-kind.result in
    let n = p.peek-size.result in
    let l = loop e in
    let h = met p in
    let found = ap (λ w. w.found) e.find-search.ensures ∙ cursor_found _ _ _ _ l.loop-at.invariant.4 _ h.1 l.requires.0.0 in
    let head : l.loop-at.at + k.width + n.width - l.loop-at.at ≡ k.width + n.width = omega arith in
    one_brought _ _ _ _ _ _ h.0 e.of-mark.result
    (rw (found, add-sub_cancel_left, add_assoc l.loop-at.at) at e.of-mark.ensures)
    ∙ ap (λ (m : Row). m ∷ records_from l.args.namespace (l.loop-at.at + (k.width + n.width) + n.value) h.0.rest)
    (sym (rw head at e.share-share.ensures))

-- it was entered
entered : (e : tie.After-enter-entered invariant-loop decreases-loop) →
    EntersAll (loop e).loop-at.rows (loop e).loop-at.held (e.share-share.result ∷ []) e.enter-entered.result.count e.enter-entered.new.rows
entered e = let g = (loop e).loop-at.invariant.3 in entered_one _ _ _ _ _ g.long g.few g.rises e.enter-entered.ensures

-- and its row is one of 512
placed : (e : tie.After-enter-entered invariant-loop decreases-loop) → e.enter-entered.result.place ≤ 512
placed e =
    let g = (loop e).loop-at.invariant.3 in
    let inside = e.enter-entered.ensures.inside in
    let most = min-le_left (loop e).loop-at.held (length (loop e).loop-at.rows / 7) in
    omega (arith, rw length_rows at inside, most, g.few)

add-near : tie.Need-overflow_add-near invariant-loop decreases-loop
add-near c = omega (arith, placed c.before.before.before.before)

same_length : tie.Need-shape_of-rows-then-held-gt-PAIRS invariant-loop decreases-loop
same_length c =
    let l = loop c.before.before.before in
    omega (arith, c.enter-entered.auto, l.loop-at.invariant.3.long, l.requires.0.1)

returns : tie.Need-returns-then-held-gt-PAIRS invariant-loop decreases-loop
returns c =
    let l = loop c.before.before.before in
    going_over _ _ _ _ _ (c.share-share.result ∷ []) _ (rw (first c.before.before.before) at l.loop-at.invariant.3) (entered c.before.before.before) c.if-held-gt-PAIRS.true

loop-less : tie.Need-loop-at-smaller invariant-loop decreases-loop
loop-less c = let h = met (peeked c.before.before.before.before) in omega (arith, h.0.up, h.0.inside)

loop-again : tie.Need-loop-at-preserved invariant-loop decreases-loop
loop-again c =
    let p = peeked c.before.before.before.before in
    let l = loop c.before.before.before.before in
    let h = met p in
    let kind = p.peek-kind.result.value in (
      suc kind,
      h.0.rest,
      rw (add_assoc l.loop-at.at) h.0.walks,
      rw (add_assoc l.loop-at.at)
          (going_next _ _ _ _ _ (c.share-share.result ∷ []) _ (rw (first c.before.before.before.before) at l.loop-at.invariant.3) (entered c.before.before.before.before) (omega (arith, c.enter-entered.auto)) c.if-held-gt-PAIRS.false),
      subst (λ (row : ℕ). Cursor l.args.table.now l.args.namespace (suc kind) row) (sym (ap (λ w. w.next) c.find-search.ensures))
          (cursor_next _ _ _ _ l.loop-at.invariant.4 _ h.1 l.requires.0.0),
    )

same-length-2 : tie.Need-shape_of-rows invariant-loop decreases-loop
same-length-2 c = c.loop-at.invariant.3.long ∙ sym c.requires.0.1

returns-2 : tie.Need-returns invariant-loop decreases-loop
returns-2 c =
    going_end _ _ _ (rw (none_brought _ _ _ _ _ _ c.loop-at-test.false c.loop-at.invariant.2) at c.loop-at.invariant.3)

pub add_records_spec : {M : Type 1} → statement M
add_records_spec =
    tie.close
    (tie.spec invariant-loop decreases-loop loop-holds (search rules) (search rules) (search rules) (search rules) add-behind sub-peek-2 part-peek-start-2 (search rules)
    (search rules) add_start add-end (search rules) (search rules) (search rules) part-of-end (search rules) (search rules) (search rules) (search rules)
    same_length returns add-near loop-less loop-again same-length-2 returns-2)
