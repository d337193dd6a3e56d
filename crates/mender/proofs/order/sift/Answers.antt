use Rattle.std.specs.Prelude.{Option, Some}
use Rattle.std.proofs.Common.{◌≡◌, ◌≤◌, ◌<◌, ℕ, List, true, false, get_or, length, drop, sym, ap, ◌∙◌, arith}
use Rattle.laws.proofs.Lists.{part_tail}
use Rattle.piece.specs.Piece.{is_whole, piece_in}
use Rattle.piece.specs.declared.Piece.{Piece}
use Rattle.sorting.specs.Sorting.{key_by}
use Rattle.mender.specs.Private.{AreWhole}
use Rattle.mender.proofs.Places.{whole_at}
use Rattle.mender.proofs.Sifting.{Sifting, same_place, sifting_same, size_room, long_room, sifting_new, sifting_start, sifted, sifted_none}
use Rattle.mender.proofs.Turning.{Turn, turned, told_some, place_inside}
use Rattle.mender.proofs.order.sift.Goals as goal
use Rattle.mender.proofs.order.sift.Goals.{then-p-kind, else-p-kind}

pub returns-then-order-eq0 : goal.returns-then-order-eq0
returns-then-order-eq0 c = sifted_none c.args.stream.now c.args.order.now c.if-order-eq0.true

-- the first record
pub slice_bounds-read-count : goal.slice_bounds-read-count
slice_bounds-read-count c = place_inside _ _ (whole_at c.args.stream.now c.args.order.now 0 c.requires.are_whole.0 (omega arith))

pub slice_bounds-read-start : goal.slice_bounds-read-start
slice_bounds-read-start c = place_inside _ _ (whole_at c.args.stream.now c.args.order.now 0 c.requires.are_whole.0 (omega arith))

pub unwrap-f-requires : goal.unwrap-f-requires
unwrap-f-requires c =
    told_some c.args.stream.now (get_or c.args.order.now 0 0) (whole_at c.args.stream.now c.args.order.now 0 c.requires.are_whole.0 (omega arith)) (rw part_tail at c.read.ensures)

pub loop-i-init : goal.loop-i-init
loop-i-init c =
    let first = whole_at c.args.stream.now c.args.order.now 0 c.requires.are_whole.0 (omega arith) in
    sifting_start c.args.stream.now c.args.order.now c.unwrap-f.result (omega arith) c.requires.are_whole.0 c.requires.are_whole.1
    (turned _ _ _ (sym c.unwrap-f.ensures ∙ (rw part_tail at c.read.ensures))) c.requires.stream_len_bound.0

-- the record at hand: its place is as it was, and it is whole
module _ {stream old order : List ℕ} {first kind many : ℕ} {fault : Option ℕ} {size long i : ℕ} (k : Sifting stream old order first kind many fault size long i) (more : i < length order) where
  same : get_or order i 0 ≡ get_or old i 0
  same = same_place _ _ _ _ _ _ _ _ _ _ k more

  whole : AreWhole stream old → is_whole (drop (get_or old i 0) stream) ≡ true
  whole all = whole_at stream old i all (omega (arith, k.as_long))

  inside : AreWhole stream old → get_or order i 0 ≤ length stream
  inside all = rw same (place_inside _ _ (whole all))

  here : (p : Piece) → Some p ≡ piece_in (drop (get_or order i 0) stream) → Turn stream (get_or old i 0) p
  here p is = turned _ _ _ (rw same at is)

  -- of a new type
  other : (p : Piece) → Turn stream (get_or old i 0) p → (p.kind ≡ kind → ⊥) → key_by stream false (get_or old i 0) ≡ key_by stream false first → ⊥
  other p t new h = new (ap (λ (x : Piece). x.kind) t.is ∙ h ∙ sym k.typed)

pub slice_bounds-read-count-in-loop-i : goal.slice_bounds-read-count-in-loop-i
slice_bounds-read-count-in-loop-i c = inside c.loop-i.invariant (omega arith) c.requires.are_whole.0

pub slice_bounds-read-start-in-loop-i : goal.slice_bounds-read-start-in-loop-i
slice_bounds-read-start-in-loop-i c = inside c.loop-i.invariant (omega arith) c.requires.are_whole.0

pub unwrap-p-requires : goal.unwrap-p-requires
unwrap-p-requires c =
    let k = c.loop-i.invariant in
    told_some c.args.stream.now (get_or c.loop-i.order c.loop-i.i 0) (rw (same k (omega arith)) (whole k (omega arith) c.requires.are_whole.0)) (rw part_tail at c.read-in-loop-i.ensures)

pub lower-fault-requires : goal.lower-fault-requires
lower-fault-requires c =
    let k = c.loop-i.invariant in
    (k.leads, rw (same k (omega arith)) (whole k (omega arith) c.requires.are_whole.0))

pub overflow_add-size : goal.overflow_add-size
overflow_add-size c =
    let k = c.loop-i.invariant in
    let t = here k (omega arith) c.unwrap-p.result (sym c.unwrap-p.ensures ∙ (rw part_tail at c.read-in-loop-i.ensures)) in
    omega (arith, size_room _ _ _ _ _ _ _ _ _ _ k (omega arith) _ t (other k (omega arith) _ t c.if-p-kind.false) c.requires.stream_len_bound.0)

pub overflow_add-respelled : goal.overflow_add-respelled
overflow_add-respelled c =
    let k = c.loop-i.invariant in
    let t = here k (omega arith) c.unwrap-p.result (sym c.unwrap-p.ensures ∙ (rw part_tail at c.read-in-loop-i.ensures)) in
    omega (arith, long_room _ _ _ _ _ _ _ _ _ _ k (omega arith) _ t (other k (omega arith) _ t c.if-p-kind.false) c.requires.stream_len_bound.0)

pub loop-i-preserved : goal.loop-i-preserved
loop-i-preserved c =
    let k = c.loop-i.invariant in
    let t = here k (omega arith) c.unwrap-p.result (sym c.unwrap-p.ensures ∙ (rw part_tail at c.read-in-loop-i.ensures)) in
    let is = same k (omega arith) in
    elim c.if-p-kind.branch [
      | then-p-kind w ↦
          let seen = sym (ap (λ (x : Piece). x.kind) t.is) ∙ w.if-p-kind.true ∙ k.typed in
          rw (w.order-is, w.first-is, w.kind-is, w.kept-is, w.fault-is, w.size-is, w.respelled-is)
          (sifting_same _ _ _ _ _ _ _ _ _ _ k (omega arith) _ seen (rw is at w.lower-fault.ensures))
      | else-p-kind w ↦
          rw (w.order-is, w.first-is, w.kind-is, w.kept-is, w.fault-is, w.size-is, w.respelled-is, is)
          (sifting_new _ _ _ _ _ _ _ _ _ _ k (omega arith) _ t (other k (omega arith) _ t w.if-p-kind.false) c.requires.stream_len_bound.0)
    ]

pub returns : goal.returns
returns c = sifted _ _ _ _ _ _ _ _ _ _ c.loop-i.invariant (omega arith)
