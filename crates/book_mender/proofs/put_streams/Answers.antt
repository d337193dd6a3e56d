use Rattle.std.proofs.Common.{◌≡◌, ◌+◌, ◌-◌, sym, ◌∙◌, arith}
use Rattle.std.proofs.Math.Nat.{add-sub_cancel_left, sub-zero}
use Rattle.laws.proofs.Lists.{length_part}
use Rattle.book.proofs.SectionLaws.{item_inside}
use Rattle.book_mender.proofs.Going.{namespace_small, going_first, going_there, going_next, going_last}
use Rattle.book_mender.proofs.put_streams.Goals as goal

pub loop-init : goal.loop-init
loop-init c = let es = c.requires.book_value in (es.0, es.1, rw sub-zero (going_first _ _ _ _ _ es.1 c.requires.begin_in_bounds.0))

pub returns-in_default : goal.returns-in_default
returns-in_default c es is = absurd (going_there _ _ _ _ _ _ _ _ c.loop.invariant.2 (omega arith) _ (sym c.item_at.ensures ∙ c.in_default.is))

pub overflow_add-next : goal.overflow_add-next
overflow_add-next c = omega (arith, (item_inside _ _ _ _ (sym c.in-Ok.ensures)).ends, c.requires.begin_in_bounds.1)

pub overflow_cast-e : goal.overflow_cast-e
overflow_cast-e c = omega (arith, namespace_small _ _ _ (λ k. (c.type_inv.book k).fits) (sym c.in-Ok.ensures))

pub slice_bounds-put_stream-end : goal.slice_bounds-put_stream-end
slice_bounds-put_stream-end c = omega (arith, (item_inside _ _ _ _ (sym c.in-Ok.ensures)).ends)

pub put_stream-at-requires : goal.put_stream-at-requires
put_stream-at-requires c =
    let e = c.in-Ok.e in
    let i = item_inside _ _ _ _ (sym c.in-Ok.ensures) in
    let g = c.loop.invariant.2 in
    rw (add-sub_cancel_left, length_part c.args.book.now e.start e.size i.ends)
    (omega (arith, i.ends, c.requires.begin_in_bounds), omega (arith, i.starts, i.ends, c.requires.begin_in_bounds, g.behind, g.long))

pub loop-preserved : goal.loop-preserved
loop-preserved c =
    let e = c.in-Ok.e in
    let found = sym c.in-Ok.ensures in
    let i = item_inside _ _ _ _ found in
    let put = rw (add-sub_cancel_left, length_part c.args.book.now e.start e.size i.ends) at c.put_stream-at.ensures in
    let left = c.args.streams.count - c.loop.counter in
    let less : c.args.streams.count - (c.loop.counter + 1) ≡ left - 1 = omega arith in (
      c.loop.invariant.0,
      c.loop.invariant.1,
      rw less (going_next _ _ _ _ _ _ _ _ c.loop.invariant.2 (omega arith) e found _ _ c.put_stream-at.auto.new put.0 put.1 put.2),
    )

pub returns : goal.returns
returns c es is =
    let v = c.loop.invariant in
    let same : v.0 ≡ es = cc (v.1, is) in
    let t = going_last _ _ _ _ _ _ _ _ v.2 (omega arith) in
    rw (← same) (t.ends, v.2.behind, t.goes, t.same)
