-- Field by field.
use Rattle.std.specs.Prelude.{Ok}
use native.Mathlib.Omega.{arith}
use mathlib.Core.Path.{◌≡◌, refl, sym, ap, ◌∙◌}
use Prim.Native.Nat.{◌+◌, ◌*◌, ◌≤◌}
use lib.ListN.{length, drop, length-set}
use Rattle.field.specs.Fields.{field_at, numbers_of}
use Rattle.laws.proofs.Lists.{triple_put}
use Rattle.field.proofs.FieldLaws.{rest_all, rest_next, rest_none, rest_fine, field_inside, numbers_next, numbers_none}
use Rattle.invoice.proofs.index.put.Goals as goal
use Rattle.invoice.proofs.index.put.Goals.{In-Ok}

pub loop-at-init : goal.loop-at-init
loop-at-init c = (omega arith, omega arith, refl, λ fields h. (rest_all _ fields h, refl))

pub returns-in_default : goal.returns-in_default
returns-in_default c fields h =
    absurd (rest_fine _ fields _ _ _ c.loop-at-test.true (sym c.field_at.ensures ∙ c.in_default.is) (c.loop-at.invariant.3 fields h).0)

-- the field at this place, which ends inside
field_there : (k : In-Ok) → field_at (7 + k.loop-at.at) (drop k.loop-at.at k.args.middle.now) ≡ Ok k.in-Ok.f
field_there k = sym k.field_at.ensures ∙ k.in-Ok.is

next_at : (k : In-Ok) → k.loop-at.at + (3 + k.in-Ok.f.size) ≤ length k.args.middle.now
next_at k = field_inside k.args.middle.now k.loop-at.at k.loop-at-test.true _ (field_there k)

-- there is room for it in the index
room_for : (k : In-Ok) → k.loop-at.row * 3 + 3 ≤ length k.loop-at.index
room_for k =
    let h = k.loop-at in
    let p = k.requires.middle_value in
    let x = (h.invariant.3 p.0 p.1).0 in
    let n = rest_next _ p.0 _ _ _ k.loop-at-test.true (field_there k) x in
    omega (arith, h.invariant.2, p.2, x.counted, ap length n.is)

pub bounds-index-row : goal.bounds-index-row
bounds-index-row c =
    let k = (goal.at.bounds-index-row c).In-Ok in
    omega (arith, room_for k)

pub bounds-index-row-in-loop-at : goal.bounds-index-row-in-loop-at
bounds-index-row-in-loop-at c =
    let k = (goal.at.bounds-index-row-in-loop-at c).In-Ok in
    simp length-set (omega (arith, room_for k))

pub bounds-index-row-in-loop-at-2 : goal.bounds-index-row-in-loop-at-2
bounds-index-row-in-loop-at-2 c =
    let k = (goal.at.bounds-index-row-in-loop-at-2 c).In-Ok in
    simp length-set (omega (arith, room_for k))

pub overflow_add-at : goal.overflow_add-at
overflow_add-at c = omega (arith, next_at (goal.at.overflow_add-at c).In-Ok)

pub overflow_add-at-in-loop-at : goal.overflow_add-at-in-loop-at
overflow_add-at-in-loop-at c = omega (arith, next_at (goal.at.overflow_add-at-in-loop-at c).In-Ok)

pub loop-at-preserved : goal.loop-at-preserved
loop-at-preserved c =
    let k = (goal.at.loop-at-preserved c).In-Ok in
    let h = c.loop-at in
    let f = c.in-Ok.f in
    let three : (h.row + 1) * 3 ≡ h.row * 3 + 3 = omega arith in (
      next_at k,
      omega (arith, h.invariant.1),
      simp length-set h.invariant.2,
      λ fields e.
          let x = h.invariant.3 fields e in
          let n = rest_next _ fields _ _ f c.loop-at-test.true (field_there k) x.0 in
          (n.next, rw (three, triple_put h.index (h.row * 3) f.kind f.start f.size (numbers_of n.next.rest), ← (numbers_next f n.next.rest), ← n.is) x.1),
    )

pub returns : goal.returns
returns c fields h =
    let l = c.loop-at in
    let x = l.invariant.3 fields h in
    rw (rest_none _ fields _ _ (omega arith) x.0, numbers_none) at x.1
