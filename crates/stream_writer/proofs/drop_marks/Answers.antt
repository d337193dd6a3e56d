-- `stream_writer::drop_marks` meets its contract: each turn puts a row, and leaves those behind it. Assumes nothing.
use Rattle.std.proofs.Common.{arith, refl, ◌∙◌, ◌≡◌, suc, ◌+◌, ◌-◌, ◌*◌, get_or, take, drop}
use native.Mathlib.Nat.{sub-zero}
use lib.ListN.{length-set}
use Rattle.laws.proofs.Lists.{triple_put}
use Rattle.stream_writer.specs.Back.{without_marks}
use Rattle.stream_writer.proofs.BackLaws.{marks_none, marks_next}
use Rattle.stream_writer.proofs.drop_marks.Goals as goal

pub loop-r-init : goal.loop-r-init
loop-r-init c = (omega arith, refl, simp sub-zero refl)

pub bounds-triples-r-in-loop-r : goal.bounds-triples-r-in-loop-r
bounds-triples-r-in-loop-r c = simp length-set (omega (arith, c.loop-r.invariant.1, c.requires.1))

pub bounds-triples-r-in-loop-r-2 : goal.bounds-triples-r-in-loop-r-2
bounds-triples-r-in-loop-r-2 c = simp length-set (omega (arith, c.loop-r.invariant.1, c.requires.1))

pub loop-r-preserved : goal.loop-r-preserved
loop-r-preserved c =
    let h = c.loop-r in
    let a = c.args in
    let i = a.index.now in
    let left = without_marks (take (4 * (a.records - (h.r + 1))) (drop ((h.r + 1) * 4) i)) in
    let one : a.records - h.r ≡ suc (a.records - (h.r + 1)) = omega arith in
    let on : (h.r + 1) * 3 ≡ h.r * 3 + 3 = omega arith in
    let next = marks_next i h.r (a.records - (h.r + 1)) (omega (arith, c.requires.0)) in (
      omega arith,
      simp length-set h.invariant.1,
      rw on (triple_put h.triples (h.r * 3) (get_or i (h.r * 4) 0) (get_or i (h.r * 4 + 1) 0) (get_or i (h.r * 4 + 2) 0) left ∙ (rw (one, next) at h.invariant.2)),
    )

pub returns : goal.returns
returns c =
    let none : c.args.records - c.loop-r.r ≡ 0 = omega arith in
    rw (none, marks_none) at c.loop-r.invariant.2
