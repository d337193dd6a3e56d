use Rattle.std.proofs.Common.{◌≡◌, ◌∙◌, suc, ◌+◌, ◌-◌, sym, ap, arith}
use Rattle.std.proofs.Math.Nat.{sub-zero}
use Rattle.answer.specs.Answer.{mapped}
use Rattle.answer.proofs.Answer.{handed_on}
use Rattle.book.specs.Private.{walked}
use Rattle.book.proofs.SectionLaws.{item_inside, items_broken, items_next, items_none, section_cut, section_broken, section_walked}
use Rattle.book.proofs.walk.Goals as goal

pub returns-then-book-lt2 : goal.returns-then-book-lt2
returns-then-book-lt2 c = rw c.bare.ensures (sym (ap (mapped walked) (section_cut _ _ _ (omega arith))))

pub returns-then-book-at : goal.returns-then-book-at
returns-then-book-at c = rw c.bare-then-book-at.ensures (sym (ap (mapped walked) (section_cut _ _ _ (omega arith))))

pub loop-init : goal.loop-init
loop-init c = rw sub-zero

pub returns-in_err-e : goal.returns-in_err-e
returns-in_err-e c =
    let l = c.loop in
    let one : c.number-count.result - l.counter ≡ suc (c.number-count.result - (l.counter + 1)) = omega arith in
    handed_on c.from_residual.ensures.1
    ∙ sym (section_broken _ _ _ _ (omega arith) c.number-count.ensures.0 _
    (l.invariant ∙ rw (one, items_broken _ _ (c.number-count.result - (l.counter + 1)) l.next _ (sym c.in_err-e.ensures))))

pub overflow_add-next : goal.overflow_add-next
overflow_add-next c = omega (arith, (item_inside _ _ _ _ (sym c.in_ok-e.ensures)).ends)

pub loop-preserved : goal.loop-preserved
loop-preserved c =
    let l = c.loop in
    let one : c.number-count.result - l.counter ≡ suc (c.number-count.result - (l.counter + 1)) = omega arith in
    (rw one at l.invariant) ∙ items_next _ _ (c.number-count.result - (l.counter + 1)) l.next _ (sym c.in_ok-e.ensures)

pub returns : goal.returns
returns c =
    let l = c.loop in
    let none : c.number-count.result - l.counter ≡ 0 = omega arith in
    sym (section_walked _ _ _ _ (omega arith) c.number-count.ensures.0 _ ((rw none at l.invariant) ∙ rw (items_none _ _ l.next)))
