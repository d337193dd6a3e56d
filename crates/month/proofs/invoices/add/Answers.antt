-- `month::invoices::add` meets its contract: the invoices that are left, added, make the whole. Assumes nothing.
use Rattle.std.proofs.Common.{sym, refl, ap, ◌∙◌, ◌≡◌, ◌+◌, ◌-◌, ℕ, arith}
use native.Mathlib.Nat.{add-sub_cancel_left, sub-zero}
use Rattle.book.proofs.SectionLaws.{item_inside}
use Rattle.month.specs.Month.{invoice_amounts, pays}
use Rattle.month.proofs.Items.{same_items, item_there, item_next, items_done}
use Rattle.month.proofs.Paying.{none_paid, one_paid}
use Rattle.month.proofs.invoices.add.Goals as goal

-- so many are left, one fewer, and none
one_less : (count counter : ℕ) → count - counter - 1 ≡ count - (counter + 1)
one_less count counter = omega arith

pub loop-init : goal.loop-init
loop-init c =
    let s = c.requires in
    (s.0, rw sub-zero s.1, λ es is. ap (λ x. pays c.args.earlier (invoice_amounts c.args.book.now x)) (same_items _ s.1 is))

pub unwrap-e-requires : goal.unwrap-e-requires
unwrap-e-requires c = rw (c.item_at.ensures ∙ (item_there _ _ _ _ _ c.loop.invariant.1 (omega arith)).1) refl

pub overflow_add-next : goal.overflow_add-next
overflow_add-next c = omega (arith, (item_inside _ _ _ _ (sym c.item_at.ensures ∙ c.unwrap-e.ensures)).ends, c.well_formed)

pub slice_bounds-add_invoice-end : goal.slice_bounds-add_invoice-end
slice_bounds-add_invoice-end c = omega (arith, (item_inside _ _ _ _ (sym c.item_at.ensures ∙ c.unwrap-e.ensures)).ends)

pub loop-preserved : goal.loop-preserved
loop-preserved c =
    let b = item_next _ _ _ _ _ c.loop.invariant.1 (omega arith) _ (sym c.item_at.ensures ∙ c.unwrap-e.ensures) in (
      b.rest,
      rw (← one_less c.args.run.count c.loop.counter) b.follow,
      λ es is. rw (c.add_invoice-paid.ensures, add-sub_cancel_left) (sym (one_paid _ _ _ b.rest) ∙ (rw b.all at (c.loop.invariant.2 es is))),
    )

pub returns : goal.returns
returns c es is =
    let none = items_done _ _ _ _ _ c.loop.invariant.1 (omega arith) in
    sym (none_paid c.loop.paid c.args.book.now) ∙ (rw none at (c.loop.invariant.2 es is))
