-- Each turn puts an item's line behind those of the items before. Assumes nothing.
use Rattle.std.proofs.Common.{sym, ◌∙◌, arith}
use Rattle.book.proofs.SectionLaws.{item_inside}
use Rattle.report_text.proofs.Going.{going_first, going_there, going_room, going_next, going_last}
use Rattle.report_text.proofs.Sizes.{refusal_one, refusal_is}
use Rattle.report_text.proofs.put_section.Goals as goal

pub loop-before-init : goal.loop-before-init
loop-before-init c =
    let s = c.requires in
    going_first _ _ _ _ _ _ _ s.book_value.0 s.book_value.1 s.table_value.2 s.table_value.3

pub unreachable-requires : goal.unreachable-requires
unreachable-requires c =
    going_there _ _ _ _ _ _ _ _ _ _ _ _ c.loop-before.invariant (omega arith) _ (sym c.item_at.ensures ∙ c.in-Err.is)

pub put_item-line-requires : goal.put_item-line-requires
put_item-line-requires c =
    (c.requires.table_value.0, (item_inside _ _ _ _ (sym c.item_at.ensures ∙ c.in-Ok.is)).ends)

pub overflow_add-end : goal.overflow_add-end
overflow_add-end c =
    let g =
    going_next _ _ _ _ _ _ _ _ _ _ _ _ c.loop-before.invariant _ _ _ (omega arith) c.requires.table_value.0 (sym c.item_at.ensures ∙ c.in-Ok.is) c.put_item-line.ensures.puts in
    omega (arith, going_room _ _ _ _ _ _ _ _ _ _ _ _ g c.requires.table_value.1)

pub overflow_add-refused : goal.overflow_add-refused
overflow_add-refused c =
    let a = c.args in
    omega (
      arith,
      refusal_one a.section a.table.now a.book.now c.in-Ok.e,
      refusal_is a.section a.table.now a.book.now c.in-Ok.e,
      rw c.put_item-line.ensures.refused_value at c.from-refused.ensures,
      c.loop-before.invariant.few,
      c.loop-before.invariant.within,
      c.well_formed,
    )

pub overflow_add-next : goal.overflow_add-next
overflow_add-next c = omega (arith, (item_inside _ _ _ _ (sym c.item_at.ensures ∙ c.in-Ok.is)).ends, c.well_formed)

pub loop-before-preserved : goal.loop-before-preserved
loop-before-preserved c =
    rw (c.from-refused.ensures, c.put_item-line.ensures.refused_value)
    (going_next _ _ _ _ _ _ _ _ _ _ _ _ c.loop-before.invariant _ _ _ (omega arith) c.requires.table_value.0 (sym c.item_at.ensures ∙ c.in-Ok.is)
    c.put_item-line.ensures.puts)

pub returns : goal.returns
returns c = going_last _ _ _ _ _ _ _ _ _ _ _ _ c.loop-before.invariant (omega arith)
