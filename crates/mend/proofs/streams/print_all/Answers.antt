-- A stream that was found lies in the book.
use Rattle.std.proofs.Common.{sym, ◌∙◌, arith}
use Rattle.book.proofs.SectionLaws.{item_inside}
use Rattle.mend.proofs.streams.print_all.Goals as goal

pub overflow_add-next : goal.overflow_add-next
overflow_add-next g c = omega (arith, (item_inside _ _ _ _ (sym c.item_at.ensures ∙ c.in-Ok.is)).ends, c.well_formed)

pub slice_bounds-print_one-end : goal.slice_bounds-print_one-end
slice_bounds-print_one-end g c = omega (arith, (item_inside _ _ _ _ (sym c.item_at.ensures ∙ c.in-Ok.is)).ends)
