use Rattle.std.proofs.Common.{sym, arith}
use Rattle.book.proofs.SectionLaws.{item_cut, item_short, item_there}
use Rattle.book.proofs.item_at.Goals as goal

pub returns-then-book-lead : goal.returns-then-book-lead
returns-then-book-lead c = rw c.bare.ensures (sym (item_cut _ _ _ (omega arith)))

pub returns-then-book-lead-2 : goal.returns-then-book-lead-2
returns-then-book-lead-2 c = rw c.bare-then-book-lead-2.ensures (sym (item_cut _ _ _ (omega arith)))

pub returns-then-book-start : goal.returns-then-book-start
returns-then-book-start c =
    rw c.bare-then-book-start.ensures (sym (item_short _ _ _ c.number-size.result (omega arith) (rw c.lead-lead.ensures at c.number-size.ensures.0) (omega arith)))

pub returns : goal.returns
returns c =
    rw (c.number.ensures.0, c.lead-lead.ensures) (sym (item_there _ _ _ c.number-size.result (omega arith) (rw c.lead-lead.ensures at c.number-size.ensures.0) (omega arith)))
