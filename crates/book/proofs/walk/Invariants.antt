-- The whole section ends where the items left end.
use Rattle.std.proofs.Common.{◌≡◌, ◌-◌}
use Rattle.answer.specs.Answer.{mapped}
use Rattle.book.specs.Book.{end_from, items_at}
use Rattle.book.proofs.walk.Given as goal

abbrev pub invariant-loop : goal.invariant-loop
invariant-loop l =
    mapped (end_from l.begin) (items_at l.section l.count l.begin l.book) ≡ mapped (end_from l.next) (items_at l.section (l.count - l.counter) l.next l.book)
