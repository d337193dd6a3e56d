-- The streams that are put and those left are all of them.
use Rattle.std.specs.Prelude.{Ok}
use Rattle.std.proofs.Common.{◌≡◌, ◌-◌, List}
use Rattle.book.specs.Book.{items_at}
use Rattle.book.specs.declared.Item.{Item}
use Rattle.book.specs.declared.Section.TheVariants as Section
use Rattle.book_mender.proofs.Going.{Going}
use Rattle.book_mender.proofs.put_streams.Given as goal

abbrev pub invariant-loop : goal.invariant-loop
invariant-loop l =
    (es : List Item) × (items_at Section.Streams l.fn.streams.count l.fn.streams.begin l.book ≡ Ok es)
    × Going l.book l.fn.streams.begin es l.fn.new l.new l.next l.at (l.fn.streams.count - l.counter)
