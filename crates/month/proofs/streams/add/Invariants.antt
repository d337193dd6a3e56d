-- `month::streams::add`'s loop: the streams that are left, added, make the whole.
use Rattle.std.specs.Prelude.{Ok}
use Rattle.std.proofs.Common.{◌≡◌, ◌-◌, List}
use Rattle.book.specs.Book.{items_at}
use Rattle.book.specs.declared.Item.{Item}
use Rattle.book.specs.declared.Section.TheVariants as Section
use Rattle.month.specs.Month.{stream_records}
use Rattle.month.specs.Private.{within}
use Rattle.month.proofs.Going.{Going}
use Rattle.pairs.specs.Rows.{enters, rows_of}
use Rattle.month.proofs.streams.add.Given as goal

abbrev pub invariant-loop : goal.invariant-loop
invariant-loop l =
    (es : List Item) × (rest : List Item) × (items_at Section.Streams l.fn.run.count l.fn.run.begin l.book ≡ Ok es) ×
    (items_at Section.Streams (l.fn.run.count - l.counter) l.next l.book ≡ Ok rest) ×
    Going (within (enters (rows_of l.fn.count l.fn.rows) (stream_records l.table l.book es))) l.rows l.held (stream_records l.table l.book rest)
