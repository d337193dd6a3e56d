-- `month::invoices::add`'s loop: the invoices that are left, added, make the whole.
use Rattle.std.specs.Prelude.{Ok}
use Rattle.std.proofs.Common.{◌≡◌, ◌-◌, List}
use Rattle.book.specs.Book.{items_at}
use Rattle.book.specs.declared.Item.{Item}
use Rattle.book.specs.declared.Section.TheVariants as Section
use Rattle.month.specs.Month.{invoice_amounts, pays}
use Rattle.month.proofs.invoices.add.Given as goal

abbrev pub invariant-loop : goal.invariant-loop
invariant-loop l =
    (rest : List Item) × (items_at Section.Invoices (l.fn.run.count - l.counter) l.next l.book ≡ Ok rest) ×
    ((es : List Item) → items_at Section.Invoices l.fn.run.count l.fn.run.begin l.book ≡ Ok es →
    pays l.paid (invoice_amounts l.book rest) ≡ pays l.fn.earlier (invoice_amounts l.book es))
