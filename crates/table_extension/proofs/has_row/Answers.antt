-- `table_extension::has_row` meets its contract: a row of that form, of another form, and no row. Assumes nothing.
use Rattle.std.specs.Prelude.{Ok}
use Rattle.std.proofs.Common.{arith, sym, ap, ◌∙◌, ◌≡◌, ℕ, List}
use borrow.Author.Tests.{eq-eqb, ne_eqb}
use Rattle.table_extension.specs.Extension.{known_as}
use Rattle.table.specs.Search.{searching, counted}
use Rattle.table.specs.declared.Search.{Search}
use Rattle.table.specs.Table.{checking, lookup}
use Rattle.table.proofs.Cursor.{cursor_start, cursor_found}
use Rattle.table_extension.proofs.has_row.Goals as goal

-- what is found is what the table knows
found_is : (table : List ℕ) (namespace kind : ℕ) (s : Search) → checking table ≡ Ok tt → s ≡ counted (searching table 0 namespace kind) →
    s.found ≡ lookup table namespace kind
found_is table namespace kind s fine is =
    ap (λ (t : Search). t.found) is ∙ cursor_found table namespace 0 0 (cursor_start table namespace) kind (omega arith) fine

pub returns-then-known-form : goal.returns-then-known-form
unfolding known_as
returns-then-known-form c =
    let a = c.args in
    rw (sym (found_is a.table.now a.namespace a.kind _ c.requires c.find-found.ensures) ∙ c.in-Some.is, eq-eqb _ _ c.if-known-form.true)

pub returns-else-known-form : goal.returns-else-known-form
unfolding known_as
returns-else-known-form c =
    let a = c.args in
    rw (sym (found_is a.table.now a.namespace a.kind _ c.requires c.find-found.ensures) ∙ c.in-Some.is, ne_eqb _ _ c.if-known-form.false)

pub returns-in-None : goal.returns-in-None
unfolding known_as
returns-in-None c =
    let a = c.args in
    rw (sym (found_is a.table.now a.namespace a.kind _ c.requires c.find-found.ensures) ∙ c.in-None.is)
