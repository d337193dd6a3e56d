-- `table::find` meets its contract: no row to look at, or one look and what the halving behind it tells. Assumes nothing.
use borrow.Author.Rules.{rules}
use native.Mathlib.Omega.{arith}
use mathlib.Core.Path.{sym, ap, ◌∙◌}
use Rattle.table.specs.Search.{turned, counted}
use Rattle.table.specs.declared.Side.TheVariants as Side
use Rattle.table.proofs.Searching.{searching_none, searching_look}
use Rattle.table.proofs.find.Statement.{statement}
use Rattle.table.proofs.find.Tie as tie

returns : tie.Need-returns-then-table-from
returns c = sym (ap counted (searching_none _ _ _ _ c.if-table-from.true))

returns-2 : tie.Need-returns-in-Here
unfolding turned
returns-2 c =
    let m = c.before in
    rw c.row_of.ensures (sym (ap counted (searching_look _ _ _ _ Side.Here (omega arith) (sym m.look.ensures ∙ m.in-Here.is))))

returns-3 : tie.Need-returns-in-Before
unfolding turned
returns-3 c =
    let m = c.before in
    c.halve.ensures ∙ sym (ap counted (searching_look _ _ _ _ Side.Before (omega arith) (sym m.look.ensures ∙ m.in-Before.is)))

returns-4 : tie.Need-returns-in-Behind
unfolding turned
returns-4 c = sym (ap counted (searching_look _ _ _ _ Side.Behind (omega arith) (sym c.look.ensures ∙ c.in-Behind.is)))

pub find_spec : {M : Type 1} → statement M
find_spec = tie.close (tie.spec returns (search rules) (search rules) (search rules) (search rules) (search rules) (search rules) (search rules) returns-2 returns-3 returns-4)
