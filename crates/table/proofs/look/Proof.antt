-- `table::look` meets its contract: each return is one way of the definition. Assumes nothing.
use borrow.Author.Rules.{rules}
use borrow.Author.Tests.{lt-ltb, le-ltb, eq-eqb, ne_eqb}
use mathlib.Core.Path.{sym, ◌∙◌}
use Rattle.laws.proofs.Test.{pick_yes, pick_no}
use Rattle.table.specs.Search.{side_of}
use Rattle.table.proofs.look.Statement.{statement}
use Rattle.table.proofs.look.Tie as tie

returns : tie.Need-returns-then-k-kind
unfolding side_of
returns c = sym (pick_yes _ _ _ (eq-eqb _ _ c.before.if-ns-namespace.true) ∙ pick_yes _ _ _ (lt-ltb _ _ c.if-k-kind.true))

returns-2 : tie.Need-returns-then-kind-k
unfolding side_of
returns-2 c =
    let i = c.before in
    sym (pick_yes _ _ _ (eq-eqb _ _ i.before.if-ns-namespace.true) ∙ pick_no _ _ _ (le-ltb _ _ i.if-k-kind.false) ∙ pick_yes _ _ _ (lt-ltb _ _ c.if-kind-k.true))

returns-3 : tie.Need-returns-then-ns-namespace
unfolding side_of
returns-3 c =
    let i = c.before in
    sym (pick_yes _ _ _ (eq-eqb _ _ i.before.if-ns-namespace.true) ∙ pick_no _ _ _ (le-ltb _ _ i.if-k-kind.false) ∙ pick_no _ _ _ (le-ltb _ _ c.if-kind-k.false))

returns-4 : tie.Need-returns-then-ns-namespace-2
unfolding side_of
returns-4 c = sym (pick_no _ _ _ (ne_eqb _ _ c.before.if-ns-namespace.false) ∙ pick_yes _ _ _ (lt-ltb _ _ c.if-ns-namespace-2.true))

returns-5 : tie.Need-returns
unfolding side_of
returns-5 c = sym (pick_no _ _ _ (ne_eqb _ _ c.before.if-ns-namespace.false) ∙ pick_no _ _ _ (le-ltb _ _ c.if-ns-namespace-2.false))

pub look_spec : {M : Type 1} → statement M
look_spec =
    tie.close
    (tie.spec (search rules) (search rules) (search rules) (search rules) (search rules) (search rules) (search rules) returns returns-2 returns-3 returns-4
    returns-5)
