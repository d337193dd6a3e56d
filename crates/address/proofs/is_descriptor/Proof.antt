-- `address::is_descriptor` meets its contract: nothing, or a type and its rest. Assumes nothing.
use borrow.Author.Rules.{rules}
use mathlib.Core.Path.{sym, ◌∙◌}
use native.Mathlib.Omega.{arith}
use Rattle.laws.proofs.Lists.{part_tail}
use Rattle.address.proofs.Laws.{value_none, value_some}
use Rattle.address.proofs.is_descriptor.Statement.{statement}
use Rattle.address.proofs.is_descriptor.Tie as tie

returns : tie.Need-returns-then-value-eq0
returns c = sym (value_none _ c.if-value-eq0.true)

returns-2 : tie.Need-returns
returns-2 c =
    let s = c.before.before.before in
    rw part_tail at c.is_rest.ensures ∙ sym (value_some _ (omega (arith, s.if-value-eq0.false)))

pub is_descriptor_spec : {M : Type 1} → statement M
is_descriptor_spec = tie.close (tie.spec returns (search rules) (search rules) (search rules) (search rules) (search rules) returns-2)
