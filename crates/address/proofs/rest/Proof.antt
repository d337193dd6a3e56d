-- `address::rest` meets its contract: what is behind the first byte, where it lies. Assumes nothing.
use borrow.Author.Rules.{rules}
use mathlib.Core.Bool.{true}
use mathlib.Core.Path.{◌≡◌, refl, sym, ◌∙◌}
use native.Mathlib.Nat.{add_comm}
use native.Mathlib.Omega.{arith}
use Rattle.laws.proofs.Lists.{part_tail}
use Rattle.address.specs.Address.{is_descriptor}
use Rattle.address.proofs.Laws.{value_long, reading_no, reading_yes}
use Rattle.address.proofs.rest.Statement.{statement}
use Rattle.address.proofs.rest.Tie as tie

-- the value is a descriptor
described : (c : tie.Then-is_descriptor) → is_descriptor c.before.before.before.args.value.now ≡ true
described c = sym c.before.is_descriptor.ensures ∙ c.if-is_descriptor.true

sub-result : tie.Need-slice_bounds-result-count
sub-result c = omega (arith, value_long _ (described c))

part-result-start : tie.Need-slice_bounds-result-start
part-result-start c = omega (arith, value_long _ (described c))

returns : tie.Need-returns-then-is_descriptor
returns c =
    let a = c.before.before.before.before.args.value in
    rw (reading_yes _ (described c.before)) (part_tail a.now 1, rw (add_comm 1 a.ref_ptr.1) refl)

returns-2 : tie.Need-returns
returns-2 c =
    let none = reading_no _ (sym c.before.is_descriptor.ensures ∙ c.if-is_descriptor.false) in
    rw none (refl, refl)

pub rest_spec : {M : Type 1} → statement M
rest_spec = tie.close (tie.spec (search rules) sub-result part-result-start (search rules) returns (search rules) returns-2)
