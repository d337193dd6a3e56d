-- `address::read` meets its contract: no descriptor, or its type and its rest. Assumes nothing.
use borrow.Author.Rules.{rules}
use mathlib.Core.Bool.{true}
use mathlib.Core.Path.{◌≡◌, refl, sym, ◌∙◌}
use native.Mathlib.Omega.{arith}
use lib.ListN.{length-drop}
use borrow.Author.Tests.{not-true, not-false}
use Rattle.address.specs.Address.{is_descriptor}
use Rattle.address.proofs.Laws.{value_long, reading_no, reading_yes}
use Rattle.address.proofs.read.Statement.{statement}
use Rattle.address.proofs.read.Tie as tie

returns : tie.Need-returns-then-not-is_descriptor
returns c =
    let d = c.before.before in
    rw (c.bare.ensures, reading_no _ (sym d.is_descriptor.ensures ∙ not-true _ c.before.if-not-is_descriptor.true-raw)) refl

-- the value is a descriptor
described : (c : tie.After-shared_slice_known-2-1) → is_descriptor c.before.before.before.before.args.value.now ≡ true
described c = sym c.before.before.is_descriptor.ensures ∙ not-false _ c.before.if-not-is_descriptor.false-raw

shared-slice-read-t6 : tie.Need-bounds-value-0
shared-slice-read-t6 c = value_long _ (described c)

sub-t8 : tie.Need-overflow_sub-result
sub-t8 c = omega (arith, value_long _ (described c))

returns-2 : tie.Need-returns
returns-2 c = rw (reading_yes _ (described c), length-drop 1 c.before.before.before.before.args.value.now) refl

pub read_spec : {M : Type 1} → statement M
read_spec = tie.close (tie.spec (search rules) (search rules) returns shared-slice-read-t6 sub-t8 returns-2)
