use Rattle.std.specs.Prelude.{Bool, true, false, not}
use Rattle.std.proofs.Common.{◌≡◌, ◌∙◌, eqb, refl}
use mir.Val.{bool_byte}
use Rattle.laws.specs.Test.{pick}
use Rattle.piece.proofs.differ.Goals as goal

one_where_not : (b : Bool) → bool_byte (not b) ≡ pick b 0 1
unfolding pick
one_where_not true = refl
one_where_not false = refl

pub returns : goal.returns
returns c = c.from.ensures ∙ one_where_not (eqb c.args.shortest c.args.width)
