-- One character more, and all of them.
use Rattle.std.proofs.Common.{◌||◌, refl, sym, ap, ap₂, ◌∙◌, add-one, take_all}
use Rattle.invoice_text.specs.Text.{first_where, has}
use Rattle.invoice_text.proofs.FirstWhere.{has_turn}
use Rattle.invoice_text.proofs.has.Goals as goal

pub loop-c-init : goal.loop-c-init
unfolding first_where
loop-c-init g c = refl

pub loop-c-preserved : goal.loop-c-preserved
loop-c-preserved g c =
    let l = c.loop-c in
    rw add-one (ap₂ ◌||◌ l.invariant c.holds-any.ensures ∙ sym (has_turn g.T.Test.test c.args.text.now 0 l.c-index c.loop-c-test.true))

pub returns : goal.returns
returns g c =
    let l = c.loop-c in
    l.invariant ∙ ap (has g.T.Test.test) (take_all l.c-index c.args.text.now c.loop-c-test.false)
