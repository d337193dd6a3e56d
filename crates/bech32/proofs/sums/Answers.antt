-- What five bits more choose is put in its place.
use Rattle.std.proofs.Common.{arith, length-set, get_or-set_other, get_or-set_same, below_more, ◌∙◌}
use Rattle.bech32.proofs.sums.Goals as goal

pub loop-chosen-preserved : goal.loop-chosen-preserved
loop-chosen-preserved c =
    let l = c.loop-chosen in
    let x = c.reduce.result in (
      length-set l.sums l.chosen x ∙ l.invariant.0,
      below_more _ _
          (λ b h. get_or-set_other l.sums l.chosen b x 0 (λ e. omega arith) ∙ l.invariant.1 b h)
          (get_or-set_same l.sums l.chosen x 0 (omega (arith, l.invariant.0)) ∙ c.reduce.ensures),
    )
