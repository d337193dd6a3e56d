use Rattle.std.proofs.Common.{sym, ap, ◌∙◌, arith}
use Rattle.std.specs.Prelude.{Some}
use Rattle.halves.proofs.Laws.{halves_value, thousandths_whole, thousandths_not}
use Rattle.halves.proofs.thousandth_of.Goals as goal

pub returns-then-parts-ne0 : goal.returns-then-parts-ne0
returns-then-parts-ne0 c = rw (thousandths_not _ (λ z. c.if-parts-ne0.true (c.divide-parts.ensures.rest_value ∙ z)))

pub returns : goal.returns
returns c =
    rw (thousandths_whole _ (sym c.divide-parts.ensures.rest_value ∙ c.if-parts-ne0.false), ← c.divide-parts.ensures.quotient_value)
    (ap Some (sym (halves_value c.divide-parts.result.quotient (omega arith) (omega arith))))
