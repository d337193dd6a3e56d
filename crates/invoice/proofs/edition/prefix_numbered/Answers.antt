-- Number by number.
use native.Mathlib.Omega.{arith}
use mathlib.Core.Path.{sym}
use Rattle.laws.proofs.Test.{by_order}
use Rattle.answer.specs.Answer.{ensure, ◌>>=◌}
use Rattle.invoice.specs.Edition.{prefixed}
use Rattle.invoice.proofs.EditionLaws.{prefixed_zero, prefixed_over}
use Rattle.invoice.proofs.edition.prefix_numbered.Goals as goal

pub returns-in-1 : goal.returns-in-1
unfolding prefixed ensure ◌>>=◌
returns-in-1 c = rw c.in-1.is

pub returns-in-2 : goal.returns-in-2
unfolding prefixed ensure ◌>>=◌
returns-in-2 c = rw c.in-2.is

-- any other number
pub returns-in_default : goal.returns-in_default
returns-in_default c =
    let n = c.args.number in
    rw c.bare.ensures
    (sym
    (by_order n 1 (prefixed_zero n) λ h.
    by_order 2 n (prefixed_over n) λ k.
    by_order n 2 (λ l. absurd (omega arith)) λ l. absurd (omega arith)))
