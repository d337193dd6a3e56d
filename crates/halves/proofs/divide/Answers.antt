use Rattle.halves.proofs.DivisionLaws.{halves_quotient, halves_rest}
use Rattle.halves.proofs.divide.Goals as goal

pub returns-clause-quotient_value : goal.returns-clause-quotient_value
returns-clause-quotient_value c = halves_quotient c.args.sum.high c.args.sum.low c.args.by c.requires.0

pub returns-clause-rest_value : goal.returns-clause-rest_value
returns-clause-rest_value c = halves_rest c.args.sum.high c.args.sum.low c.args.by c.requires.0
