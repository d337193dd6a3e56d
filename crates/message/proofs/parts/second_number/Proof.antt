-- `message::parts::second_number` meets its contract: where it is not cut short. Assumes nothing.
use borrow.Author.Rules.{rules}
use native.Mathlib.Omega.{arith}
use Rattle.message.proofs.parts.second_number.Statement.{statement}
use Rattle.message.proofs.parts.second_number.Tie as tie

returns : tie.Need-returns-then-message-lt4
returns c = record { is = λ long. absurd (omega (arith, long, c.if-message-lt4.true)); bound = omega arith }

returns-2 : tie.Need-returns
returns-2 c = record { is = λ _. c.number_at.ensures.0; bound = c.number_at.ensures.1 }

pub second_number_spec : {M : Type 1} → statement M
second_number_spec = tie.close (tie.spec returns (search rules) returns-2)
