-- `message::padded_byte` meets its contract: a zero byte in front, or a byte of the map. Assumes nothing.
use borrow.Author.Rules.{rules}
use native.Mathlib.Omega.{arith}
use mathlib.Core.Path.{sym}
use Rattle.message.proofs.FeatureLaws.{padded_zero, padded_byte}
use Rattle.message.proofs.padded_byte.Statement.{statement}
use Rattle.message.proofs.padded_byte.Tie as tie

returns : tie.Need-returns-then-i-zeros
returns c = sym (padded_zero _ _ _ (omega arith))

returns-2 : tie.Need-returns
returns-2 c = sym (padded_byte _ _ _ (omega arith))

pub padded_byte_spec : {M : Type 1} → statement M
padded_byte_spec = tie.close (tie.spec (search rules) returns (search rules) returns-2)
