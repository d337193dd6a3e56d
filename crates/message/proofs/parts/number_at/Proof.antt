-- `message::parts::number_at` meets its contract: the first byte weighs 256. Assumes nothing.
use borrow.Author.Rules.{rules}
use mathlib.Core.Path.{sym}
use native.Mathlib.Omega.{arith}
use Prim.Native.Nat.{◌+◌}
use Rattle.message.proofs.PartLaws.{number_is}
use Rattle.message.proofs.parts.number_at.Statement.{statement}
use Rattle.message.proofs.parts.number_at.Tie as tie

cast-result : tie.Need-overflow_cast-result
cast-result c = omega (arith, c.shared_slice_known-1.given c.args.at)

mul-result : tie.Need-overflow_mul-result
mul-result c = omega (arith, c.shared_slice_known-1.given c.args.at)

cast-result-2 : tie.Need-overflow_cast-result-2
cast-result-2 c = omega (arith, c.shared_slice_known-1.given (c.args.at + 1))

add-result-2 : tie.Need-overflow_add-result-2
add-result-2 c =
    omega (arith, c.shared_slice_known-1.given c.args.at, c.shared_slice_known-1.given (c.args.at + 1))

returns : tie.Need-returns
returns c =
    let a = c.args in (
      sym (number_is a.at a.message.now c.requires),
      omega (arith, c.shared_slice_known-1.given a.at, c.shared_slice_known-1.given (a.at + 1)),
    )

pub number_at_spec : {M : Type 1} → statement M
number_at_spec = tie.close (tie.spec (search rules) cast-result mul-result (search rules) (search rules) cast-result-2 add-result-2 returns)
