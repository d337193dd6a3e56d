-- Group by group.
use native.Mathlib.Omega.{arith}
use mathlib.Core.Path.{sym, ◌∙◌}
use Prim.Native.Nat.{◌-◌, ◌*◌, ◌/◌, ◌^◌}
use lib.Bits.{and_mask}
use lib.ListN.{length-set}
use Rattle.field_writer.proofs.MakingLaws.{digit_put, digits_put}
use Rattle.field_writer.proofs.put_digits.Goals as goal

pub loop-i-preserved : goal.loop-i-preserved
loop-i-preserved c =
    let a = c.args in
    let l = c.loop-i in (
      simp length-set l.invariant.0,
      rw (and_mask (a.number / 2 ^ (5 * (a.count - 1 - l.i))) 5) (digit_put l.out a.number a.count a.at l.i (omega arith) ∙ l.invariant.1),
    )

pub returns : goal.returns
returns c = sym (digits_put c.loop-i.out c.args.number c.args.count c.args.at c.loop-i.i (omega arith)) ∙ c.loop-i.invariant.1
