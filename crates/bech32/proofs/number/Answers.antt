-- One group more, and all of them.
use Rattle.std.proofs.Common.{refl}
use Rattle.laws.specs.Digits.{from_digits}
use Rattle.bech32.specs.Groups.{low5}
use Rattle.bech32.proofs.NumberLaws.{number_turn, number_end}
use Rattle.bech32.proofs.number.Goals as goal

pub loop-group-init : goal.loop-group-init
unfolding from_digits
loop-group-init c = refl

pub loop-group-preserved : goal.loop-group-preserved
loop-group-preserved c =
    let l = c.loop-group in
    rw c.push-n.ensures (number_turn 5 low5 c.args.groups.now l.group-index l.n c.loop-group-test.true l.invariant)

pub returns : goal.returns
returns c =
    let l = c.loop-group in
    number_end 5 low5 c.args.groups.now l.group-index l.n c.loop-group-test.false l.invariant
