-- One constant more, and all of them.
use Rattle.std.proofs.Common.{◌≡◌, ◌+◌, ◌-◌, ◌/◌, ◌%◌, ◌^◌, ◌∙◌, lt_of_lt_of_le, div-one, arith, lit≤}
use lib.Bits.{bit_and, and_le_r}
use Rattle.bech32.specs.Checksum.{generator, reduced}
use Rattle.bech32.proofs.ChecksumLaws.{generator_below, reduced_turn}
use Rattle.bech32.proofs.reduce.Goals as goal

pub loop-i-init : goal.loop-i-init
loop-i-init c = rw div-one

pub loop-i-preserved : goal.loop-i-preserved
loop-i-preserved c =
    let l = c.loop-i in
    let b = bit_and (c.args.chosen / 2 ^ l.i) 1 in
    let bit = and_le_r (c.args.chosen / 2 ^ l.i) 1 in
    let below = lt_of_lt_of_le (generator_below l.i) (lit≤ tt) in
    reduced_turn generator l.i c.args.chosen l.c ((0 + (2 ^ 32 - b)) % 2 ^ 32) c.loop-i-test.true below (omega arith) (omega (arith, bit)) ∙ l.invariant

pub returns : goal.returns
unfolding reduced
returns c =
    let e : c.loop-i.i ≡ 5 = omega arith in
    rw e at c.loop-i.invariant
