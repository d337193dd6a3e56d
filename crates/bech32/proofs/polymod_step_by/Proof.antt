-- `bech32::polymod_step_by` meets its contract: what is chosen stands in the sums. Assumes nothing.
use Rattle.std.proofs.Common.{◌*◌, ◌/◌, ◌%◌, ◌^◌, ◌<◌, sym, arith, rules}
use lib.Bits.{bit_xor}
use Rattle.bech32.specs.Checksum.{generator, polymod_step}
use Rattle.bech32.proofs.ChecksumLaws.{raised, reduced_out}
use Rattle.bech32.proofs.polymod_step_by.Statement.{statement}
use Rattle.bech32.proofs.polymod_step_by.Tie as tie

-- five bits choose
few : (c : tie.Start) → c.args.state / 2 ^ 25 < 32
few c = omega (arith, c.requires.1)

shared-slice-read-result : tie.Need-bounds-sums-state
shared-slice-read-result c = omega (arith, few c.before, c.before.requires.0.0)

returns : tie.Need-returns
unfolding polymod_step
returns c =
    let a = c.before.args in
    let b = a.state / 2 ^ 25 in
    rw (raised a.state, c.before.requires.0.1 b (few c.before)) (sym (reduced_out generator b (bit_xor (a.state % 2 ^ 25 * 2 ^ 5) a.value)))

pub polymod_step_by_spec : {M : Type 1} → statement M
polymod_step_by_spec = tie.close (tie.spec (search rules) (search rules) shared-slice-read-result returns)
