-- `bech32::polymod_step` meets its contract: the shift of the low 25 bits loses none. Assumes nothing.
use Rattle.std.proofs.Common.{ℕ, ◌/◌, ◌^◌, ap, ◌∙◌, rules}
use lib.Bits.{bit_xor}
use Rattle.bech32.specs.Checksum.{generator, reduced, polymod_step}
use Rattle.bech32.proofs.ChecksumLaws.{raised}
use Rattle.bech32.proofs.polymod_step.Statement.{statement}
use Rattle.bech32.proofs.polymod_step.Tie as tie

returns : tie.Need-returns
unfolding polymod_step
returns c =
    let a = c.before.args in
    c.reduce.ensures ∙ ap (λ (x : ℕ). reduced generator (a.state / 2 ^ 25) (bit_xor x a.value)) (raised a.state)

pub polymod_step_spec : {M : Type 1} → statement M
polymod_step_spec = tie.close (tie.spec (search rules) returns)
