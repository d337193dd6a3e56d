-- `bech32::polymod_hrp` meets its contract: the high bits, 0, the low bits. Assumes nothing.
use Rattle.std.proofs.Common.{map, sym, arith, lit<, rules}
use Rattle.laws.specs.Digits.{AreBytes}
use Rattle.letters.specs.Letters.{lower}
use Rattle.bech32.specs.Groups.{low5}
use Rattle.bech32.proofs.ChecksumLaws.{polymod_hrp, high_bits, low_bits, step_below, polymod_below}
use Rattle.bech32.proofs.polymod_hrp.Statement.{statement}
use Rattle.bech32.proofs.polymod_hrp.Tie as tie

returns : tie.Need-returns
returns c =
    let high = c.before.before in
    let s = high.before.before.args.hrp.now in
    let bytes : AreBytes s = λ k. (high.before.shared_slice_known-1.given k).fits in
    rw (
      c.polymod_bits.ensures,
      c.before.polymod_step.ensures,
      high.polymod_bits-high.ensures,
      high_bits s bytes,
      low_bits s,
    )
    (sym (polymod_hrp (map lower s)), polymod_below low5 (λ v. omega arith) (map lower s) _ (step_below _ 0 (lit< tt)))

pub polymod_hrp_spec : {M : Type 1} → statement M
polymod_hrp_spec = tie.close (tie.spec (search rules) (search rules) (search rules) returns)
