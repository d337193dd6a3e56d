-- `bech32::verify_groups` meets its contract: polymod over the two parts, one behind the other. Assumes nothing.
use Rattle.std.proofs.Common.{ℕ, eqb, map, sym, ap, ◌∙◌, rules}
use Rattle.letters.specs.Letters.{lower}
use Rattle.bech32.specs.Checksum.{polymod_from}
use Rattle.bech32.proofs.ChecksumLaws.{checksum_polymod}
use Rattle.bech32.proofs.verify_groups.Statement.{statement}
use Rattle.bech32.proofs.verify_groups.Tie as tie

polymod-groups-requires : tie.Need-polymod_groups-requires
polymod-groups-requires c κs = c.polymod_hrp.ensures.1

returns : tie.Need-returns
returns c =
    let a = c.before.before.before.before.args in
    let d = a.groups.now in
    ap (λ (x : ℕ). eqb x 1)
    (c.polymod_groups.ensures ∙ ap (λ (x : ℕ). polymod_from x d) c.before.polymod_hrp.ensures.0 ∙ sym (checksum_polymod (map lower a.hrp.now) d))

pub verify_groups_spec : {M : Type 1} → statement M
verify_groups_spec = tie.close (tie.spec (search rules) polymod-groups-requires returns)
