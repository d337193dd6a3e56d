-- `bech32::verify_checksum` meets its contract: polymod over the two parts, one behind the other. Assumes nothing.
use Rattle.std.proofs.Common.{ℕ, eqb, map, sym, ap, ◌∙◌, rules}
use Rattle.letters.specs.Letters.{lower}
use Rattle.bech32.specs.Alphabet.{groups_in}
use Rattle.bech32.specs.Checksum.{polymod_from}
use Rattle.bech32.proofs.ChecksumLaws.{checksum_polymod}
use Rattle.bech32.proofs.verify_checksum.Statement.{statement}
use Rattle.bech32.proofs.verify_checksum.Tie as tie

returns : tie.Need-returns
returns c =
    let a = c.before.before.before.before.args in
    let d = groups_in a.«data».now in
    ap (λ (x : ℕ). eqb x 1)
    (c.polymod_text.ensures ∙ ap (λ (x : ℕ). polymod_from x d) c.before.polymod_hrp.ensures.0 ∙ sym (checksum_polymod (map lower a.hrp.now) d))

pub verify_checksum_spec : {M : Type 1} → statement M
verify_checksum_spec = tie.close (tie.spec (search rules) (search rules) returns)
