-- Polymod behind six groups 0, xor 1, and its six digits.
use Rattle.std.proofs.Common.{◌≡◌, ℕ, ◌++◌, map, replicate, sym, ap, ◌∙◌}
use lib.Bits.{bit_xor}
use Rattle.laws.specs.Test.{pick}
use Rattle.letters.specs.Letters.{lower}
use Rattle.bech32.specs.Alphabet.{place_in, group_of, groups_in}
use Rattle.bech32.specs.Checksum.{polymod_from, checksum, create_checksum}
use Rattle.bech32.specs.Groups.{digits}
use Rattle.bech32.proofs.ChecksumLaws.{checksum_polymod, checksum_append}
use Rattle.bech32.proofs.create_checksum.Goals as goal

pub returns : goal.returns
unfolding create_checksum group_of place_in lower pick
returns c =
    let h = map lower c.args.hrp.now in
    let d = groups_in c.args.«data».now in
    let sum : c.polymod_text.result ≡ checksum h d =
    c.polymod_text.ensures ∙ ap (λ (x : ℕ). polymod_from x d) c.polymod_hrp.ensures.0 ∙ sym (checksum_polymod h d) in
    let e : c.polymod_text-2.result ≡ checksum h (d ++ replicate 6 0) =
    c.polymod_text-2.ensures ∙ ap (λ (x : ℕ). polymod_from x (replicate 6 0)) sum ∙ sym (checksum_append h d (replicate 6 0)) in
    c.low_groups.ensures ∙ ap (λ (x : ℕ). digits 6 (bit_xor x 1)) e
