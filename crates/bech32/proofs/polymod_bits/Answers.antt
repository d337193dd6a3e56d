-- The five bits of the characters left, from the state so far.
use Rattle.std.proofs.Common.{◌/◌, ◌%◌, ◌^◌, sym, ◌∙◌}
use Rattle.letters.specs.Letters.{lower}
use Rattle.bech32.proofs.ChecksumLaws.{polymod_turn, polymod_end}
use Rattle.bech32.proofs.polymod_bits.Goals as goal

pub loop-character-preserved : goal.loop-character-preserved
loop-character-preserved c =
    let l = c.loop-character in
    rw (c.polymod_step-c.ensures, c.bits_at.ensures, c.lower.ensures)
    (polymod_turn (λ x. lower x / 2 ^ c.args.shift % 32) c.args.hrp.now l.character-index l.c c.loop-character-test.true ∙ l.invariant)

pub returns : goal.returns
returns c =
    let l = c.loop-character in
    sym (polymod_end (λ x. lower x / 2 ^ c.args.shift % 32) c.args.hrp.now l.character-index l.c c.loop-character-test.false) ∙ l.invariant
