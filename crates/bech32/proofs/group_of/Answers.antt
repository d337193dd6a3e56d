-- The group is read off its row.
use Rattle.std.proofs.Common.{◌<◌, ap, ◌∙◌, arith, lit≤, shl_exact}
use lib.Bits.{and_mask, mask_lt}
use Rattle.bech32.specs.Alphabet.{group_of}
use Rattle.bech32.proofs.AlphabetLaws.{group_row}
use Rattle.bech32.proofs.group_of.Goals as goal

pub returns : goal.returns
returns c =
    let l = c.lower-l.result in
    let below : l < 256 = omega arith in
    rw (c.bits_at.ensures, c.row_of.ensures, shl_exact 3 3 8 (mask_lt l 3) (lit≤ tt), and_mask l 3) (group_row l below ∙ ap group_of c.lower-l.ensures)
