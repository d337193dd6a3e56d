-- What is shifted out of the 64 bits is lost.
use Rattle.std.proofs.Common.{ℕ, ◌+◌, ◌-◌, ◌*◌, ◌%◌, ◌^◌, ap, ◌∙◌, arith}
use lib.Bits.{and_mask, mask_lt, bit_and}
use Rattle.bech32.proofs.NumberLaws.{pushed}
use Rattle.bech32.proofs.push.Goals as goal

pub returns : goal.returns
returns g c =
    let w = g.row.WIDTH in
    let n = c.args.n in
    let d = c.args.digit in
    rw (c.mask.ensures, c.from.ensures) (pushed w n (bit_and d (2 ^ w - 1)) (omega arith) (mask_lt d w) ∙ ap (λ (x : ℕ). (n * 2 ^ w + x) % 2 ^ 64) (and_mask d w))
