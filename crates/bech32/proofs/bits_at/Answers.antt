-- The mask is the rest by a power of two.
use Rattle.std.proofs.Common.{◌/◌, ◌^◌}
use lib.Bits.{and_mask}
use Rattle.bech32.proofs.bits_at.Goals as goal

pub returns : goal.returns
returns g c = rw c.mask.ensures (and_mask (c.args.n / 2 ^ c.args.shift) g.row.WIDTH)
