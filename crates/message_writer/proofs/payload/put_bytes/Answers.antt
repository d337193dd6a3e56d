-- `message_writer::payload::put_bytes` meets its contract: the bytes lie over the front of the lent tail. Assumes nothing.
use Rattle.std.proofs.Common.{arith, refl, ◌-◌, length, drop, length-drop}
use lib.ListN.{length-take}
use Rattle.stream_writer.proofs.RowLaws.{bytes_put}
use Rattle.message_writer.proofs.payload.put_bytes.Goals as goal

pub returns : goal.returns
returns c =
    let l = c.args.out.now in
    let at = c.args.at in (
      refl,
      bytes_put l _ c.args.part.now at c.requires
          (c.copy.ensures.whole (omega (arith, c.requires, length-take (length l - at) (drop at l), length-drop at l))),
    )
