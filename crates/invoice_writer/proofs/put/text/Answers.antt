-- Part by part, and the checksum of what stands there.
use native.Mathlib.Omega.{arith}
use mathlib.Core.List.{map}
use mathlib.Core.Path.{ap, ◌∙◌}
use Prim.Native.Nat.{◌+◌}
use lib.ListN.{length, length-set, length-map}
use lib.Seq.{sets}
use Rattle.letters.specs.Letters.{lower}
use Rattle.invoice_writer.specs.Writer.{groups_from}
use Rattle.invoice_writer.proofs.GroupLaws.{length_from, from_groups}
use Rattle.invoice_writer.proofs.TextLaws.{parts_lower, text_put}
use Rattle.invoice_writer.proofs.put.text.Goals as goal

pub put_groups-requires : goal.put_groups-requires
put_groups-requires c =
    (simp length-set (omega (arith, c.requires.fields_in_bounds.0, c.requires.signature_len.0, c.put_lower-2.auto.out, c.put_lower.auto.out)), c.requires.signature_len.1, c.requires.signature_len.2)

pub put_checksum-requires : goal.put_checksum-requires
put_checksum-requires c =
    (omega arith, omega (arith, c.requires.fields_in_bounds.0, c.requires.signature_len.0, simp length-set at c.put_groups.auto.out, c.put_lower-2.auto.out, c.put_lower.auto.out))

pub shape_of-out : goal.shape_of-out
shape_of-out c =
    omega (arith, c.put_checksum.auto.out, simp length-set at c.put_groups.auto.out, c.put_lower-2.auto.out, c.put_lower.auto.out)

pub returns : goal.returns
returns c =
    let a = c.args in
    let amount = map lower a.amount.now in
    let groups = groups_from a.time a.fields.now a.signature.now in
    let long = length-map a.amount.now lower in
    let count = length_from a.time a.fields.now a.signature.now in
    let end = length a.name.now + length a.amount.now in
    text_put a.out.now a.name.now amount groups _ _ _ _ end (end + 112 + length a.fields.now) (parts_lower a.name.now a.amount.now c.requires.fields_in_bounds.1)
    (from_groups a.time a.fields.now a.signature.now c.requires.signature_len.1 c.requires.signature_len.2) (omega (arith, long)) (omega (arith, count, c.requires.signature_len.0)) (omega (arith, c.requires.fields_in_bounds.0))
    (c.put_lower.ensures ∙ ap (sets a.out.now 0) c.requires.fields_in_bounds.1) c.put_lower-2.ensures c.put_groups.ensures c.put_checksum.ensures
