-- Nothing, the type alone, or the type and its rest. Assumes nothing.
use Rattle.std.proofs.Common.{arith, length-drop}
use Rattle.hexadecimal.proofs.Digits.{length_hex}
use Rattle.laws.proofs.Lists.{part_tail}
use Rattle.report_lines.proofs.LineLaws.{address_rest}
use Rattle.report_lines.proofs.Putting.{puts_then, tail_sets}
use Rattle.report_lines.proofs.put_descriptor.Goals as goal

pub overflow_add-result : goal.overflow_add-result
overflow_add-result c =
    let size = rw (part_tail, length_hex, length-drop) at c.put.ensures.0 in
    omega (arith, size, c.put_byte-begin.ensures.ends, c.put_worded-typed.ensures.1, c.requires)

pub returns : goal.returns
returns c =
    let v = c.args.value.now in
    let put = rw part_tail at c.put.ensures in
    rw (address_rest v (omega (arith, c.if-value-eq1.false, c.if-value-eq0.false)))
    (puts_then c.put_worded-typed.ensures.0 (puts_then c.put_byte-begin.ensures (tail_sets _ _ _ _ _ _ c.tail_from-from.ensures put.0 put.1)))
