use Rattle.std.proofs.Common.{◌≡◌, ◌*◌, ◌∙◌, get_or}
use Rattle.hexadecimal.proofs.Digits.{digited, length_digited, hex_next, hex_end}
use Rattle.hexadecimal.proofs.put_cut.Goals as goal

pub loop-i-preserved : goal.loop-i-preserved
loop-i-preserved c =
    let l = c.loop-i in
    let byte = get_or c.args.bytes.now l.i 0 in
    let two : c.put_digit-in-loop-i.new.out ≡ digited l.out (2 * l.i) byte = c.put_digit-in-loop-i.ensures ∙ rw c.put_digit.ensures in
    rw two
    (record { as_long = length_digited l.out (2 * l.i) byte ∙ l.invariant.as_long; so_far = hex_next c.args.bytes.now l.out _ l.i c.loop-i-test.true l.invariant.so_far })

pub returns : goal.returns
returns c = hex_end c.args.bytes.now c.loop-i.out _ c.loop-i.i c.loop-i-test.false c.loop-i.invariant.so_far
