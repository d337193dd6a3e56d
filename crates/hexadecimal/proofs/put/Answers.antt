use Rattle.std.proofs.Common.{◌*◌, ◌∙◌, get_or, sym}
use Rattle.hexadecimal.proofs.Digits.{length_digited, hex_next, hex_end, length_hex}
use Rattle.hexadecimal.proofs.put.Goals as goal

pub returns-then-out-size : goal.returns-then-out-size
returns-then-out-size c = (sym (length_hex _), c.put_cut.ensures)

pub loop-i-preserved : goal.loop-i-preserved
loop-i-preserved c =
    let l = c.loop-i in
    rw (c.digit-in-loop-i.ensures, c.digit.ensures)
    (record {
      as_long = length_digited l.out (2 * l.i) (get_or c.args.bytes.now l.i 0) ∙ l.invariant.as_long;
      so_far = hex_next c.args.bytes.now l.out _ l.i c.loop-i-test.true l.invariant.so_far;
    })

pub returns : goal.returns
returns c = (sym (length_hex c.args.bytes.now), hex_end c.args.bytes.now c.loop-i.out _ c.loop-i.i c.loop-i-test.false c.loop-i.invariant.so_far)
