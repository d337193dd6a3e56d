-- The digits stand at the end of the text; they fit, or they do not.
use Rattle.std.specs.Prelude.{Ok, Err}
use Rattle.std.proofs.Common.{◌≡◌, ◌-◌, length, sym, refl, ap, arith}
use Rattle.halves.proofs.DigitLaws.{end_length, end_part}
use Rattle.halves.proofs.Laws.{writing_fits, writing_short}
use Rattle.halves.specs.Halves.{value, decimal}
use Rattle.halves.proofs.write.Goals as goal

pub returns-then-out-n : goal.returns-then-out-n
returns-then-out-n c =
    let size = end_length 39 _ _ _ c.spell-at.result c.spell-at.ensures.text_after c.spell-at.auto.text (omega arith) in
    rw (writing_short (value c.args.sum) (length c.args.out.now) (omega (arith, size)))
    (record { result_value = ap Err c.bare.ensures; out_after = refl })

pub returns : goal.returns
returns c =
    let w = decimal (value c.args.sum) in
    let size : length w ≡ 39 - c.spell-at.result = end_length 39 _ _ _ c.spell-at.result c.spell-at.ensures.text_after c.spell-at.auto.text (omega arith) in
    let part = end_part 39 _ _ _ c.spell-at.result c.spell-at.ensures.text_after c.spell-at.auto.text (omega arith) in
    rw (writing_fits (value c.args.sum) (length c.args.out.now) (omega (arith, size)))
    (record { result_value = ap Ok (sym size); out_after = rw part at (c.copy.ensures.whole (rw part (omega (arith, size)))) })
