-- 12, or the front of the stream.
use Rattle.std.specs.Prelude.{Ok}
use Rattle.std.proofs.Common.{length, refl, ap, arith}
use Rattle.std.proofs.Math.Seq.{length-take-le}
use Rattle.laws.specs.Digits.{AreBytes}
use Rattle.mending.proofs.Answers.{mend_short, mend_done, rising_agrees}
use Rattle.mender.proofs.Answers.{right_bytes, right_length, right_told}
use Rattle.mender.proofs.mend_right.Goals as goal

pub returns-then-out-end : goal.returns-then-out-end
returns-then-out-end c =
    let bytes : AreBytes c.args.stream.now = λ k. (c.type_inv.stream k).fits in
    let agree = rising_agrees c.args.stream.now c.requires.0 (c.requires.1.right c.requires.2).0 in
    let all = right_length c.args.stream.now _ c.requires.1 bytes c.requires.2 in
    rw (mend_short c.args.stream.now c.requires.0 agree (length c.args.out.now) (omega (arith, all, c.if-out-end.true)), c.bare.ensures)
    (record { result_value = refl; out_after = refl })

pub returns : goal.returns
returns c =
    let bytes : AreBytes c.args.stream.now = λ k. (c.type_inv.stream k).fits in
    let agree = rising_agrees c.args.stream.now c.requires.0 (c.requires.1.right c.requires.2).0 in
    let all = right_length c.args.stream.now _ c.requires.1 bytes c.requires.2 in
    let same = right_bytes c.args.stream.now _ c.requires.1 bytes c.requires.2 in
    let fits = length-take-le c.args.seen.end c.args.stream.now c.requires.1.inside in
    rw (mend_done c.args.stream.now c.requires.0 agree (length c.args.out.now) (omega (arith, all, c.if-out-end.false)))
    (record {
      result_value = ap Ok (right_told c.args.stream.now _ c.requires.1 bytes c.requires.2);
      out_after = rw (← same) at (c.copy.ensures.whole (omega (arith, fits, c.if-out-end.false)));
    })
