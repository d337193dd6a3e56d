-- The mended bytes, or the stream laid over the output, which the mender left as it was.
use Rattle.std.proofs.Common.{◌≡◌, length, sym, ap, ◌∙◌, arith}
use Rattle.laws.specs.Digits.{AreBytes}
use Rattle.answer.specs.Answer.{filled}
use Rattle.book_mender.proofs.Becoming.{becoming_shorter, told_mended, told_refused}
use Rattle.book_mender.proofs.put_bytes.Goals as goal

pub returns-in-Ok : goal.returns-in-Ok
returns-in-Ok c =
    let bytes : AreBytes c.args.stream.now = λ k. (c.type_inv.stream k).fits in
    let t = told_mended _ _ _ (sym c.mend.ensures.result_value ∙ c.in-Ok.is) in
    (t.0, omega (arith, t.0, becoming_shorter c.args.stream.now bytes), c.mend.ensures.out_after ∙ ap (λ x. filled x c.args.out.now) t.1)

pub returns-in-Err : goal.returns-in-Err
returns-in-Err c =
    let bytes : AreBytes c.args.stream.now = λ k. (c.type_inv.stream k).fits in
    let t = told_refused _ _ bytes c.requires _ (sym c.mend.ensures.result_value ∙ c.in-Err.is) in
    let was = c.mend.ensures.out_after ∙ ap (λ x. filled x c.args.out.now) t.1 in
    let size : c.copy.result ≡ length c.args.stream.now = omega (arith, c.copy.ensures.size, c.mend.auto.out) in
    rw t.0 (size, omega (arith, size), rw was at (c.copy.ensures.whole (omega (arith, c.mend.auto.out))))
