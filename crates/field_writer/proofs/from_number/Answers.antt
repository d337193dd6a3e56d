-- All that can be refused is asked, then the head is put, and the number's groups behind it.
use Rattle.std.specs.Prelude.{Ok}
use native.Mathlib.Omega.{arith}
use mathlib.Core.Path.{refl, sym, ap, ◌∙◌}
use lib.ListN.{length}
use Rattle.answer.proofs.Answer.{handed_on, mapped_refused}
use Rattle.field_writer.specs.Field.{shortest, making_number}
use Rattle.field_writer.proofs.MakingLaws.{Measured, measured, field_put}
use Rattle.field_writer.proofs.ShortestLaws.{shortest_digits}
use Rattle.field_writer.proofs.from_number.Goals as goal
use Rattle.field_writer.proofs.from_number.Goals.{In_ok-n}

-- the field that was measured
field_of : (k : In_ok-n) →
    let a = k.args in
    Measured 12 a.kind (shortest a.number) (length a.out.now) k.in_ok-n.n
field_of k =
    measured _ _ _ _ _ (sym (k.measure.ensures _ (sym k.groups_for-size.ensures)) ∙ k.in_ok-n.was)

pub put_head-requires : goal.put_head-requires
put_head-requires c =
    let k = (goal.at.put_head-requires c).In_ok-n in
    omega (arith, (field_of k).room_for)

pub put_digits-requires : goal.put_digits-requires
put_digits-requires c =
    let k = (goal.at.put_digits-requires c).In_ok-n in
    let f = field_of k in
    let size = c.groups_for-size.ensures in
    (omega (arith, size, f.few), omega (arith, size, c.put_head.auto, f.room_for))

pub returns-in_err-n : goal.returns-in_err-n
returns-in_err-n c =
    let a = c.args in
    rw (handed_on c.from_residual.ensures.1, mapped_refused _ (making_number a.kind a.number (length a.out.now)) _ (sym (c.measure.ensures _ (sym c.groups_for-size.ensures)) ∙ c.in_err-n.was)) record { result_value = refl; out_after = refl }

pub returns : goal.returns
returns c =
    let k = (goal.at.returns c).In_ok-n in
    let a = c.args in
    let size = c.groups_for-size.ensures in
    let f = field_of k in
    rw f.fits record {
      result_value = ap Ok f.count;
      out_after =
          c.put_digits.ensures
          ∙ rw (c.put_head.ensures, size, shortest_digits a.number (omega (arith, c.ranges.number))) (field_put a.out.now (shortest a.number) a.kind f.room_for);
    }
