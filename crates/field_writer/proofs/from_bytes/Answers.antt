-- All that can be refused is asked, then the head is put, and the groups behind it.
use Rattle.std.specs.Prelude.{Ok}
use native.Mathlib.Omega.{arith}
use mathlib.Core.Path.{refl, sym, ap, ◌∙◌}
use lib.ListN.{length}
use Rattle.bech32.specs.Groups.{groups_of}
use Rattle.answer.specs.Answer.{mapped}
use Rattle.answer.proofs.Answer.{handed_on, mapped_refused, not_refused, fitting_fits}
use Rattle.field_writer.specs.Field.{making_bytes}
use Rattle.field_writer.proofs.MakingLaws.{Measured, measured, field_lent}
use Rattle.field_writer.proofs.from_bytes.Goals as goal
use Rattle.field_writer.proofs.from_bytes.Goals.{In_ok-n}

-- the field that was measured
field_of : (k : In_ok-n) →
    let a = k.args in
    Measured 1023 a.kind (groups_of a.bytes.now) (length a.out.now) k.in_ok-n.n
field_of k =
    measured _ _ _ _ _ (sym (k.measure.ensures _ (sym k.groups_in-size.ensures)) ∙ k.in_ok-n.was)

pub put_head-requires : goal.put_head-requires
put_head-requires c =
    let k = (goal.at.put_head-requires c).In_ok-n in
    omega (arith, (field_of k).room_for)

pub slice_bounds-groups_of-count : goal.slice_bounds-groups_of-count
slice_bounds-groups_of-count c =
    let k = (goal.at.slice_bounds-groups_of-count c).In_ok-n in
    omega (arith, c.put_head.auto, (field_of k).room_for)

pub slice_bounds-groups_of-start : goal.slice_bounds-groups_of-start
slice_bounds-groups_of-start c =
    let k = (goal.at.slice_bounds-groups_of-start c).In_ok-n in
    omega (arith, c.put_head.auto, (field_of k).room_for)

-- there is room for them
pub returns-in_err-groups_of : goal.returns-in_err-groups_of
returns-in_err-groups_of c =
    let k = (goal.at.returns-in_err-groups_of c).In_ok-n in
    let fits = fitting_fits length _ _ (groups_of c.args.bytes.now) refl (omega (arith, c.put_head.auto, (field_of k).room_for)) in
    absurd (not_refused (ap (mapped length) fits) (sym c.groups_of.ensures.result_value ∙ c.in_err-groups_of.was))

pub returns-in_err-n : goal.returns-in_err-n
returns-in_err-n c =
    let a = c.args in
    rw (handed_on c.from_residual.ensures.1, mapped_refused _ (making_bytes a.kind a.bytes.now (length a.out.now)) _ (sym (c.measure.ensures _ (sym c.groups_in-size.ensures)) ∙ c.in_err-n.was)) record { result_value = refl; out_after = refl }

pub returns : goal.returns
returns c =
    let k = (goal.at.returns c).In_ok-n in
    let a = c.args in
    let size = c.groups_in-size.ensures in
    let head = rw size at c.put_head.ensures in
    let f = field_of k in
    rw (f.fits, head) record {
      result_value = ap Ok f.count;
      out_after = field_lent a.out.now (groups_of a.bytes.now) a.kind f.room_for _ (rw head at c.groups_of.ensures.out_after);
    }
