-- Field by field.
use Rattle.std.specs.Prelude.{Ok}
use native.Mathlib.Omega.{arith}
use mathlib.Core.List.{List}
use mathlib.Core.Path.{◌≡◌, refl, sym, ap, ◌∙◌}
use Prim.Native.Nat.{ℕ, ◌+◌, ◌-◌, ◌≤◌, ◌<◌}
use lib.ListN.{length, get_or, take, drop, length-take, length-drop}
use Rattle.field.specs.Fields.{field_at, fields_in}
use Rattle.field.proofs.FieldLaws.{field_inside, field_in}
use Rattle.invoice.proofs.GroupText.{middle_part, are_part}
use Rattle.till.proofs.Surveying.{survey_begun, survey_all, survey_refused, survey_next, survey_room, type_low}
use Rattle.till.proofs.survey.Goals as goal
use Rattle.till.proofs.survey.Goals.{In-Ok}

pub loop-at-init : goal.loop-at-init
loop-at-init c = (omega arith, survey_begun _ _)

-- the groups between the time and the signature, as they are lent
abbrev between : (groups : List ℕ) → List ℕ
between groups = take (length groups - 104 - 7) (drop 7 groups)

pub returns-in_default : goal.returns-in_default
returns-in_default c fields e =
    let g = c.args.groups.now in
    absurd (survey_refused g (between g) _ _ _ c.loop-at.invariant.1 c.loop-at-test.true _ (sym c.field_at.ensures ∙ c.in_default.is) fields (ap fields_in (middle_part g (length g) refl) ∙ e))

-- the field at this place, which ends inside and has a type of five bits
field_there : (k : In-Ok) →
    let l = k in
    field_at (7 + l.loop-at.at) (drop l.loop-at.at (between l.args.groups.now)) ≡ Ok k.in-Ok.f
field_there k = sym k.field_at.ensures ∙ k.in-Ok.is

next_at : (k : In-Ok) →
    let l = k in
    l.loop-at.at + (3 + k.in-Ok.f.size) ≤ length (between l.args.groups.now)
next_at k =
    field_inside (between k.args.groups.now) k.loop-at.at k.loop-at-test.true _ (field_there k)

kind_low : (k : In-Ok) → k.in-Ok.f.kind < 32
kind_low k =
    let g = k.args.groups.now in
    type_low (between g) k.loop-at.at _ (are_part g 7 (length g - 104 - 7) k.requires.2) (field_there k)

-- there is room for one more in each count
room_for : (k : In-Ok) →
    let h = k.loop-at in
    let kind = k.in-Ok.f.kind in
    (get_or h.judged kind 0 < 65535) × (get_or h.unclean kind 0 < 65535)
room_for k =
    let h = k.loop-at in
    let g = k.args.groups.now in
    let r = survey_room g (between g) h.at h.judged h.unclean h.invariant.1 k.loop-at-test.true _ (field_there k) (kind_low k) in
    (omega (arith, r.0, next_at k, length-take (length g - 104 - 7) (drop 7 g), k.requires.1), omega (arith, r.1, next_at k, length-take (length g - 104 - 7) (drop 7 g), k.requires.1))

pub enter-requires : goal.enter-requires
enter-requires c =
    let k = (goal.at.enter-requires c).In-Ok in
    (kind_low k, (room_for k).0)

pub is_unclean-requires : goal.is_unclean-requires
is_unclean-requires c =
    let k = (goal.at.is_unclean-requires c).In-Ok in
    let g = c.args.groups.now in
    omega (arith, (field_in (7 + c.loop-at.at) _ _ (field_there k)).0, next_at k, length-take (length g - 104 - 7) (drop 7 g), length-drop 7 g)

pub enter-requires-in-loop-at : goal.enter-requires-in-loop-at
enter-requires-in-loop-at c =
    let k = (goal.at.enter-requires-in-loop-at c).In-Ok in
    (kind_low k, (room_for k).1)

pub overflow_add-at : goal.overflow_add-at
overflow_add-at c =
    let k = (goal.at.overflow_add-at c).In-Ok in
    omega (arith, next_at k)

pub overflow_add-at-in-loop-at : goal.overflow_add-at-in-loop-at
overflow_add-at-in-loop-at c =
    let k = (goal.at.overflow_add-at-in-loop-at c).In-Ok in
    omega (arith, next_at k)

pub loop-at-smaller : goal.loop-at-smaller
loop-at-smaller c =
    let k = (goal.at.loop-at-smaller c).In-Ok in
    omega (arith, next_at k)

pub loop-at-preserved : goal.loop-at-preserved
loop-at-preserved c =
    let k = (goal.at.loop-at-preserved c).In-Ok in
    let h = c.loop-at in
    let g = c.args.groups.now in (
      next_at k,
      rw (c.enter.ensures, c.is_judged.ensures, c.enter-in-loop-at.ensures, c.is_unclean.ensures)
          (survey_next g (between g) h.at h.judged h.unclean h.invariant.1 c.loop-at-test.true _ (field_there k) (kind_low k)),
    )

pub returns : goal.returns
returns c fields e =
    let h = c.loop-at in
    let g = c.args.groups.now in
    survey_all g (between g) h.at h.judged h.unclean h.invariant.1 (omega arith) fields (ap fields_in (middle_part g (length g) refl) ∙ e)
