-- Field by field.
use Rattle.std.specs.Prelude.{Ok}
use Rattle.std.proofs.Common.{◌≡◌, ◌+◌, ◌≤◌, ◌∷◌, [], ◌++◌, length, drop, sym, ◌∙◌, arith, length-append}
use Rattle.std.proofs.lemmas.Result.{err_from_is_err_and}
use Rattle.field.specs.Fields.{field_at, payment_hash, expiry, delta, first_of}
use Rattle.field.proofs.FieldLaws.{field_inside}
use Rattle.field.proofs.SurveyLaws.{survey_begun, met_all, met_refused, met_next, first_other}
use Rattle.field.proofs.survey.Goals as goal
use Rattle.field.proofs.survey.Goals.{In_ok-f, in-1, in-6, in-24, in_default}

pub loop-at-init : goal.loop-at-init
loop-at-init c = (omega arith, omega arith, survey_begun _)

pub returns-in_err-f : goal.returns-in_err-f
returns-in_err-f c =
    let u = c.loop-at.invariant.2 in
    let p = err_from_is_err_and c.from_residual.result c.from_residual.ensures.1 in
    rw (p.1, p.2, met_refused _ u.met _ u.all c.loop-at-test.true _ (sym c.field_at.ensures ∙ c.in_err-f.was))

-- the field at this place, which ends inside
field_there : (c : In_ok-f) → field_at (7 + c.loop-at.at) (drop c.loop-at.at c.args.middle.now) ≡ Ok c.in_ok-f.f
field_there c = sym c.field_at.ensures ∙ c.in_ok-f.was

next_at : (c : In_ok-f) → c.loop-at.at + (3 + c.in_ok-f.f.size) ≤ length c.args.middle.now
next_at c = field_inside c.args.middle.now c.loop-at.at c.loop-at-test.true _ (field_there c)

pub overflow_add-at : goal.overflow_add-at
overflow_add-at c = omega (arith, next_at (goal.at.overflow_add-at c).In_ok-f)

pub overflow_add-at-in-loop-at : goal.overflow_add-at-in-loop-at
overflow_add-at-in-loop-at c = omega (arith, next_at (goal.at.overflow_add-at-in-loop-at c).In_ok-f)

pub loop-at-preserved : goal.loop-at-preserved
loop-at-preserved c =
    let k = (goal.at.loop-at-preserved c).In_ok-f in
    let h = c.loop-at in
    let u = h.invariant.2 in
    let f = c.in_ok-f.f in
    let j = c.match-f in
    let fields = u.met ++ (f ∷ []) in
    let found : (j.payment ≡ first_of payment_hash fields) × (j.expiry ≡ first_of expiry fields) × (j.delta ≡ first_of delta fields) =
    elim j.branch [
      | in-1 w ↦ rw (w.payment-is, w.expiry-is, w.delta-is) (
        w.first_of-payment.ensures u.met u.counted u.payments,
        u.expiries ∙ sym (first_other expiry u.met f (λ e. omega (arith, e))),
        u.deltas ∙ sym (first_other delta u.met f (λ e. omega (arith, e))),
      )
      | in-6 w ↦ rw (w.payment-is, w.expiry-is, w.delta-is) (
        u.payments ∙ sym (first_other payment_hash u.met f (λ e. omega (arith, e))),
        w.first_of-expiry.ensures u.met u.counted u.expiries,
        u.deltas ∙ sym (first_other delta u.met f (λ e. omega (arith, e))),
      )
      | in-24 w ↦ rw (w.payment-is, w.expiry-is, w.delta-is) (
        u.payments ∙ sym (first_other payment_hash u.met f (λ e. omega (arith, e))),
        u.expiries ∙ sym (first_other expiry u.met f (λ e. omega (arith, e))),
        w.first_of-delta.ensures u.met u.counted u.deltas,
      )
      | in_default w ↦ rw (w.payment-is, w.expiry-is, w.delta-is) (
        u.payments ∙ sym (first_other payment_hash u.met f (λ e. omega (arith, e))),
        u.expiries ∙ sym (first_other expiry u.met f (λ e. omega (arith, e))),
        u.deltas ∙ sym (first_other delta u.met f (λ e. omega (arith, e))),
      )
    ] in (
      next_at k,
      omega arith,
      record {
        met = fields;
        all = met_next _ u.met _ u.all c.loop-at-test.true f (field_there k);
        counted = omega (arith, u.counted, length-append u.met (f ∷ []));
        payments = found.0;
        expiries = found.1;
        deltas = found.2;
      },
    )

pub returns : goal.returns
returns c =
    let u = c.loop-at.invariant.2 in
    rw (met_all c.args.middle.now u.met c.loop-at.at u.all (omega arith), u.counted, u.payments, u.expiries, u.deltas)
