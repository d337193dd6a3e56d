-- Question by question.
use Rattle.std.specs.Prelude.{Ok, Err}
use native.Mathlib.Omega.{arith}
use mathlib.Core.Bool.{Bool, true, false, ◌||◌}
use mathlib.Core.Path.{◌≡◌, sym, ap, ap₂, ◌∙◌}
use Prim.Native.Nat.{◌^◌, ◌<◌}
use Rattle.field.specs.Fields.{fields_of}
use Rattle.invoice.specs.Edition.{prefixed}
use Rattle.invoice_text.specs.Text.{has, is_above31}
use Rattle.answer.specs.Answer.{mapped}
use Rattle.answer.proofs.Answer.{handed_on, mapped_accepted, mapped_refused}
use Rattle.invoice_writer.specs.Private.{name_of}
use Rattle.invoice_writer.proofs.Composing.{named_is, time_refused, group_refused, prefix_refused, amount_refused, groups_left}
use Rattle.invoice_writer.proofs.judge.judge.Goals as goal
use Rattle.invoice_writer.proofs.judge.judge.Goals.{then-has-via-then-has, then-has-via-else-has+then-has-2, Else-has-2, In_ok-name, Else-time}

-- The answers so far.

early : (e : Else-time) → e.args.time < 2 ^ 35
early e = omega (arith, e.if-time.false)

none_above : (n : Else-has-2) → (has is_above31 n.args.fields.now || has is_above31 n.args.signature.now) ≡ false
none_above n = ap₂ ◌||◌ (sym n.has.ensures ∙ n.if-has.false) (sym n.has-else-has.ensures ∙ n.if-has-2.false)

is_name : (j : In_ok-name) → j.in_ok-name.name ≡ name_of j.args.prefix
is_name j = named_is _ _ (sym j.prefix_numbered.ensures ∙ j.in_ok-name.was)

named : (j : In_ok-name) → prefixed j.args.prefix ≡ Ok (name_of j.args.prefix)
named j = sym j.prefix_numbered.ensures ∙ j.in_ok-name.was ∙ ap Ok (is_name j)

pub returns-then-time : goal.returns-then-time
returns-then-time c =
    let a = c.args in
    rw (time_refused a.prefix a.amount.now a.time a.fields.now a.signature.now (omega (arith, c.if-time.true))) (ap Err c.bare.ensures)

pub returns-then-has : goal.returns-then-has
returns-then-has c =
    let k = (goal.at.returns-then-has c).Else-time in
    let a = c.args in
    let above : (has is_above31 a.fields.now || has is_above31 a.signature.now) ≡ true =
    elim c.then-has.branch [
      | then-has-via-then-has w ↦ ap (λ (b : Bool). b || has is_above31 a.signature.now) (sym c.has.ensures ∙ w.if-has.true)
      | then-has-via-else-has+then-has-2 w ↦ ap₂ ◌||◌ (sym c.has.ensures ∙ w.if-has.false) (sym w.has-else-has.ensures ∙ w.if-has-2.true)
    ] in
    rw (group_refused a.prefix a.amount.now a.time a.fields.now a.signature.now (early k) above) (ap Err c.bare-then-has.ensures)

pub returns-in_err-name : goal.returns-in_err-name
returns-in_err-name c =
    let k = (goal.at.returns-in_err-name c).Else-time in
    let k2 = (goal.at.returns-in_err-name c).Else-has-2 in
    let a = c.args in
    rw (prefix_refused a.prefix a.amount.now a.time a.fields.now a.signature.now (early k) (none_above k2) _ (sym c.prefix_numbered.ensures ∙ c.in_err-name.was))
    (handed_on c.from_residual.ensures.1)

pub returns-in_err-asked : goal.returns-in_err-asked
returns-in_err-asked c =
    let k = (goal.at.returns-in_err-asked c).Else-time in
    let k2 = (goal.at.returns-in_err-asked c).Else-has-2 in
    let k3 = (goal.at.returns-in_err-asked c).In_ok-name in
    let a = c.args in
    rw (amount_refused a.prefix a.amount.now a.time a.fields.now a.signature.now (early k) (none_above k2) (named k3) _ (sym c.asked.ensures ∙ c.in_err-asked.was))
    (handed_on c.from_residual-in_err-asked.ensures.1)

pub returns-in_err-judge : goal.returns-in_err-judge
returns-in_err-judge c =
    let k = (goal.at.returns-in_err-judge c).Else-time in
    let k2 = (goal.at.returns-in_err-judge c).Else-has-2 in
    let k3 = (goal.at.returns-in_err-judge c).In_ok-name in
    let a = c.args in
    let refused = mapped_refused fields_of _ _ (sym c.judge.ensures ∙ c.in_err-judge.was) in
    rw (groups_left a.prefix a.amount.now a.time a.fields.now a.signature.now (early k) (none_above k2) (named k3) _ (sym c.asked.ensures ∙ c.in_ok-asked.was), refused)
    (handed_on c.from_residual-in_err-judge.ensures.1)

pub returns : goal.returns
returns c =
    let k = (goal.at.returns c).Else-time in
    let k2 = (goal.at.returns c).Else-has-2 in
    let k3 = (goal.at.returns c).In_ok-name in
    let a = c.args in
    let fine = mapped_accepted fields_of _ _ (sym c.judge.ensures ∙ c.in_ok-judge.was) in
    ap Ok (is_name k3)
    ∙ sym
    (groups_left a.prefix a.amount.now a.time a.fields.now a.signature.now (early k) (none_above k2) (named k3) _ (sym c.asked.ensures ∙ c.in_ok-asked.was)
    ∙ ap (mapped (λ _. name_of a.prefix)) fine.1)
