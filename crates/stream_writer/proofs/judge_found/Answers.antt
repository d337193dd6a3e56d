-- `stream_writer::judge_found` meets its contract: the judgement by what is known of the type. Assumes nothing.
use Rattle.std.proofs.Common.{ℕ, refl, sym, ap, ◌∙◌}
use Rattle.answer.specs.Answer.{Answer, mapped}
use Rattle.answer.proofs.Answer.{handed_on, then_accepted, then_refused, mapped_accepted, mapped_refused}
use Rattle.stream.proofs.Values.{judged_odd, judged_even, judged_flat, judged_stream, inside_fine}
use Rattle.stream_writer.proofs.judge_found.Goals as goal

-- whether a value is accepted
abbrev yes : Answer ℕ → Answer (Unit {0})
yes = mapped (λ _. tt)

pub returns-then-kind-eq1 : goal.returns-then-kind-eq1
returns-then-kind-eq1 c =
    let lacks = sym c.requires.found_value ∙ c.in-None.is in
    sym (ap yes (judged_odd _ _ _ _ _ _ _ lacks c.if-kind-eq1.true))

pub returns-then-form-ne5 : goal.returns-then-form-ne5
returns-then-form-ne5 c =
    let has = sym c.requires.found_value ∙ c.in-Some.is in
    c.judge.ensures ∙ sym (judged_flat _ _ _ _ _ _ _ _ _ has c.if-form-ne5.true)

pub returns-else-kind-eq1 : goal.returns-else-kind-eq1
returns-else-kind-eq1 c =
    let lacks = sym c.requires.found_value ∙ c.in-None.is in
    rw c.at.ensures (sym (ap yes (judged_even _ _ _ _ _ _ _ lacks c.if-kind-eq1.false)))

pub returns-in_err-count_inside-in-Some : goal.returns-in_err-count_inside-in-Some
returns-in_err-count_inside-in-Some c =
    let has = sym c.requires.found_value ∙ c.in-Some.is in
    let r = mapped_refused _ _ _ (sym c.in_err-count_inside-in-Some.ensures) in
    handed_on c.from_residual.ensures.1
    ∙ sym
    (ap yes
    (judged_stream _ _ _ _ _ _ _ _ _ has c.if-form-ne5.false 2 refl ∙ then_refused _ _ _ (sym (inside_fine _ _ _ c.requires.table_value) ∙ r)))

pub returns-in_ok-count_inside-in-Some : goal.returns-in_ok-count_inside-in-Some
returns-in_ok-count_inside-in-Some c =
    let has = sym c.requires.found_value ∙ c.in-Some.is in
    let rows = mapped_accepted _ _ _ (sym c.in_ok-count_inside-in-Some.ensures) in
    sym
    (ap yes
    (judged_stream _ _ _ _ _ _ _ _ _ has c.if-form-ne5.false 2 refl
    ∙ then_accepted rows.0 _ _ (sym (inside_fine _ _ _ c.requires.table_value) ∙ rows.1)))
