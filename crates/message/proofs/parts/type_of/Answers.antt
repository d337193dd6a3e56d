-- `message::parts::type_of` meets its contract: 21, 20, then by the type. Assumes nothing.
use Rattle.std.proofs.Common.{sym, ap, ◌≡◌, ◌∙◌, ℕ, List, Err}
use Rattle.answer.specs.Answer.{Answer, mapped}
use Rattle.answer.specs.declared.Refusal.{Refusal}
use Rattle.answer.proofs.Answer.{mapped_refused}
use Rattle.message.specs.Layout.{Layout, layout_of, shape_of}
use Rattle.message.specs.Message.{by_type, judging}
use Rattle.message.proofs.MessageLaws.{judging_long, judging_cut, judging_type, unknown_odd, unknown_even}
use Rattle.message.proofs.parts.type_of.Goals as goal

pub returns-then-message-gt65535-clause-message_value : goal.returns-then-message-gt65535-clause-message_value
returns-then-message-gt65535-clause-message_value c = judging_long _ c.if-message-gt65535.true ∙ ap Err (sym c.bare.ensures)

pub returns-then-message-lt2-clause-message_value : goal.returns-then-message-lt2-clause-message_value
returns-then-message-lt2-clause-message_value c = judging_cut _ c.if-message-lt2.true ∙ ap Err (sym c.bare-then-message-lt2.ensures)

-- a message that is judged by its type, which is none of the five
unknown : (m : List ℕ) (kind : ℕ) (r : Refusal) → judging m ≡ by_type kind (layout_of kind) m → Err r ≡ mapped shape_of (layout_of kind) →
    judging m ≡ by_type kind (Err r) m
unknown m kind r read e = read ∙ ap (λ (x : Answer Layout). by_type kind x m) (mapped_refused shape_of (layout_of kind) r (sym e))

pub returns-then-kind-eq1-clause-message_value : goal.returns-then-kind-eq1-clause-message_value
returns-then-kind-eq1-clause-message_value c =
    unknown c.args.message.now c.number_at-kind.result _ (rw c.number_at-kind.ensures.0 (judging_type _ c.if-message-gt65535.false c.if-message-lt2.false)) c.in-Err.ensures
    ∙ unknown_odd _ _ _ c.if-kind-eq1.true

pub returns-in-Ok-clause-message_value : goal.returns-in-Ok-clause-message_value
returns-in-Ok-clause-message_value c = rw c.number_at-kind.ensures.0 (judging_type _ c.if-message-gt65535.false c.if-message-lt2.false)

pub returns-else-kind-eq1-clause-message_value : goal.returns-else-kind-eq1-clause-message_value
returns-else-kind-eq1-clause-message_value c =
    unknown c.args.message.now c.number_at-kind.result _ (rw c.number_at-kind.ensures.0 (judging_type _ c.if-message-gt65535.false c.if-message-lt2.false)) c.in-Err.ensures
    ∙ unknown_even _ _ _ c.if-kind-eq1.false
