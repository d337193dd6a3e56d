-- Judged, the room, then both buffers.
use Rattle.std.specs.Prelude.{Ok}
use native.Mathlib.Omega.{arith}
use mathlib.Core.List.{◌++◌, map}
use mathlib.Core.Path.{◌≡◌, refl, sym, ap, ◌∙◌}
use Prim.Native.Nat.{◌-◌, ◌≤◌}
use lib.ListN.{length, take, drop}
use Rattle.answer.proofs.Answer.{handed_on, mapped_refused, mapped_accepted}
use Rattle.laws.proofs.Lists.{sets_front}
use Rattle.letters.specs.Letters.{lower}
use Rattle.field.specs.Fields.{fields_in, numbers_of}
use Rattle.field.proofs.FieldLaws.{length_numbers}
use Rattle.invoice.specs.Invoice.{Contents, judging_parts, summary_of}
use Rattle.invoice.specs.declared.Summary.{Summary}
use Rattle.invoice.proofs.AnswerLaws.{reads_refused, reads_short, reads_short_index, reads_all}
use Rattle.invoice.proofs.GroupText.{middle_part}
use Rattle.invoice.proofs.InvoiceLaws.{parts_told}
use Rattle.invoice.proofs.read_parts.Goals as goal
use Rattle.invoice.proofs.read_parts.Goals.{In_ok-summary}

-- the invoice that was judged, and its count of fields
judged : (k : In_ok-summary) →
    let a = k.args in
    (t : Contents) × (judging_parts (map lower a.hrp.now) a.content.now ≡ Ok t) × (length t.fields ≡ k.in_ok-summary.summary.fields)
    × (summary_of t ≡ k.in_ok-summary.summary)
judged k =
    let a = mapped_accepted summary_of _ _ (sym k.judge_parts.ensures ∙ k.in_ok-summary.was) in
    (a.0, a.1, ap (λ (x : Summary). x.fields) a.2, a.2)

groups_are : (k : In_ok-summary) → (judged k).0.groups ≡ k.args.content.now
groups_are k = (parts_told _ _ (judged k).0 (judged k).1).0

-- its fields, by the groups between the time and the signature
there : (k : In_ok-summary) →
    let gs = k.args.content.now in
    fields_in (take (length gs - 104 - 7) (drop 7 gs)) ≡ Ok (judged k).0.fields
there k =
    let gs = k.args.content.now in
    ap fields_in (middle_part gs (length gs) refl) ∙ (parts_told _ _ (judged k).0 (judged k).1).1

pub returns-then-groups-size : goal.returns-then-groups-size
returns-then-groups-size c =
    let k = (goal.at.returns-then-groups-size c).In_ok-summary in
    let t = judged k in
    rw c.bare.ensures (reads_short _ _ _ t.0 t.1 (omega (arith, c.if-groups-size.true, ap length (groups_are k))))

pub returns-then-index-summary : goal.returns-then-index-summary
returns-then-index-summary c =
    let k = (goal.at.returns-then-index-summary c).In_ok-summary in
    let t = judged k in
    rw c.bare-then-index-summary.ensures
    (reads_short_index _ _ _ t.0 t.1 (omega (arith, c.if-groups-size.false, ap length (groups_are k))) (omega (arith, c.if-index-summary.true, t.2)))

pub put-requires-clause-middle_value : goal.put-requires-clause-middle_value
put-requires-clause-middle_value c =
    let k = (goal.at.put-requires-clause-middle_value c).In_ok-summary in
    let t = judged k in
    (t.0.fields, there k, omega (arith, t.2))

pub returns-in_err-summary : goal.returns-in_err-summary
returns-in_err-summary c =
    rw (handed_on c.from_residual.ensures.1) (reads_refused _ _ _ _ (mapped_refused summary_of _ _ (sym c.judge_parts.ensures ∙ c.in_err-summary.was)))

pub returns : goal.returns
returns c =
    let k = (goal.at.returns c).In_ok-summary in
    let a = c.args in
    let gs = a.content.now in
    let t = judged k in
    let room : length gs ≤ length a.groups.now = omega arith in
    let front : gs ++ drop (length gs) a.groups.now ≡ t.0.groups ++ drop (length t.0.groups) a.groups.now = rw (groups_are k) refl in
    reads_all _ _ _ t.0 t.1 (omega (arith, c.if-groups-size.false, ap length (groups_are k))) (omega (arith, c.if-index-summary.false, t.2)) _ _ _ t.3
    (c.copy.ensures.whole room ∙ front)
    (c.put.ensures t.0.fields (there k) ∙ sets_front a.index.now (numbers_of t.0.fields) (omega (arith, c.if-index-summary.false, t.2, length_numbers t.0.fields)))
