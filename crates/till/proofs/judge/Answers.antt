-- The fields and the amount of what the plain reader accepts.
use native.Mathlib.Omega.{arith}
use mathlib.Core.Path.{◌≡◌, sym, ap, ◌∙◌}
use Prim.Native.Nat.{◌-◌}
use lib.ListN.{length, take}
use Rattle.answer.proofs.Answer.{handed_on, mapped_refused, not_refused}
use Rattle.invoice.specs.Invoice.{groups_of, summary_of}
use Rattle.invoice.proofs.GroupText.{Held, held, held_count}
use Rattle.invoice_text.specs.Text.{up_to_last_one}
use Rattle.till.proofs.Profiling.{profiles_refused, profiles_listed}
use Rattle.till.proofs.Told.{Told, told, front_groups}
use Rattle.till.proofs.judge.Goals as goal
use Rattle.till.proofs.judge.Goals.{In_ok-text_groups, In_ok-told}

-- the plain reader's answer
told_of : (k : In_ok-told) → Told k.args.text.now k.in_ok-told.told
told_of k = told _ _ (sym k.judge.ensures ∙ k.in_ok-told.was)

pub overflow_sub-begin : goal.overflow_sub-begin
overflow_sub-begin c =
    let k = (goal.at.overflow_sub-begin c).In_ok-told in
    omega (arith, (told_of k).lengths)

pub overflow_sub-begin-2 : goal.overflow_sub-begin-2
overflow_sub-begin-2 c =
    let k = (goal.at.overflow_sub-begin-2 c).In_ok-told in
    omega (arith, (told_of k).lengths)

pub slice_bounds-text_groups-count : goal.slice_bounds-text_groups-count
slice_bounds-text_groups-count c =
    let k = (goal.at.slice_bounds-text_groups-count c).In_ok-told in
    omega (arith, (told_of k).lengths)

pub slice_bounds-text_groups-start : goal.slice_bounds-text_groups-start
slice_bounds-text_groups-start c =
    let k = (goal.at.slice_bounds-text_groups-start c).In_ok-told in
    omega (arith, (told_of k).lengths)

-- the array holds all groups
pub returns-in_err-text_groups : goal.returns-in_err-text_groups
returns-in_err-text_groups c =
    let d = told_of (goal.at.returns-in_err-text_groups c).In_ok-told in
    let t = c.args.text.now in
    absurd (not_refused (held_count t (length t - 6 - c.in_ok-told.told.groups) d.short) (sym c.text_groups.ensures.result_value ∙ c.in_err-text_groups.was))

-- the array holds the groups of the data
held_of : (o : In_ok-text_groups) → Told o.args.text.now o.in_ok-told.told → Held o.args.text.now (up_to_last_one o.args.text.now) o.text_groups.new.out
held_of o d =
    let t = o.args.text.now in
    let begin : length t - 6 - o.in_ok-told.told.groups ≡ up_to_last_one t = omega (arith, d.lengths) in
    rw begin at (held t _ d.short _ o.text_groups.ensures.out_after)

-- and at its front those less the checksum
front_of : (o : In_ok-text_groups) → Told o.args.text.now o.in_ok-told.told → take o.in_ok-told.told.groups o.text_groups.new.out ≡ groups_of o.args.text.now
front_of o d = front_groups _ _ d _ (held_of o d)

pub slice_bounds-own-end : goal.slice_bounds-own-end
slice_bounds-own-end c =
    let d = told_of (goal.at.slice_bounds-own-end c).In_ok-told in
    let o = (goal.at.slice_bounds-own-end c).In_ok-text_groups in
    omega (arith, (held_of o d).room, d.lengths)

pub slice_bounds-survey-end : goal.slice_bounds-survey-end
slice_bounds-survey-end c =
    let d = told_of (goal.at.slice_bounds-survey-end c).In_ok-told in
    let o = (goal.at.slice_bounds-survey-end c).In_ok-text_groups in
    d.count ∙ sym (ap length (front_of o d))

pub survey-counts-requires : goal.survey-counts-requires
survey-counts-requires c =
    let d = told_of (goal.at.survey-counts-requires c).In_ok-told in
    let o = (goal.at.survey-counts-requires c).In_ok-text_groups in
    rw (front_of o d) (omega (arith, d.enough, d.count), omega (arith, d.count, d.lengths, d.short), d.are)

pub overflow_add-end : goal.overflow_add-end
overflow_add-end c =
    let k = (goal.at.overflow_add-end c).In_ok-told in
    omega (arith, (told_of k).inside)

pub slice_bounds-is_shortest-end : goal.slice_bounds-is_shortest-end
slice_bounds-is_shortest-end c =
    let k = (goal.at.slice_bounds-is_shortest-end c).In_ok-told in
    omega (arith, (told_of k).inside)

pub returns-in_err-told : goal.returns-in_err-told
returns-in_err-told c =
    profiles_refused _ _ _ (mapped_refused summary_of _ _ (sym c.judge.ensures ∙ c.in_err-told.was)) (handed_on c.from_residual.ensures.1)

pub returns : goal.returns
returns c =
    let d = told_of (goal.at.returns c).In_ok-told in
    let o = (goal.at.returns c).In_ok-text_groups in
    profiles_listed _ _ d _ (front_of o d) _ _ c.survey-counts.ensures c.is_shortest.ensures _ c.broken.ensures
