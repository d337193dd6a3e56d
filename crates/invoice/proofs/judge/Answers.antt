-- The text in two parts, then these.
use Rattle.std.specs.Prelude.{Ok}
use native.Mathlib.Omega.{arith}
use mathlib.Core.Path.{◌≡◌, sym, ◌∙◌}
use Prim.Native.Nat.{◌-◌}
use lib.ListN.{length, length-take}
use lib.Seq.{length-take-le}
use Rattle.answer.proofs.Answer.{handed_on, mapped_refused, not_refused}
use Rattle.invoice_text.specs.Text.{up_to_last_one, parting}
use Rattle.invoice_text.proofs.TextLaws.{Parted, parted_begin, spelling_refused}
use Rattle.invoice.proofs.GroupText.{Held, held, held_count}
use Rattle.invoice.proofs.InvoiceLaws.{judging_data_is, judging_refused}
use Rattle.invoice.proofs.judge.Goals as goal
use Rattle.invoice.proofs.judge.Goals.{In_ok-begin, In_ok-size}

-- where the data begins, and what the text is
parted_of : (k : In_ok-begin) →
    let t = k.args.text.now in
    (parting t ≡ Ok tt) × (k.in_ok-begin.begin ≡ up_to_last_one t) × Parted t
parted_of k = parted_begin _ _ (sym k.parted.ensures ∙ k.in_ok-begin.was)

pub returns-in_err-begin : goal.returns-in_err-begin
returns-in_err-begin c =
    let e = mapped_refused _ _ _ (sym c.parted.ensures ∙ c.in_err-begin.was) in
    rw (judging_refused _ _ (spelling_refused _ _ e)) (handed_on c.from_residual.ensures.1)

pub slice_bounds-text_groups-count : goal.slice_bounds-text_groups-count
slice_bounds-text_groups-count c =
    let p = parted_of (goal.at.slice_bounds-text_groups-count c).In_ok-begin in
    omega (arith, p.1, p.2.enough)

pub slice_bounds-text_groups-start : goal.slice_bounds-text_groups-start
slice_bounds-text_groups-start c =
    let p = parted_of (goal.at.slice_bounds-text_groups-start c).In_ok-begin in
    omega (arith, p.1, p.2.enough)

-- the array holds all groups
pub returns-in_err-size : goal.returns-in_err-size
returns-in_err-size c =
    let p = parted_of (goal.at.returns-in_err-size c).In_ok-begin in
    absurd (not_refused (held_count c.args.text.now c.in_ok-begin.begin p.2.short) (sym c.text_groups.ensures.result_value ∙ c.in_err-size.was))

pub slice_bounds-judge_data-count : goal.slice_bounds-judge_data-count
slice_bounds-judge_data-count c =
    let p = parted_of (goal.at.slice_bounds-judge_data-count c).In_ok-begin in
    omega (arith, p.1, p.2.separator)

pub slice_bounds-judge_data-length : goal.slice_bounds-judge_data-length
slice_bounds-judge_data-length c =
    let p = parted_of (goal.at.slice_bounds-judge_data-length c).In_ok-begin in
    sym (length-take-le _ _ (omega (arith, p.1, p.2.enough)))

-- which are the data's
held_of : (o : In_ok-size) → Parted o.args.text.now → Held o.args.text.now o.in_ok-begin.begin o.text_groups.new.out
held_of o p = held _ _ p.short _ o.text_groups.ensures.out_after

count_of : (o : In_ok-size) → Parted o.args.text.now → o.in_ok-size.size ≡ length o.args.text.now - o.in_ok-begin.begin
count_of o p = cc (sym o.in_ok-size.was ∙ o.text_groups.ensures.result_value ∙ held_count o.args.text.now o.in_ok-begin.begin p.short)

pub judge_data-requires : goal.judge_data-requires
judge_data-requires c =
    let p = parted_of (goal.at.judge_data-requires c).In_ok-begin in
    let o = (goal.at.judge_data-requires c).In_ok-size in
    let h = held_of o p.2 in
    rw (count_of o p.2) (
      omega (arith, h.long, p.1, p.2.enough),
      omega (arith, h.long, p.1, p.2.enough, p.2.short, length-take (c.in_ok-begin.begin - 1) c.args.text.now),
    )

pub returns : goal.returns
returns c =
    let p = parted_of (goal.at.returns c).In_ok-begin in
    let o = (goal.at.returns c).In_ok-size in
    rw (judging_data_is _ p.0) (rw (count_of o p.2, (held_of o p.2).are, p.1) at c.judge_data.ensures)
