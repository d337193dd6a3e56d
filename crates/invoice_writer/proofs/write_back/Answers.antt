-- What was read is written.
use Rattle.std.specs.Prelude.{Ok}
use native.Mathlib.Omega.{arith}
use mathlib.Core.Path.{◌≡◌, refl, sym, ap, ap₂, ◌∙◌}
use Prim.Native.Nat.{◌≤◌}
use lib.ListN.{length, take, drop, length-append}
use lib.Seq.{length-take-le, take-append_seam}
use Rattle.field.specs.Fields.{numbers_of}
use Rattle.invoice.specs.Invoice.{Contents, reading, summary_of}
use Rattle.answer.proofs.Answer.{handed_on, mapped_refused, mapped_accepted}
use Rattle.answer.specs.Answer.{Answer, mapped, filled}
use Rattle.invoice.proofs.Accepted.{read_judged}
use Rattle.invoice_writer.proofs.BackLaws.{back_refused, back_read, back_short, summary_groups}
use Rattle.invoice_writer.proofs.write_back.Goals as goal
use Rattle.invoice_writer.proofs.write_back.Goals.{After-read, In_ok-s}

pub returns-then-out-text : goal.returns-then-out-text
returns-then-out-text c =
    let a = c.args in
    back_short a.text.now a.groups.now a.index.now a.out.now c.if-out-text.true _ c.unwritten.ensures

-- the definition's answer behind what was read
read : (k : In_ok-s) →
    let a = k.args in
    (told : Contents) × (reading a.text.now (length a.groups.now) (length a.index.now) ≡ Ok told) × (summary_of told ≡ k.in_ok-s.s)
read k =
    mapped_accepted summary_of _ _ (sym k.read.ensures.answers ∙ k.in_ok-s.was)

-- what the reader left in the buffers, by the definition's answer
left_groups : (d : After-read) →
    let a = d.args in
    (x : Answer Contents) → reading a.text.now (length a.groups.now) (length a.index.now) ≡ x →
    d.read.new.groups ≡ filled (mapped (λ c. c.groups) x) a.groups.now
left_groups d x e =
    let a = d.args in
    d.read.ensures.fills_groups ∙ ap (λ (y : Answer Contents). filled (mapped (λ c. c.groups) y) a.groups.now) e

left_index : (d : After-read) →
    let a = d.args in
    (x : Answer Contents) → reading a.text.now (length a.groups.now) (length a.index.now) ≡ x →
    d.read.new.index ≡ filled (mapped (λ c. numbers_of c.fields) x) a.index.now
left_index d x e =
    let a = d.args in
    d.read.ensures.fills_index ∙ ap (λ (y : Answer Contents). filled (mapped (λ c. numbers_of c.fields) y) a.index.now) e

-- the groups at the front of the buffer
front : (k : In_ok-s) →
    let n = k.in_ok-s.s.groups in
    let filled-groups = k.read.new.groups in
    (n ≤ length filled-groups) × (take n filled-groups ≡ (read k).0.groups)
front k =
    let a = k.args in
    let r = read k in
    let gs = r.0.groups in
    let j = read_judged a.text.now (length a.groups.now) (length a.index.now) r.0 r.1 in
    let e = k.read.ensures.fills_groups ∙ ap (λ (y : Answer Contents). filled (mapped (λ c. c.groups) y) a.groups.now) r.1 in
    let n = summary_groups a.text.now gs k.in_ok-s.s r.0 j.0 r.2 refl in
    (omega (arith, n, ap length e, length-append gs (drop (length gs) a.groups.now)), ap₂ take n e ∙ take-append_seam gs (drop (length gs) a.groups.now))

pub slice_bounds-write_summary-end : goal.slice_bounds-write_summary-end
slice_bounds-write_summary-end c =
    let k = (goal.at.slice_bounds-write_summary-end c).In_ok-s in
    (front k).0

pub slice_bounds-write_summary-end-2 : goal.slice_bounds-write_summary-end-2
slice_bounds-write_summary-end-2 c =
    let k = (goal.at.slice_bounds-write_summary-end-2 c).In_ok-s in
    sym (length-take-le _ _ (front k).0)

pub write_summary-requires : goal.write_summary-requires
write_summary-requires c =
    let k = (goal.at.write_summary-requires c).In_ok-s in
    let a = c.args in
    let r = read k in
    let j = read_judged a.text.now (length a.groups.now) (length a.index.now) r.0 r.1 in
    record { text_value = (r.0, j.0, r.2, (front k).1); text_in_bounds = omega arith }

pub returns-in_err-s : goal.returns-in_err-s
returns-in_err-s c =
    let k = (goal.at.returns-in_err-s c).After-read in
    let a = c.args in
    let e = mapped_refused summary_of (reading a.text.now (length a.groups.now) (length a.index.now)) _ (sym c.read.ensures.answers ∙ c.in_err-s.was) in
    rw (handed_on c.from_residual.ensures.1) (back_refused a.text.now a.groups.now a.index.now a.out.now _ e _ _ (left_groups k _ e) (left_index k _ e))

pub returns : goal.returns
returns c =
    let k = (goal.at.returns c).In_ok-s in
    let k2 = (goal.at.returns c).After-read in
    let a = c.args in
    let r = read k in
    back_read a.text.now a.groups.now a.index.now a.out.now r.0 r.1 (omega (arith, c.if-out-text.false)) _ _ _ _ c.write_summary.ensures.result_value
    (left_groups k2 _ r.1) (left_index k2 _ r.1) c.write_summary.ensures.out_after
