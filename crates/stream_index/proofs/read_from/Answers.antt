-- `stream_index::read_from` meets its contract: the judgement, the room, then the rows. Assumes nothing.
use Rattle.std.specs.Prelude.{Ok, Err}
use Rattle.std.proofs.Common.{arith, sym, ap, ◌∙◌, ◌≡◌, length}
use Rattle.answer.proofs.Answer.{handed_on, mapped_accepted, mapped_refused}
use Rattle.stream.specs.Tally.{tally}
use Rattle.stream.proofs.Judging.{judging_fine, reading_refused, reading_short, reading_fits}
use Rattle.stream_index.proofs.read_from.Goals as goal

pub returns-then-index-counts : goal.returns-then-index-counts
returns-then-index-counts c =
    let a = c.args in
    let j = mapped_accepted tally _ _ (sym c.in_ok-counts.ensures) in
    let n : length j.0 ≡ c.in_ok-counts.counts.records = ap (λ t. t.records) j.2 in
    let short = reading_short _ _ _ _ (length a.index.now) j.0 j.1 (omega (arith, c.if-index-counts.true)) in
    record { result_value = rw short (ap Err c.bare.ensures); index_after = rw short }

pub fill-requires : goal.fill-requires
fill-requires c =
    let j = mapped_accepted tally _ _ (sym c.in_ok-counts.ensures) in
    let n : length j.0 ≡ c.in_ok-counts.counts.records = ap (λ t. t.records) j.2 in
    let f = judging_fine _ _ _ _ j.0 j.1 in
    record { table_value = f.checked; bytes_value = (j.0, f.walked, omega (arith, c.if-index-counts.false)) }

pub returns-in_err-counts : goal.returns-in_err-counts
returns-in_err-counts c =
    let e = reading_refused c.args.begin c.args.table.now c.args.namespace c.args.bytes.now (length c.args.index.now) _ (mapped_refused _ _ _ (sym c.in_err-counts.ensures)) in
    record { result_value = handed_on c.from_residual.ensures.1 ∙ rw e; index_after = rw e }

pub returns : goal.returns
returns c =
    let a = c.args in
    let j = mapped_accepted tally _ _ (sym c.in_ok-counts.ensures) in
    let n : length j.0 ≡ c.in_ok-counts.counts.records = ap (λ t. t.records) j.2 in
    let fits = reading_fits _ _ _ _ (length a.index.now) j.0 j.1 (omega (arith, c.if-index-counts.false)) in
    record { result_value = rw fits (sym (ap Ok j.2)); index_after = rw fits (rw (judging_fine _ _ _ _ j.0 j.1).walked at c.fill.ensures) }
