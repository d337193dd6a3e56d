-- `stream_writer::write_back` meets its contract: the reading, the room for all, then the round trip. Assumes nothing.
use Rattle.std.specs.Prelude.{Err}
use Rattle.std.proofs.Common.{arith, refl, sym, ap, ◌≡◌, length}
use Rattle.laws.specs.Digits.{AreBytes}
use Rattle.answer.proofs.Answer.{handed_on, not_refused, mapped_accepted, mapped_refused}
use Rattle.stream.specs.Tally.{tally}
use Rattle.stream.proofs.Judging.{reading_refused, reading_short, reading_fits}
use Rattle.stream_writer.proofs.BackLaws.{triples_filled, triples_taken, back_refused, back_triples, back_out, back_fits}
use Rattle.stream_writer.proofs.RoundTrip.{read_is_written}
use Rattle.stream_writer.proofs.write_back.Goals as goal

pub returns-in_err-counts : goal.returns-in_err-counts
returns-in_err-counts c =
    let a = c.args in
    let e = mapped_refused _ _ _ (sym c.in_err-counts.ensures) in
    rw
    (back_refused _ _ _ _ (length a.triples.now) (length a.out.now) _ (reading_refused 0 a.table.now a.namespace a.stream.now (length a.index.now) _ e))
    (handed_on c.from_residual.ensures.1, refl, refl, refl)

pub returns-then-index-counts : goal.returns-then-index-counts
returns-then-index-counts c =
    let a = c.args in
    let j = mapped_accepted tally _ _ (sym c.in_ok-counts.ensures) in
    let n : length j.0 ≡ c.in_ok-counts.counts.records = ap (λ t. t.records) j.2 in
    rw
    (back_refused _ _ _ _ (length a.triples.now) (length a.out.now) _
    (reading_short 0 _ _ _ (length a.index.now) j.0 j.1 (omega (arith, n, c.if-index-counts.true))))
    (ap Err c.bare.ensures, refl, refl, refl)

pub returns-then-triples-counts : goal.returns-then-triples-counts
returns-then-triples-counts c =
    let a = c.args in
    let j = mapped_accepted tally _ _ (sym c.in_ok-counts.ensures) in
    let n : length j.0 ≡ c.in_ok-counts.counts.records = ap (λ t. t.records) j.2 in
    let read = reading_fits 0 _ _ _ (length a.index.now) j.0 j.1 (omega (arith, n, c.if-index-counts.false)) in
    rw (back_triples _ _ _ _ (length a.triples.now) (length a.out.now) j.0 read (omega (arith, n, c.if-triples-counts.true)))
    (ap Err c.bare-then-triples-counts.ensures, refl, refl, refl)

pub returns-then-out-stream : goal.returns-then-out-stream
returns-then-out-stream c =
    let a = c.args in
    let j = mapped_accepted tally _ _ (sym c.in_ok-counts.ensures) in
    let n : length j.0 ≡ c.in_ok-counts.counts.records = ap (λ t. t.records) j.2 in
    let read = reading_fits 0 _ _ _ (length a.index.now) j.0 j.1 (omega (arith, n, c.if-index-counts.false)) in
    rw
    (back_out _ _ _ _ (length a.triples.now) (length a.out.now) j.0 read (omega (arith, n, c.if-triples-counts.false)) c.if-out-stream.true)
    (ap Err c.bare-then-out-stream.ensures, refl, refl, refl)

pub returns : goal.returns
returns c =
    let a = c.args in
    let records = c.in_ok-counts.counts.records in
    let j = mapped_accepted tally _ _ (sym c.in_ok-counts.ensures) in
    let n : length j.0 ≡ records = ap (λ t. t.records) j.2 in
    let read = reading_fits 0 _ _ _ (length a.index.now) j.0 j.1 (omega (arith, n, c.if-index-counts.false)) in
    let bytes : AreBytes a.stream.now = λ i. (c.type_inv.stream i).fits in
    let index = rw read at c.read.ensures.index_after in
    let triples =
    rw (index, triples_filled j.0 a.index.now a.triples.now records n (omega (arith, c.if-triples-counts.false))) at c.drop_marks.ensures in
    let written = read_is_written 0 _ _ a.stream.now j.0 bytes j.1 (length a.out.now) c.if-out-stream.false in
    let taken = triples_taken j.0 a.triples.now records n in
    rw (back_fits _ _ _ _ (length a.triples.now) (length a.out.now) j.0 read (omega (arith, n, c.if-triples-counts.false)) c.if-out-stream.false) (
      rw (triples, taken, written) at c.write.ensures.result_value,
      index,
      triples,
      rw (triples, taken, written) at c.write.ensures.out_after,
    )

-- a stream that is counted, and for which there is room, is read
pub returns-in_err-read : goal.returns-in_err-read
returns-in_err-read c =
    let j = mapped_accepted tally _ _ (sym c.in_ok-counts.ensures) in
    let n : length j.0 ≡ c.in_ok-counts.counts.records = ap (λ t. t.records) j.2 in
    let read = reading_fits 0 _ _ _ (length c.args.index.now) j.0 j.1 (omega (arith, n, c.if-index-counts.false)) in
    absurd (not_refused refl (sym (rw read at c.in_err-read.ensures.result_value)))
