-- `stream_writer::measure` meets its contract: each answer by its law. Assumes nothing.
use Rattle.std.specs.Prelude.{Ok}
use Rattle.std.proofs.Common.{arith, sym, ap, ◌∙◌, ◌≡◌, ◌≤◌, length}
use Rattle.answer.specs.Answer.{mapped}
use Rattle.answer.proofs.Answer.{handed_on, mapped_accepted, mapped_refused}
use Rattle.stream_writer.specs.Writer.{bytes_of}
use Rattle.stream_writer.proofs.Composing.{composing_table, composing_namespace, composing_threes, composing_rows, composing_long, composing_fits}
use Rattle.stream_writer.proofs.measure.Goals as goal

pub returns-in_err-check : goal.returns-in_err-check
returns-in_err-check c = handed_on c.from_residual.ensures.1 ∙ sym (ap (mapped length) (composing_table _ _ _ _ _ (sym c.in_err-check.ensures)))

pub returns-then-namespace-gt63 : goal.returns-then-namespace-gt63
returns-then-namespace-gt63 c =
    rw c.bare.ensures (sym (ap (mapped length) (composing_namespace _ _ _ _ (sym c.in_ok-check.ensures) c.if-namespace-gt63.true)))

pub returns-then-triples-ne0 : goal.returns-then-triples-ne0
returns-then-triples-ne0 c =
    rw c.bare-then-triples-ne0.ensures
    (sym (ap (mapped length) (composing_threes _ _ _ _ (sym c.in_ok-check.ensures) c.if-namespace-gt63.false c.if-triples-ne0.true)))

pub measure_rows-requires : goal.measure_rows-requires
measure_rows-requires c = (sym c.in_ok-check.ensures, c.if-namespace-gt63.false)

pub returns-then-size-gt65535 : goal.returns-then-size-gt65535
returns-then-size-gt65535 c =
    let m = mapped_accepted _ _ _ (sym c.in_ok-size.ensures) in
    rw c.bare-then-size-gt65535.ensures
    (sym
    (ap (mapped length)
    (composing_long _ _ _ _ (sym c.in_ok-check.ensures) c.if-namespace-gt63.false c.if-triples-ne0.false m.1 (omega (arith, m.2, c.if-size-gt65535.true)))))

pub returns-in_err-size : goal.returns-in_err-size
returns-in_err-size c =
    handed_on c.from_residual-in_err-size.ensures.1
    ∙ sym
    (ap (mapped length)
    (composing_rows _ _ _ _ (sym c.in_ok-check.ensures) c.if-namespace-gt63.false c.if-triples-ne0.false _
    (mapped_refused _ _ _ (sym c.in_err-size.ensures))))

pub returns : goal.returns
returns c =
    let a = c.args in
    let m = mapped_accepted _ _ _ (sym c.in_ok-size.ensures) in
    let n : length (bytes_of a.triples.now a.source.now) ≡ c.in_ok-size.size = omega (arith, m.2, c.if-size-gt65535.false) in
    let short : length (bytes_of a.triples.now a.source.now) ≤ 65535 = omega (arith, c.if-size-gt65535.false) in
    let fits =
    composing_fits a.table.now a.namespace a.triples.now a.source.now (sym c.in_ok-check.ensures) c.if-namespace-gt63.false c.if-triples-ne0.false m.1 short in
    rw fits (ap Ok (sym n))
