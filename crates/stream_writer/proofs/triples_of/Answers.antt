-- `stream_writer::triples_of` meets its contract: 12, or the marks dropped. Assumes nothing.
use Rattle.std.specs.Prelude.{Ok, Err}
use Rattle.std.proofs.Common.{arith, ap, ◌∙◌, length}
use Rattle.laws.proofs.Lists.{sets_front}
use Rattle.stream_writer.specs.Back.{without_marks}
use Rattle.stream_writer.proofs.BackLaws.{length_without, without_rest, unmarking_short, unmarking_fits}
use Rattle.stream_writer.proofs.triples_of.Goals as goal

pub returns-then-triples-rows : goal.returns-then-triples-rows
returns-then-triples-rows c =
    let a = c.args in
    let short = unmarking_short a.index.now (length a.triples.now) (omega (arith, c.if-triples-rows.true)) in
    record { result_value = rw short (ap Err c.bare.ensures); triples_after = rw short }

pub returns : goal.returns
returns c =
    let a = c.args in
    let fits = unmarking_fits a.index.now (length a.triples.now) (omega (arith, c.if-triples-rows.false)) in
    record {
      result_value = rw fits (ap Ok (omega (arith, length_without a.index.now)));
      triples_after =
          rw fits
          (c.drop_marks.ensures
          ∙ rw (without_rest a.index.now)
          (sets_front a.triples.now (without_marks a.index.now) (omega (arith, c.if-triples-rows.false, length_without a.index.now))));
    }
