-- `stream_index::count_and_locate` meets its contract: the judgement, then the search. Assumes nothing.
use Rattle.std.proofs.Common.{sym, ap, ◌∙◌}
use Rattle.answer.proofs.Answer.{mapped_accepted, mapped_refused, then_refused}
use Rattle.stream.specs.Tally.{tally}
use Rattle.stream_index.specs.Index.{locating_from, sought}
use Rattle.stream.proofs.Judging.{judging_fine}
use Rattle.stream_index.proofs.count_and_locate.Goals as goal

pub returns-in-Err : goal.returns-in-Err
unfolding locating_from
returns-in-Err c = record {
  reading_value = c.in-Err.ensures;
  located_value = sym (then_refused _ _ _ (mapped_refused _ _ _ (sym c.in-Err.ensures)));
}

pub seek-requires : goal.seek-requires
seek-requires c =
    let j = mapped_accepted tally _ _ (sym c.in-Ok.ensures) in
    (j.0, (judging_fine _ _ _ _ j.0 j.1).walked)

pub returns-in-Ok : goal.returns-in-Ok
unfolding locating_from
returns-in-Ok c =
    let j = mapped_accepted tally _ _ (sym c.in-Ok.ensures) in
    record {
      reading_value = c.in-Ok.ensures;
      located_value = c.seek.ensures ∙ ap (sought c.args.kind) ((judging_fine _ _ _ _ j.0 j.1).walked ∙ sym j.1);
    }
