-- `month::streams::add_stream` meets its contract. Assumes nothing.
use Rattle.std.proofs.Common.{sym, ap, ◌∙◌}
use Rattle.answer.proofs.Answer.{mapped_accepted, mapped_refused}
use Rattle.stream.specs.Stream as Stream
use Rattle.stream.specs.Tally.{tally}
use Rattle.stream.proofs.Judging.{judging_fine}
use Rattle.stream.proofs.Sought.{sought_judged}
use Rattle.month.specs.Month.{records_of}
use Rattle.month.specs.Private.{within}
use Rattle.pairs.specs.Rows.{enters, rows_of}
use Rattle.month.proofs.Going.{nothing_entered}
use Rattle.month.proofs.streams.add_stream.Goals as goal

pub returns-in-Err : goal.returns-in-Err
returns-in-Err c =
    let a = c.args in
    let e = mapped_refused tally (Stream.judging a.table.now a.namespace a.stream.now) _ (sym (sought_judged _ c.requires.0 _ _ _ _ c.in-Err.ensures)) in
    rw e (nothing_entered a.rows.now a.count c.requires.2)

pub add_records-requires-clause-stream_value : goal.add_records-requires-clause-stream_value
add_records-requires-clause-stream_value c =
    let a = c.args in
    let m = mapped_accepted _ _ _ (sym (sought_judged _ c.requires.0 _ _ _ _ c.in-Ok.ensures)) in
    (m.0, (judging_fine 0 a.table.now a.namespace a.stream.now m.0 m.1).walked)

pub returns-in-Ok : goal.returns-in-Ok
returns-in-Ok c =
    let a = c.args in
    let m = mapped_accepted _ _ _ (sym (sought_judged _ c.requires.0 _ _ _ _ c.in-Ok.ensures)) in
    let walked = (judging_fine 0 a.table.now a.namespace a.stream.now m.0 m.1).walked in
    c.add_records.ensures ∙ ap (λ x. within (enters (rows_of a.count a.rows.now) (records_of a.namespace x))) (walked ∙ sym m.1)
