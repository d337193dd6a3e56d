-- `stream_writer::measure_rows` meets its contract: each refusal by its row, and a turn sums up a record. Assumes nothing.
use Rattle.std.proofs.Common.{arith, sym, ap, ◌∙◌, ◌+◌, ◌*◌, ◌<◌, length, get_or, drop, length-drop}
use native.Mathlib.Nat.{zero-add}
use Rattle.answer.proofs.Answer.{handed_on, mapped_accepted, mapped_refused}
use Rattle.stream_writer.proofs.RowLaws.{measured_end, measured_refused, measured_next, record_le, row_says, row_misplaced, row_placed_within, placed_says}
use Rattle.table.proofs.Cursor.{cursor_start, cursor_next, cursor_found}
use Rattle.stream_writer.proofs.measure_rows.Goals as goal

pub loop-r-init : goal.loop-r-init
loop-r-init c = (omega arith, cursor_start c.args.table.now c.args.namespace, rw zero-add)

pub returns-in_err-place_row : goal.returns-in_err-place_row
returns-in_err-place_row c =
    let a = c.args in
    let l = c.loop-r in
    handed_on c.from_residual.ensures.1
    ∙ sym (measured_refused a.table.now a.namespace a.source.now _ l.size a.triples.now l.r (omega arith) _
    (row_misplaced _ _ _ _ _ _ _ _ _ (sym c.in_err-place_row.ensures)))
    ∙ l.invariant.2

pub measure_row-requires : goal.measure_row-requires
measure_row-requires c =
    let fine = c.requires in
    let says = placed_says _ _ _ _ _ _ (sym c.in_ok-place_row.ensures) in
    (fine.0, says.0, ap (λ s. s.found) c.find-search.ensures ∙ cursor_found _ _ _ _ c.loop-r.invariant.1 _ says.1 fine.0)

pub returns-in_err-n : goal.returns-in_err-n
returns-in_err-n c =
    let a = c.args in
    let l = c.loop-r in
    let told = row_placed_within _ _ _ _ _ _ _ _ (sym c.in_ok-place_row.ensures) _ ∙ sym c.in_err-n.ensures in
    handed_on c.from_residual-in_err-n.ensures.1
    ∙ sym (measured_refused a.table.now a.namespace a.source.now _ l.size a.triples.now l.r (omega arith) _ (mapped_refused _ _ _ told))
    ∙ l.invariant.2

pub overflow_add-size : goal.overflow_add-size
overflow_add-size c =
    let a = c.args in
    let l = c.loop-r in
    let t = a.triples.now in
    let row = mapped_accepted _ _ _ (row_placed_within _ _ _ _ _ _ _ _ (sym c.in_ok-place_row.ensures) _ ∙ sym c.in_ok-n.ensures) in
    omega (arith, row.2, record_le (get_or t (l.r * 3) 0) (get_or t (l.r * 3 + 1) 0) (get_or t (l.r * 3 + 2) 0) a.source.now, c.well_formed)

pub loop-r-preserved : goal.loop-r-preserved
loop-r-preserved c =
    let a = c.args in
    let l = c.loop-r in
    let row = mapped_accepted _ _ _ (row_placed_within _ _ _ _ _ _ _ _ (sym c.in_ok-place_row.ensures) _ ∙ sym c.in_ok-n.ensures) in (
      omega arith,
      rw (ap (λ s. s.next) c.find-search.ensures)
          (cursor_next _ _ _ _ l.invariant.1 _ (row_says _ _ _ _ _ _ _ _ row.1).1 c.requires.0),
      rw c.min-size.ensures
          (sym (measured_next a.table.now a.namespace a.source.now _ l.size a.triples.now l.r (omega arith) row.1 _ row.2) ∙ l.invariant.2),
    )

pub returns : goal.returns
returns c =
    let a = c.args in
    let l = c.loop-r in
    let few : length (drop (l.r * 3) a.triples.now) < 3 = omega (arith, length-drop (l.r * 3) a.triples.now) in
    sym (measured_end a.table.now a.namespace a.source.now _ l.size l.r (drop (l.r * 3) a.triples.now) l.invariant.0 few) ∙ l.invariant.2
