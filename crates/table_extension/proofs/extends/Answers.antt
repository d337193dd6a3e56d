-- `table_extension::extends` meets its contract: each refusal, and a turn takes a row off the front of the older table. Assumes nothing.
use Rattle.std.proofs.Common.{arith, sym, ◌∙◌, ◌*◌, drop, length-drop, add-one}
use Rattle.table_extension.specs.Extension.{extension}
use Rattle.table.proofs.Laws.{row_at}
use Rattle.table_extension.proofs.Laws.{missing_here, missing_later, missing_few, older_refused, newer_refused, both_accepted}
use Rattle.table_extension.proofs.extends.Goals as goal

pub returns-in-Err : goal.returns-in-Err
returns-in-Err c = sym (older_refused _ _ _ (sym c.in-Err.ensures))

pub returns-in-Err-check : goal.returns-in-Err-check
returns-in-Err-check c = sym (newer_refused _ _ _ (sym c.in_default.ensures) (sym c.in-Err-check.ensures))

pub loop-r-init : goal.loop-r-init
loop-r-init c = both_accepted _ _ (sym c.in_default.ensures) (sym c.in_default-check.ensures)

pub has_row-requires : goal.has_row-requires
has_row-requires c = sym c.in_default-check.ensures

pub returns-then-not-has_row : goal.returns-then-not-has_row
unfolding extension
returns-then-not-has_row c =
    let row = row_at c.args.older.now c.loop-r.r (omega arith) in
    sym (rw (row, missing_here _ _ _ _ _ _ _ (sym c.has_row.ensures ∙ c.if-not-has_row.true)) at c.loop-r.invariant)

pub loop-r-preserved : goal.loop-r-preserved
loop-r-preserved c =
    let row = row_at c.args.older.now c.loop-r.r (omega arith) in
    rw (row, missing_later _ _ _ _ _ _ _ (sym c.has_row.ensures ∙ c.if-not-has_row.false), ← add-one c.loop-r.r) at c.loop-r.invariant

pub returns : goal.returns
unfolding extension
returns c = sym (rw (missing_few _ _ (drop (c.loop-r.r * 4) c.args.older.now) (simp length-drop (omega arith))) at c.loop-r.invariant)
