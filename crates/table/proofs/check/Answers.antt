-- `table::check` meets its contract: each refusal by its row, and a turn takes a row off the front. Assumes nothing.
use Rattle.std.proofs.Common.{arith, sym, ◌∙◌, ◌≡◌, ℕ, ◌+◌, ◌*◌, List, get_or, true, add-one}
use lib.ListN.{drop_of_length-le}
use Rattle.table.specs.Table.{not_below, rising}
use Rattle.table.proofs.Laws.{row_at, rising_61, rising_62, rising_63, rising_next, checking_cut, checking_long, checking_rows, least_first, least_later, least_namespace, least_kind}
use Rattle.table.proofs.check.Goals.{then-r-gt0+else-not-is_above, else-r-gt0}
use Rattle.table.proofs.check.Goals as goal

pub returns-then-table-ne0 : goal.returns-then-table-ne0
returns-then-table-ne0 c = rw c.bare.ensures (sym (checking_cut _ c.if-table-ne0.true))

pub returns-then-table-gt1024 : goal.returns-then-table-gt1024
returns-then-table-gt1024 c = rw c.bare-then-table-gt1024.ensures (sym (checking_long _ c.if-table-gt1024.true))

pub loop-r-init : goal.loop-r-init
loop-r-init c = checking_rows _ c.if-table-ne0.false c.if-table-gt1024.false

pub returns-then-namespace-gt63 : goal.returns-then-namespace-gt63
returns-then-namespace-gt63 c =
    let row = row_at c.args.table.now c.loop-r.r (omega arith) in
    rw c.bare-then-namespace-gt63.ensures (sym ((rw row at c.loop-r.invariant) ∙ rising_61 _ _ _ _ _ _ _ c.if-namespace-gt63.true))

pub returns-then-not-is_above : goal.returns-then-not-is_above
returns-then-not-is_above c =
    let t = c.args.table.now in
    let row = row_at t c.loop-r.r (omega arith) in
    rw c.bare-then-not-is_above.ensures
    (sym
    ((rw row at c.loop-r.invariant)
    ∙ rising_62 _ _ _ _ _ _ _ c.if-namespace-gt63.false (least_later t c.loop-r.r _ _ c.if-r-gt0.true ∙ sym c.is_above.ensures ∙ c.if-not-is_above.true)))

-- the row at hand comes after the row before it, if there is one
abbrev Above : List ℕ → (r : ℕ) → Type 0
Above t r = not_below (least_namespace t r) (least_kind t r) (get_or t (r * 4) 0) (get_or t (r * 4 + 1) 0) ≡ true

pub returns-then-not-is_allowed : goal.returns-then-not-is_allowed
returns-then-not-is_allowed c =
    let t = c.args.table.now in
    let row = row_at t c.loop-r.r (omega arith) in
    let above : Above t c.loop-r.r = elim c.if-r-gt0.branch [
      | then-r-gt0+else-not-is_above w ↦ least_later t c.loop-r.r _ _ w.if-r-gt0.true ∙ sym w.is_above.ensures ∙ w.if-not-is_above.false
      | else-r-gt0 w ↦ least_first t c.loop-r.r _ _ w.if-r-gt0.false
    ] in
    rw c.bare-then-not-is_allowed.ensures
    (sym
    ((rw row at c.loop-r.invariant)
    ∙ rising_63 _ _ _ _ _ _ _ c.if-namespace-gt63.false above (sym c.is_allowed.ensures ∙ c.if-not-is_allowed.true)))

pub loop-r-preserved : goal.loop-r-preserved
loop-r-preserved c =
    let t = c.args.table.now in
    let row = row_at t c.loop-r.r (omega arith) in
    let above : Above t c.loop-r.r = elim c.if-r-gt0.branch [
      | then-r-gt0+else-not-is_above w ↦ least_later t c.loop-r.r _ _ w.if-r-gt0.true ∙ sym w.is_above.ensures ∙ w.if-not-is_above.false
      | else-r-gt0 w ↦ least_first t c.loop-r.r _ _ w.if-r-gt0.false
    ] in
    (rw row at c.loop-r.invariant)
    ∙ rising_next _ _ _ _ _ _ _ c.if-namespace-gt63.false above (sym c.is_allowed.ensures ∙ c.if-not-is_allowed.false)
    ∙ rw (add-one c.loop-r.r)

pub returns : goal.returns
unfolding rising
returns c = sym (rw (drop_of_length-le c.args.table.now {i = c.loop-r.r * 4} (omega arith)) at c.loop-r.invariant)
