-- `table::halve`'s loop: behind the looks so far the halving is left of the rows from `low` up to `high`.
use Rattle.std.proofs.Common.{◌-◌, ◌+◌, ◌≤◌}
use Rattle.table.specs.Search.{rows_of, behind_look, halving_behind, counted}
use Rattle.table.proofs.Searching.{Left}
use Rattle.table.proofs.halve.Given as goal

abbrev pub invariant-loop-low : goal.invariant-loop-low
invariant-loop-low l =
    (l.low ≤ l.high) × (l.high ≤ rows_of l.table) × (l.looks + (l.high - l.low) ≤ rows_of l.table) ×
    Left l.table l.namespace l.kind (counted (behind_look l.from (halving_behind l.table l.from l.namespace l.kind))) l.looks l.low l.high

abbrev pub decreases-loop-low : goal.decreases-loop-low
decreases-loop-low l = l.high - l.low
