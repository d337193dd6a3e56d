-- `table::check`'s loop: the whole table is judged as the rows left are.
use Rattle.std.proofs.Common.{◌≡◌}
use Rattle.table.specs.Table.{checking}
use Rattle.table.proofs.Laws.{left}
use Rattle.table.proofs.check.Given as goal

abbrev pub invariant-loop-r : goal.invariant-loop-r
invariant-loop-r l = checking l.table ≡ left l.table l.r
