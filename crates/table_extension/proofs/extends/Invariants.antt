-- `table_extension::extends`'s loop: the answer is that of the older table's rows left.
use Rattle.std.specs.Prelude.{Ok}
use Rattle.std.proofs.Common.{◌*◌, ◌≡◌, drop}
use Rattle.table_extension.specs.Extension.{first_missing, extension, extending}
use Rattle.table_extension.proofs.extends.Given as goal

abbrev pub invariant-loop-r : goal.invariant-loop-r
invariant-loop-r l = extending l.older l.newer ≡ extension (Ok tt) (Ok tt) (first_missing l.newer l.r (drop (l.r * 4) l.older))
