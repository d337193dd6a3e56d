use Rattle.std.specs.Prelude.{Ok}
use Rattle.std.proofs.Common.{◌≡◌, ◌-◌, ◌*◌, ◌≤◌, List, length}
use lib.Seq.{sets}
use Rattle.field.specs.declared.Field.{Field}
use Rattle.field.specs.Fields.{fields_in, numbers_of}
use Rattle.field.proofs.FieldLaws.{Rest}
use Rattle.invoice.proofs.index.put.Given as goal

abbrev pub invariant-loop-at : goal.invariant-loop-at
invariant-loop-at l =
    (l.at ≤ length l.middle) × (l.row ≤ l.at) × (length l.index ≡ length l.fn.index)
    × ((fields : List Field) → fields_in l.middle ≡ Ok fields →
    (x : Rest l.middle fields l.at l.row) × (sets l.index (l.row * 3) (numbers_of x.rest) ≡ sets l.fn.index 0 (numbers_of fields)))

abbrev pub decreases-loop-at : goal.decreases-loop-at
decreases-loop-at l = length l.middle - l.at
