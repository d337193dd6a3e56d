-- Three groups and the content's.
use Rattle.std.specs.Prelude.{Ok}
use native.Mathlib.Omega.{arith}
use mathlib.Core.Path.{ap}
use Rattle.field_writer.proofs.MakingLaws.{length_tagged, making_fits}
use Rattle.field_writer.proofs.measure.Goals as goal

pub returns : goal.returns
returns c content size =
    let a = c.args in
    rw (making_fits a.most a.kind content a.room (omega arith) (omega arith) (omega arith)) (ap Ok (omega (arith, length_tagged a.kind content)))
