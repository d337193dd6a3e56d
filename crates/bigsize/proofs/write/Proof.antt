-- `bigsize::write` meets its contract: the form fits, or it does not. Assumes nothing.
use Rattle.std.specs.Prelude.{Ok, Err}
use borrow.Author.Rules.{rules}
use native.Mathlib.Omega.{arith}
use mathlib.Core.Path.{refl, ap}
use lib.ListN.{length}
use Rattle.bigsize.proofs.Laws.{writing_fits, writing_short}
use Rattle.bigsize.proofs.write.Statement.{statement}
use Rattle.bigsize.proofs.write.Tie as tie

returns : tie.Need-returns-then-out-n
returns c =
    let a = c.before.before.before.before.args in
    rw (writing_short a.value (length a.out.now) (omega arith)) (ap Err c.bare.ensures, refl)

returns-2 : tie.Need-returns
returns-2 c =
    let p = c.before.before in
    let w = p.before.before.before in
    let a = w.before.before.args in
    rw (writing_fits a.value (length a.out.now) (omega arith)) (ap Ok w.width-n.ensures, p.put.ensures)

pub write_spec : {M : Type 1} → statement M
write_spec = tie.close (tie.spec (search rules) (search rules) returns (search rules) (search rules) returns-2)
