-- `message_writer::payload::put_number` meets its contract: two stores. Assumes nothing.
use borrow.Author.Rules.{rules}
use native.Mathlib.Omega.{arith}
use mathlib.Core.Path.{refl}
use lib.ListN.{length-set}
use Rattle.message_writer.proofs.PayloadLaws.{number_put}
use Rattle.message_writer.proofs.payload.put_number.Statement.{statement}
use Rattle.message_writer.proofs.payload.put_number.Tie as tie

-- src/payload.rt:115:5
slice-write-out-2 : tie.Need-bounds-out-at-2
slice-write-out-2 c = simp length-set (omega arith)

-- src/payload.rt:110:1
returns : tie.Need-returns
returns c =
    (refl, number_put c.args.out.now c.args.at c.args.n c.requires.0)

pub put_number_spec : {M : Type 1} → statement M
put_number_spec = tie.close (tie.spec (search rules) (search rules) (search rules) (search rules) slice-write-out-2 (search rules) (search rules) returns)
