-- `message_writer::payload::put_sized` meets its contract: the length, then the bytes. Assumes nothing.
use borrow.Author.Rules.{rules}
use native.Mathlib.Omega.{arith}
use mathlib.Core.Path.{◌∙◌}
use Rattle.message_writer.proofs.PayloadLaws.{length_sized, sized_put}
use Rattle.message_writer.proofs.payload.put_sized.Statement.{statement}
use Rattle.message_writer.proofs.payload.put_sized.Tie as tie

-- src/payload.rt:105:9
put-number-requires : tie.Need-put_number-begin-requires
put-number-requires c κs =
    (c.requires.0, omega (arith, c.requires.1, length_sized c.args.part.now))

-- src/payload.rt:106:5
put-bytes-requires : tie.Need-put_bytes-requires
put-bytes-requires c κs =
    omega (arith, c.requires.1, length_sized c.args.part.now, c.put_number-begin.ensures.0, c.put_number-begin.auto)

-- src/payload.rt:101:1
returns : tie.Need-returns
returns c = (
  omega (arith, length_sized c.args.part.now, c.put_number-begin.ensures.0, c.put_bytes.ensures.0),
  c.put_bytes.ensures.1 ∙ rw (c.put_number-begin.ensures.1, c.put_number-begin.ensures.0) (sized_put c.args.out.now c.args.part.now c.args.at),
)

pub put_sized_spec : {M : Type 1} → statement M
put_sized_spec = tie.close (tie.spec put-number-requires put-bytes-requires (search rules) returns)
