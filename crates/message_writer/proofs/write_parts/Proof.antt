-- `message_writer::write_parts` meets its contract: the parts as slices of the source. Assumes nothing.
use borrow.Author.Rules.{rules}
use native.Mathlib.Nat.{add-sub_cancel_left}
use Rattle.message_writer.proofs.write_parts.Statement.{statement}
use Rattle.message_writer.proofs.write_parts.Tie as tie

returns : tie.Need-returns
returns c =
    let p = c.args.payload in
    rw (add-sub_cancel_left p.first.start p.first.size, add-sub_cancel_left p.last.start p.last.size) at c.write.ensures

pub write_parts_spec : {M : Type 1} → statement M
write_parts_spec =
    tie.close
    (tie.spec (search rules) (search rules) (search rules) (search rules) (search rules) (search rules) (search rules) (search rules) (search rules)
    (search rules) (search rules) returns)
