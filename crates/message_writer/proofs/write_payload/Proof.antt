-- `message_writer::write_payload` meets its contract: the parts and the triples that were read make the message again. Assumes nothing.
use Rattle.std.specs.Prelude.{Ok}
use borrow.Author.Rules.{rules}
use mathlib.Core.Path.{◌≡◌}
use lib.ListN.{length}
use Rattle.laws.specs.Digits.{AreBytes}
use Rattle.answer.proofs.Answer.{fitting_fits}
use Rattle.stream_writer.specs.Triples.{triples_of}
use Rattle.message_writer.specs.Parts.{draft_of}
use Rattle.message_writer.specs.Writer.{writing}
use Rattle.message_writer.proofs.Named.{own_parts}
use Rattle.message_writer.proofs.Rewritten.{rewritten, parts_inside}
use Rattle.message_writer.proofs.write_payload.Statement.{statement}
use Rattle.message_writer.proofs.write_payload.Tie as tie

-- the message's elements are bytes
bytes : (k : tie.After-slice_known-1) → AreBytes k.args.message.now
bytes k = λ i. (k.shared_slice_known-2-1.given i).fits

write-parts-requires : tie.Need-write_parts-requires
write-parts-requires c κs =
    parts_inside _ _ c.requires.0.0 (bytes c.before) c.requires.0.1

returns : tie.Need-returns
returns c =
    let m = c.args.message.now in
    let fine : writing (draft_of c.args.payload m c.args.triples.now) (length c.args.out.now) ≡ Ok m =
    rw c.requires.0.2
    (fitting_fits length _ _ m (rewritten m _ c.requires.0.0 (bytes c.before.before.before.before) c.requires.0.1 _ _ _ _ (own_parts c.args.payload m (triples_of c.requires.0.0))) c.requires.1) in
    rw fine at c.write_parts.ensures

pub write_payload_spec : {M : Type 1} → statement M
write_payload_spec = tie.close (tie.spec write-parts-requires (search rules) returns)
