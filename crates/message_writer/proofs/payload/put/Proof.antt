-- `message_writer::payload::put` meets its contract: type, front and last part, one behind the other. Assumes nothing.
use borrow.Author.Rules.{rules}
use native.Mathlib.Omega.{arith}
use mathlib.Core.Path.{◌≡◌, sym, ap, ◌∙◌}
use Prim.Native.Nat.{◌+◌}
use lib.ListN.{length}
use lib.Seq.{sets}
use Rattle.message_writer.proofs.PayloadLaws.{length_sized, length_payload, Made, made, payload_put}
use Rattle.message_writer.proofs.payload.put.Statement.{statement}
use Rattle.message_writer.proofs.payload.put.Tie as tie

-- what the payload is made of, and how long it is
made_of : (s : tie.Start) → Made s.args.front s.args.kind s.args.first.now s.args.last.now s.args.wanted s.requires.1.0
made_of s = made s.args.front s.args.kind s.args.first.now s.args.last.now s.args.wanted _ s.requires.1.1

fits : (s : tie.Start) → length s.requires.1.0 ≡ 4 + length (made_of s).before + length s.args.last.now
fits s = ap length (made_of s).is ∙ length_payload s.args.kind (made_of s).before s.args.last.now

put-number-requires : tie.Need-put_number-begin-requires
put-number-requires c κs =
    (c.requires.0, omega (arith, c.requires.1.3, fits c.before.before.before.before))

put-front-requires : tie.Need-put_front-end-requires
put-front-requires c κs =
    let m = made_of c.before.before.before.before.before.before.before.before in
    let at = c.put_number-begin.ensures.0 in
    (c.args.kind, m.before, m.fronted, omega (arith, c.requires.1.2, fits c.before.before.before.before.before.before.before.before), omega (arith, c.requires.1.3, fits c.before.before.before.before.before.before.before.before, at, c.put_number-begin.auto))

put-sized-requires : tie.Need-put_sized-requires
put-sized-requires c κs =
    let m = made_of c.before.before.before.before.before.before.before.before.before.before.before.before in
    let at = (c.put_front-end.ensures c.args.kind m.before m.fronted).0 in
    let size = length_sized c.args.last.now in
    let kept = c.put_number-begin.auto in
    (omega (arith, c.requires.1.2, fits c.before.before.before.before.before.before.before.before.before.before.before.before), omega (arith, c.requires.1.3, fits c.before.before.before.before.before.before.before.before.before.before.before.before, size, at, c.put_number-begin.ensures.0, kept, c.put_front-end.auto))

returns : tie.Need-returns
returns c b h =
    let m = made c.args.front c.args.kind c.args.first.now c.args.last.now c.args.wanted b h in
    let e = c.put_front-end.ensures c.args.kind m.before m.fronted in
    c.put_sized.ensures.1
    ∙ rw (e.1, e.0, c.put_number-begin.ensures.1, c.put_number-begin.ensures.0) (payload_put c.args.out.now c.args.kind m.before c.args.last.now)
    ∙ ap (sets c.args.out.now 0) (sym m.is)

pub put_spec : {M : Type 1} → statement M
put_spec = tie.close (tie.spec put-number-requires put-front-requires put-sized-requires (search rules) returns)
