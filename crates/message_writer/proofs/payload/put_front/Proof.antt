-- `message_writer::payload::put_front` meets its contract: by what stands there. Assumes nothing.
use borrow.Author.Rules.{rules}
use native.Mathlib.Omega.{arith}
use mathlib.Core.Path.{◌≡◌, refl, sym, ap}
use mathlib.Core.List.{[]}
use native.Mathlib.Nat.{add-zero}
use lib.ListN.{length}
use Rattle.laws.specs.Digits.{to_bytes}
use Rattle.laws.proofs.Digits.{length_digits}
use Rattle.message_writer.specs.Writer.{sized_bytes}
use Rattle.message_writer.proofs.PayloadLaws.{length_sized, channel_is}
use Rattle.message_writer.proofs.payload.put_front.Statement.{statement}
use Rattle.message_writer.proofs.payload.put_front.Tie as tie

put-sized-requires : tie.Need-put_sized-requires
put-sized-requires c κs =
    let is = rw c.in-Sized.is at c.requires.2 in
    let size : length c.requires.1 ≡ length (sized_bytes c.args.first.now) = cc is in
    (omega (arith, c.requires.3, size, length_sized c.args.first.now), omega (arith, c.requires.4, size))

put-bytes-requires : tie.Need-put_bytes-requires
put-bytes-requires c κs =
    let is = channel_is c.requires.0 c.args.first.now c.args.wanted c.requires.1 (rw c.in-Channel.is at c.requires.2) in
    omega (arith, c.requires.4, ap length is.0)

put-number-requires : tie.Need-put_number-requires
put-number-requires c κs =
    let is = rw c.in-Number.is at c.requires.2 in
    let size : length c.requires.1 ≡ length (to_bytes 2 c.args.wanted) = cc is in
    (omega (arith, c.well_formed), omega (arith, c.requires.4, size, length_digits 8 2 c.args.wanted))

returns : tie.Need-returns-in-Sized
returns c kind b h =
    let e = rw c.in-Sized.is at h in
    let is : b ≡ sized_bytes c.args.first.now = cc e in
    rw is c.put_sized.ensures

returns-2 : tie.Need-returns-in-Channel
returns-2 c kind b h =
    let a = c.args in
    rw (channel_is kind a.first.now a.wanted b (rw c.in-Channel.is at h)).0 c.put_bytes.ensures

returns-3 : tie.Need-returns-in-Number
returns-3 c kind b h =
    let e = rw c.in-Number.is at h in
    let is : b ≡ to_bytes 2 c.args.wanted = cc e in
    rw (is, length_digits 8) c.put_number.ensures

returns-4 : tie.Need-returns-in-Empty
returns-4 c kind b h =
    let e = rw c.in-Empty.is at h in
    let is : b ≡ [] = cc e in
    rw is (sym (add-zero _), refl)

pub put_front_spec : {M : Type 1} → statement M
put_front_spec =
    tie.close
    (tie.spec (search rules) put-sized-requires (search rules) put-bytes-requires (search rules) put-number-requires (search rules) (search rules) returns
    (search rules) returns-2 (search rules) returns-3 returns-4)
