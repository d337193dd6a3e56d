-- `message_writer::payload::measure_front` meets its contract: by what stands there. Assumes nothing.
use Rattle.std.specs.Prelude.{Ok}
use borrow.Author.Rules.{rules}
use native.Mathlib.Omega.{arith}
use mathlib.Core.Path.{refl, ap}
use Rattle.laws.proofs.Digits.{length_digits}
use Rattle.message_writer.proofs.PayloadLaws.{length_sized, channel_fits, channel_wrong}
use Rattle.message_writer.proofs.payload.measure_front.Statement.{statement}
use Rattle.message_writer.proofs.payload.measure_front.Tie as tie

returns : tie.Need-returns-then-first-ne32
returns c wanted =
    let a = c.args in
    rw (c.in-Channel.is, channel_wrong a.kind a.first.now wanted c.if-first-ne32.true, c.at.ensures) refl

returns-2 : tie.Need-returns-in-Sized
returns-2 c wanted =
    let a = c.args in
    rw c.in-Sized.is (ap Ok (omega (arith, c.sum.ensures, length_sized a.first.now)))

returns-3 : tie.Need-returns-else-first-ne32
returns-3 c wanted =
    let a = c.args in
    rw (c.in-Channel.is, channel_fits a.kind a.first.now wanted c.if-first-ne32.false, c.if-first-ne32.false) refl

returns-4 : tie.Need-returns-in-Number
returns-4 c wanted = rw (c.in-Number.is, length_digits 8) refl

returns-5 : tie.Need-returns-in-Empty
returns-5 c wanted = rw c.in-Empty.is refl

pub measure_front_spec : {M : Type 1} → statement M
measure_front_spec =
    tie.close
    (tie.spec (search rules) (search rules) (search rules) (search rules) returns (search rules) (search rules) returns-2 returns-3 returns-4 returns-5)
