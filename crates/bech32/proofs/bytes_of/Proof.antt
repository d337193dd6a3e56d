-- `bech32::bytes_of` meets its contract: the bytes fit, or 12. Assumes nothing.
use Rattle.std.specs.Prelude.{Ok, Err}
use Rattle.std.proofs.Common.{map, length, refl, ap, arith, rules}
use lib.ListN.{length-map}
use Rattle.answer.proofs.Answer.{fitting_short, fitting_fits}
use Rattle.bech32.specs.Groups.{low5, bytes_of}
use Rattle.bech32.proofs.GroupLaws.{length_bytes_of}
use Rattle.bech32.proofs.bytes_of.Statement.{statement}
use Rattle.bech32.proofs.bytes_of.Tie as tie

returns : tie.Need-returns-then-out-groups
returns c =
    let a = c.before.before.before.before.args in
    let gs = map low5 a.groups.now in
    let short = fitting_short length (length a.out.now) _ (bytes_of gs) refl (omega (arith, length_bytes_of gs, length-map a.groups.now low5)) in
    rw short (ap Err c.bare.ensures, refl)

returns-2 : tie.Need-returns
returns-2 c =
    let p = c.before.before in
    let a = p.before.before.before.before.before.args in
    let gs = map low5 a.groups.now in
    let fits = fitting_fits length (length a.out.now) _ (bytes_of gs) refl (omega (arith, length_bytes_of gs, length-map a.groups.now low5)) in
    rw fits (ap Ok p.put_bytes.ensures.0, p.put_bytes.ensures.1)

pub bytes_of_spec : {M : Type 1} → statement M
bytes_of_spec = tie.close (tie.spec (search rules) (search rules) (search rules) (search rules) returns (search rules) (search rules) returns-2)
