-- `bech32::groups_of` meets its contract: the groups fit, or 12. Assumes nothing.
use Rattle.std.specs.Prelude.{Ok, Err}
use Rattle.std.proofs.Common.{length, refl, ap, arith, rules}
use Rattle.answer.proofs.Answer.{fitting_short, fitting_fits}
use Rattle.bech32.specs.Groups.{groups_of}
use Rattle.bech32.proofs.GroupLaws.{length_groups_of}
use Rattle.bech32.proofs.groups_of.Statement.{statement}
use Rattle.bech32.proofs.groups_of.Tie as tie

returns : tie.Need-returns-then-out-count
returns c =
    let a = c.before.before.before.before.args in
    let short = fitting_short length (length a.out.now) _ (groups_of a.bytes.now) refl (omega (arith, length_groups_of a.bytes.now)) in
    rw short (ap Err c.bare.ensures, refl)

returns-2 : tie.Need-returns
returns-2 c =
    let p = c.before.before in
    let a = p.before.before.before.before.before.args in
    let size = length_groups_of a.bytes.now in
    let fits = fitting_fits length (length a.out.now) _ (groups_of a.bytes.now) refl (omega (arith, size)) in
    rw fits (ap Ok (omega (arith, size)), p.put_groups.ensures)

pub groups_of_spec : {M : Type 1} → statement M
groups_of_spec = tie.close (tie.spec (search rules) (search rules) (search rules) (search rules) (search rules) returns (search rules) (search rules) returns-2)
