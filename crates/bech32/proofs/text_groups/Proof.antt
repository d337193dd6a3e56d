-- `bech32::text_groups` meets its contract: the groups fit, or 12. Assumes nothing.
use Rattle.std.specs.Prelude.{Ok, Err}
use Rattle.std.proofs.Common.{length, refl, ap, arith, rules}
use Rattle.answer.proofs.Answer.{fitting_short, fitting_fits}
use Rattle.bech32.specs.Alphabet.{groups_in}
use Rattle.bech32.proofs.AlphabetLaws.{length_groups_in}
use Rattle.bech32.proofs.text_groups.Statement.{statement}
use Rattle.bech32.proofs.text_groups.Tie as tie

returns : tie.Need-returns-then-out-text
returns c =
    let a = c.before.before.before.before.args in
    let short = fitting_short length (length a.out.now) _ (groups_in a.text.now) refl (omega (arith, length_groups_in a.text.now)) in
    rw short (ap Err c.bare.ensures, refl)

returns-2 : tie.Need-returns
returns-2 c =
    let p = c.before.before in
    let a = p.before.before.before.before.before.args in
    let size = length_groups_in a.text.now in
    let fits = fitting_fits length (length a.out.now) _ (groups_in a.text.now) refl (omega (arith, size)) in
    rw fits (ap Ok (omega (arith, size)), p.put_text_groups.ensures)

pub text_groups_spec : {M : Type 1} → statement M
text_groups_spec = tie.close (tie.spec (search rules) returns (search rules) (search rules) returns-2)
