-- `bech32::row_of` meets its contract: each row computed from the definition. Assumes nothing.
use Rattle.std.proofs.Common.{◌≡◌, false, sym, ap, ne_eqb}
use Rattle.laws.specs.Digits.{from_digits}
use Rattle.laws.specs.Test.{pick}
use Rattle.bech32.specs.Alphabet.{place_in, group_of}
use Rattle.bech32.specs.Private.{row_of}
use Rattle.bech32.proofs.AlphabetLaws.{in_rows, other_row}
use Rattle.bech32.proofs.row_of.Statement.{statement}
use Rattle.bech32.proofs.row_of.Tie as tie

returns : tie.Need-returns-in-6
unfolding row_of from_digits group_of place_in pick
returns c = ap row_of (sym c.in-6.is)

returns-2 : tie.Need-returns-in-7
unfolding row_of from_digits group_of place_in pick
returns-2 c = ap row_of (sym c.in-7.is)

returns-3 : tie.Need-returns-in-12
unfolding row_of from_digits group_of place_in pick
returns-3 c = ap row_of (sym c.in-12.is)

returns-4 : tie.Need-returns-in-13
unfolding row_of from_digits group_of place_in pick
returns-4 c = ap row_of (sym c.in-13.is)

returns-5 : tie.Need-returns-in-14
unfolding row_of from_digits group_of place_in pick
returns-5 c = ap row_of (sym c.in-14.is)

returns-6 : tie.Need-returns-in-15
unfolding row_of from_digits group_of place_in pick
returns-6 c = ap row_of (sym c.in-15.is)

returns-7 : tie.Need-returns-in_default
returns-7 c =
    let row = c.before.args.row in
    let none = c.in_default.in_default-own.rest in
    let other : in_rows row ≡ false =
    rw (
      ne_eqb row 6 none.0.0.0.0.0.1,
      ne_eqb row 7 none.0.0.0.0.1,
      ne_eqb row 12 none.0.0.0.1,
      ne_eqb row 13 none.0.0.1,
      ne_eqb row 14 none.0.1,
      ne_eqb row 15 none.1,
    ) in
    sym (other_row row c.before.requires other)

pub row_of_spec : {M : Type 1} → statement M
row_of_spec = tie.close (tie.spec returns returns-2 returns-3 returns-4 returns-5 returns-6 returns-7)
