-- `money::value` meets its contract: no letter, more than one, or by the letter. Assumes nothing.
use borrow.Author.Rules.{rules}
use mathlib.Core.List.{[], ◌∷◌, map}
use mathlib.Core.Path.{◌≡◌, sym, ◌∙◌}
use native.Mathlib.Omega.{arith}
use lib.ListN.{length-map}
use Rattle.letters.specs.Letters.{lower}
use Rattle.money.proofs.AmountLaws.{valued_none, valued_m, valued_u, valued_n, valued_p, valued_other, valued_long}
use Rattle.letters.proofs.LetterLaws.{none_lower, one_lower}
use Rattle.money.proofs.value.Statement.{statement}
use Rattle.money.proofs.value.Tie as tie

returns : tie.Need-returns-then-letter-eq0
returns c = rw (none_lower _ c.before.if-letter-eq0.true, valued_none) c.times.ensures

returns-2 : tie.Need-returns-then-letter-gt1
returns-2 c = c.refused.ensures ∙ sym (valued_long _ _ (rw length-map c.before.if-letter-gt1.true))

-- the one character that follows, in lower case
letter : (c : tie.After-lower) → map lower c.before.before.before.before.before.args.letter.now ≡ c.lower.result ∷ []
letter c = rw c.lower.ensures (one_lower c.before.before.before.before.before.args.letter.now (omega arith))

returns-3 : tie.Need-returns-in-109
returns-3 c = rw (letter c.before.before, c.before.in-109.is, valued_m) c.times-in-109.ensures

returns-4 : tie.Need-returns-in-117
returns-4 c = rw (letter c.before.before, c.before.in-117.is, valued_u) c.times-in-117.ensures

returns-5 : tie.Need-returns-in-110
returns-5 c = rw (letter c.before.before, c.before.in-110.is, valued_n) c.times-in-110.ensures

returns-6 : tie.Need-returns-in-112
returns-6 c = rw (letter c.before.before, c.before.in-112.is) (c.tenth.ensures ∙ sym (valued_p _ (omega arith)))

returns-7 : tie.Need-returns-in_default
returns-7 c =
    let others = c.before.in_default.in_default-own.rest in
    c.refused-in_default.ensures ∙ rw (letter c.before.before) (sym (valued_other _ _ others.0.0.0.1 others.0.0.1 others.0.1 others.1))

pub value_spec : {M : Type 1} → statement M
value_spec =
    tie.close
    (tie.spec (search rules) returns (search rules) returns-2 (search rules) (search rules) (search rules) (search rules) (search rules) (search rules)
    (search rules) returns-3 returns-4 returns-5 returns-6 returns-7)
