-- Prefix by prefix.
use Rattle.std.specs.Prelude.{Ok}
use native.Mathlib.Omega.{arith}
use mathlib.Core.List.{[], map}
use mathlib.Core.Path.{refl, ◌≡◌, sym, ap, ◌∙◌}
use Prim.Native.Nat.{ℕ, suc, ◌+◌, ◌-◌, ◌≤◌}
use lib.ListN.{length, get_or}
use Rattle.answer.proofs.Answer.{not_refused}
use Rattle.laws.specs.Test.{pick}
use Rattle.letters.specs.Letters.{lower}
use Rattle.invoice_text.proofs.FirstWhere.{first_found, first_turn, first_end}
use Rattle.invoice.specs.Edition.{lnbc, lntb, same, prefixes}
use Rattle.invoice.proofs.EditionLaws.{prefixed_some, by_prefix, number_some, number_none}
use Rattle.invoice.proofs.SameText.{same_texts}
use Rattle.invoice.proofs.prefix_number.Goals as goal
use Rattle.invoice.proofs.prefix_number.Goals.{After-eq_ignore_ascii_case}

pub returns-in_err-prefix : goal.returns-in_err-prefix
returns-in_err-prefix c =
    let n = c.loop-number.number in
    absurd (not_refused (prefixed_some n (omega arith) (omega arith)) (sym c.prefix_numbered.ensures ∙ c.in_err-prefix.was))

-- the prefixes are in lower case
prefix_lower : (map lower lnbc ≡ lnbc) × (map lower lntb ≡ lntb)
unfolding lower pick
prefix_lower = (refl, refl)

-- what the comparison says
compared : (s : After-eq_ignore_ascii_case) → s.eq_ignore_ascii_case.result ≡ same (map lower s.args.text.now) (get_or prefixes (s.loop-number.number - 1) [])
compared s =
    let n = s.loop-number.number in
    let is = prefixed_some n (omega arith) (omega arith) in
    let name : s.in_ok-prefix.prefix ≡ get_or prefixes (n - 1) [] = cc (sym s.in_ok-prefix.was ∙ s.prefix_numbered.ensures ∙ is) in
    let low = by_prefix (λ (n : ℕ). map lower (get_or prefixes (n - 1) []) ≡ get_or prefixes (n - 1) []) n _ is prefix_lower.0 prefix_lower.1 in
    rw name at (same_texts _ _ _ s.eq_ignore_ascii_case.ensures.test (rw name low))

pub returns-then-eq_ignore_ascii_case : goal.returns-then-eq_ignore_ascii_case
returns-then-eq_ignore_ascii_case c =
    let l = c.loop-number in
    let low = map lower c.args.text.now in
    let k = l.number - 1 in
    let within : suc k ≤ length prefixes = omega arith in
    let is = first_found (same low) prefixes [] k l.invariant within (sym (compared (goal.at.returns-then-eq_ignore_ascii_case c).After-eq_ignore_ascii_case) ∙ c.if-eq_ignore_ascii_case.true) in
    let next : l.number ≡ suc k = omega arith in
    ap (λ (n : ℕ). Ok n) next ∙ sym (number_some low k is within)

pub loop-number-preserved : goal.loop-number-preserved
loop-number-preserved c =
    let l = c.loop-number in
    let low = map lower c.args.text.now in
    let k = l.number - 1 in
    let within : suc k ≤ length prefixes = omega arith in
    let next : l.number + 1 - 1 ≡ suc k = omega arith in
    rw next (first_turn (same low) prefixes [] k l.invariant within (sym (compared (goal.at.loop-number-preserved c).After-eq_ignore_ascii_case) ∙ c.if-eq_ignore_ascii_case.false))

pub returns : goal.returns
returns c =
    let l = c.loop-number in
    let low = map lower c.args.text.now in
    let k = l.number - 1 in
    let past : length prefixes ≤ k = omega arith in
    rw c.bare.ensures (sym (number_none low k (first_end (same low) prefixes [] k l.invariant past) past))
