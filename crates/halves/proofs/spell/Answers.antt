use Rattle.std.proofs.Common.{◌≡◌, ℕ, List, suc, ◌+◌, ◌-◌, ◌^◌, ◌<◌, ◌++◌, take, drop, sym, refl, ◌∙◌, append-nil, arith, drop_of_length-le, take-take, eqb-true, ◌/◌}
use Rattle.std.proofs.lemmas.Bool.{eqb-false}
use Rattle.std.proofs.Math.Seq.{take-set-le}
use Rattle.halves.proofs.DigitLaws.{quotient_fits, some_digit, digit_next, digit_last, few_digits}
use Rattle.halves.proofs.Laws.{value_fits}
use Rattle.halves.specs.Halves.{value, digits, decimal}
use Rattle.halves.proofs.spell.Goals as goal

pub loop-parts-init : goal.loop-parts-init
loop-parts-init c =
    record {
      within = omega arith;
      some = omega arith;
      fits = few_digits (value_fits c.args.sum (omega arith) (omega arith));
      kept = refl;
      so_far = rw (drop_of_length-le c.args.text.now {i = 39} (omega arith)) (append-nil (decimal (value c.args.sum)));
    }

-- what stands before the next place is as it was
kept_before : (at : ℕ) (text old : List ℕ) → take at text ≡ take at old → take (at - 1) text ≡ take (at - 1) old
kept_before at text old h = sym (take-take (at - 1) at text (omega arith)) ∙ rw h (take-take (at - 1) at old (omega arith))

-- the digits up to the next place, and those behind it
up_to : (at n : ℕ) (text all : List ℕ) → 0 < at → digits at n ++ drop at text ≡ all → digits (suc (at - 1)) n ++ drop (suc (at - 1)) text ≡ all
up_to at n text all some h = let e : suc (at - 1) ≡ at = omega arith in rw e h

-- what is left has a digit less
rest_fits : (at n : ℕ) → 0 < at → n < 10 ^ at → n / 10 < 10 ^ (at - 1)
rest_fits at n some h = let e : suc (at - 1) ≡ at = omega arith in quotient_fits (at - 1) n (rw e h)

pub returns-then-is_zero-clause-text_after : goal.returns-then-is_zero-clause-text_after
returns-then-is_zero-clause-text_after c =
    let l = c.loop-parts in
    let last = sym c.divide-parts.ensures.quotient_value ∙ eqb-true _ _ (sym c.is_zero.ensures ∙ c.if-is_zero.true) in
    digit_last l.text (l.at - 1) (value l.rest) (48 + c.divide-parts.result.rest) _ (omega arith) (rw c.divide-parts.ensures.rest_value)
    (up_to l.at (value l.rest) l.text _ l.invariant.some l.invariant.so_far) last
    ∙ rw (kept_before l.at l.text c.args.text.now l.invariant.kept)

pub loop-parts-preserved : goal.loop-parts-preserved
loop-parts-preserved c =
    let l = c.loop-parts in
    let q = c.divide-parts.ensures.quotient_value in
    let digit = 48 + c.divide-parts.result.rest in
    let fits = rest_fits l.at (value l.rest) l.invariant.some l.invariant.fits in
    let more : value c.divide-parts.result.quotient ≡ 0 → ⊥ = eqb-false _ _ (sym c.is_zero.ensures ∙ c.if-is_zero.false) in record {
      within = omega arith;
      some = some_digit _ _ (rw q fits) more;
      fits = rw q fits;
      kept = take-set-le (l.at - 1) l.text (l.at - 1) digit (omega arith) ∙ kept_before l.at l.text c.args.text.now l.invariant.kept;
      so_far = rw q
          (digit_next l.text (l.at - 1) (value l.rest) digit _ (omega arith) (rw c.divide-parts.ensures.rest_value)
          (up_to l.at (value l.rest) l.text _ l.invariant.some l.invariant.so_far) (λ z. more (q ∙ z)));
    }
