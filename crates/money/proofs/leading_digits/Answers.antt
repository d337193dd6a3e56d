-- A digit more, another character, and the end of the first 19.
use Rattle.std.proofs.Common.{◌≡◌, ℕ, ◌^◌, ◌<◌, ◌≤◌, true, List, length, get_or, take, min, refl, sym, ap, ◌∙◌, add-one, arith}
use Rattle.std.proofs.lemmas.List.{get_or-take, length-take}
use Rattle.laws.proofs.Test.{by_order}
use Rattle.money.specs.Amount.{is_digit, from_decimal}
use Rattle.money.proofs.DigitLaws.{digit_range, count_digit, count_other, count_end, decimal_few, decimal_next}
use Rattle.money.proofs.leading_digits.Goals as goal
use Rattle.money.proofs.leading_digits.Goals.{Else-not-is_digit}

-- a place in the first 19 characters
record Place (s : List ℕ) (m i : ℕ) : Type 0 where
  within : i < length s
  below : i < 19
  same : get_or (take m s) i 0 ≡ get_or s i 0

place : (s : List ℕ) (m i : ℕ) → m ≡ min (length s) 19 → i < length (take m s) → Place s m i
place s m i e h =
    let front : i < m = omega (arith, length-take m s) in
    record { within = omega arith; below = omega arith; same = get_or-take m s i 0 front }

-- the digit at hand, its place, and the number so far
record Turn (c : Else-not-is_digit) : Type 0 where
  at : Place c.args.text.now c.min.result c.loop-i.i
  digit : is_digit (get_or c.args.text.now c.loop-i.i 0) ≡ true
  low : 48 ≤ get_or c.args.text.now c.loop-i.i 0
  high : get_or c.args.text.now c.loop-i.i 0 ≤ 57
  small : c.loop-i.number < 10 ^ 18

turn : (c : Else-not-is_digit) → Turn c
turn c =
    let s = c.args.text.now in
    let l = c.loop-i in
    let p = place s c.min.result l.i c.min.ensures c.loop-i-test.true in
    let d = ap is_digit (sym p.same) ∙ sym c.is_digit.ensures ∙ c.if-not-is_digit.false in
    let range = digit_range (get_or s l.i 0) d in
    record {
      at = p;
      digit = d;
      low = range.0;
      high = range.1;
      small = rw l.invariant.number (decimal_few 18 s l.i (omega (arith, l.invariant.counted)) (omega (arith, p.below)));
    }

pub loop-i-init : goal.loop-i-init
unfolding from_decimal
loop-i-init c = record { counted = omega arith; number = refl }

pub returns-then-not-is_digit : goal.returns-then-not-is_digit
returns-then-not-is_digit c =
    let s = c.args.text.now in
    let l = c.loop-i in
    let p = place s c.min.result l.i c.min.ensures c.loop-i-test.true in
    let other = ap is_digit (sym p.same) ∙ sym c.is_digit.ensures ∙ c.if-not-is_digit.true in
    record { count_value = omega (arith, count_other s l.i p.within other, l.invariant.counted, p.below); number_value = l.invariant.number }

pub overflow_mul-number : goal.overflow_mul-number
overflow_mul-number c = omega (arith, turn (goal.at.overflow_mul-number c).Else-not-is_digit)

pub overflow_add-number : goal.overflow_add-number
overflow_add-number c =
    let t = turn (goal.at.overflow_add-number c).Else-not-is_digit in
    omega (arith, t, t.at.same, c.from.ensures)

pub loop-i-preserved : goal.loop-i-preserved
loop-i-preserved c =
    let s = c.args.text.now in
    let l = c.loop-i in
    let t = turn (goal.at.loop-i-preserved c).Else-not-is_digit in
    record {
      counted = rw add-one (omega (arith, count_digit s l.i t.at.within t.digit, l.invariant.counted));
      number = rw (add-one, c.from.ensures, t.at.same, l.invariant.number) (sym (decimal_next s l.i t.at.within));
    }

pub returns : goal.returns
returns c =
    let s = c.args.text.now in
    let l = c.loop-i in
    let size = length-take c.min.result s in
    let all : length (take c.min.result s) ≡ l.i = omega arith in
    record {
      count_value =
          by_order 19 (length s)
          (λ many. omega (arith, size, l.invariant.counted))
          (λ few. omega (arith, size, l.invariant.counted, count_end s l.i (omega (arith, size))));
      number_value = rw all l.invariant.number;
    }
