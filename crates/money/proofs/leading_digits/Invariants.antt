use Rattle.std.proofs.Common.{◌≡◌, ◌+◌, take, drop}
use Rattle.money.specs.Amount.{digit_count, from_decimal}
use Rattle.money.proofs.leading_digits.Given as goal

-- the digits passed and those left are all at the front, and the number is of those passed
abbrev pub invariant-loop-i : goal.invariant-loop-i
invariant-loop-i l = record { counted : l.i + digit_count (drop l.i l.text) ≡ digit_count l.text; number : l.number ≡ from_decimal (take l.i l.text) }
