-- What is carried is whether the sum of the low half does not fit.
use Rattle.std.specs.Bool.{FalseIff}
use Rattle.std.proofs.Common.{◌≡◌, ℕ, ◌+◌, ◌*◌, ◌/◌, ◌^◌, ◌<◌, Bool, true, false, sym, arith}
use mir.Val.{bool_byte}
use Rattle.halves.proofs.Laws.{carried}
use Rattle.halves.proofs.add.Goals as goal

one_carried : (n : ℕ) (over : Bool) → n < 2 * 2 ^ 64 → FalseIff over (n < 2 ^ 64) → bool_byte over ≡ n / 2 ^ 64
one_carried n true fits h = omega arith
one_carried n false fits h = omega arith

pub returns : goal.returns
returns c =
    let a = c.args in
    rw (c.from.ensures, c.overflowing_add-low.ensures.value, one_carried (a.sum.low + a.x) _ (omega arith) c.overflowing_add-low.ensures.overflow)
    (sym (carried a.sum.high a.sum.low a.x))
