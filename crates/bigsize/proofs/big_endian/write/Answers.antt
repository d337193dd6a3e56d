-- `bigsize::big_endian::write` meets its contract: each turn puts a byte behind those that were put. Assumes nothing.
use Rattle.std.proofs.Common.{arith, refl, ◌≡◌, ◌+◌, ◌-◌, ◌*◌, ◌/◌, ◌^◌, shr-shr}
use native.Mathlib.Nat.{div-one}
use Rattle.laws.specs.Digits.{to_digits}
use Rattle.laws.proofs.Digits.{sets_digits, to_one}
use Rattle.bigsize.proofs.big_endian.write.Goals as goal

pub loop-i-init : goal.loop-i-init
unfolding to_digits
loop-i-init g c = refl

pub loop-i-preserved : goal.loop-i-preserved
loop-i-preserved g c =
    let a = c.args in
    let i = c.loop-i.i in
    let rest = g.row.N - (i + 1) in
    let v = a.value / 2 ^ (8 * rest) in
    let last : (g.row.N - 1 - i) * 8 ≡ 8 * rest = omega arith in
    let before : 8 * rest + 8 * 1 ≡ 8 * (g.row.N - i) = omega arith in
    let put = rw (← before, ← (shr-shr a.value (8 * rest) (8 * 1))) at c.loop-i.invariant in
    rw last (sets_digits 8 i 1 v a.at a.out.now _ _ put (rw (to_one 8) refl))

pub returns : goal.returns
returns g c =
    let end : c.loop-i.i ≡ g.row.N = omega arith in
    let none : 8 * (g.row.N - c.loop-i.i) ≡ 0 = omega arith in
    rw (none, end, div-one) at c.loop-i.invariant
