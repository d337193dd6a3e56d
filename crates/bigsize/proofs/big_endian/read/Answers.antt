-- `bigsize::big_endian::read` meets its contract: each turn takes a byte more. Assumes nothing.
use Rattle.std.proofs.Common.{arith, refl, sym, ◌≡◌, ◌∙◌, ℕ, ◌+◌, ◌*◌, ◌^◌, ◌<◌, ◌≤◌, List, length, get_or, take, drop}
use lib.Pow.{pow_mono}
use Rattle.laws.specs.Digits.{AreBytes, from_bytes, from_digits}
use Rattle.laws.proofs.Digits.{from_part_add, from_part_one, from_part_below}
use Rattle.bigsize.proofs.big_endian.read.Goals as goal

-- one byte more
next : (s : List ℕ) (at i : ℕ) → at + i < length s → from_bytes (take (i + 1) (drop at s)) ≡ from_bytes (take i (drop at s)) * 256 + get_or s (at + i) 0
next s at i h = from_part_add 8 s at i 1 (omega arith) ∙ rw (from_part_one 8 s (at + i) h)

-- up to seven bytes leave room for one more
few : (s : List ℕ) (at i : ℕ) → AreBytes s → at + i ≤ length s → i ≤ 7 → from_bytes (take i (drop at s)) < 2 ^ 56
few s at i are fits h = omega (arith, from_part_below 8 s at i fits are, pow_mono {i = 8 * i} {j = 56} (omega arith))

pub loop-i-init : goal.loop-i-init
unfolding from_digits
loop-i-init g c = refl

pub overflow_mul-value : goal.overflow_mul-value
overflow_mul-value g c =
    let bytes : AreBytes c.args.bytes.now = λ k. (c.type_inv.bytes k).fits in
    omega (arith, c.loop-i.invariant, c.requires, few c.args.bytes.now c.args.at c.loop-i.i bytes (omega (arith, c.requires)) (omega (arith, c.requires)))

pub overflow_add-value-in-loop-i : goal.overflow_add-value-in-loop-i
overflow_add-value-in-loop-i g c =
    let bytes : AreBytes c.args.bytes.now = λ k. (c.type_inv.bytes k).fits in
    omega (
      arith,
      c.loop-i.invariant,
      bytes (c.args.at + c.loop-i.i),
      few c.args.bytes.now c.args.at c.loop-i.i bytes (omega (arith, c.requires)) (omega (arith, c.requires)),
    )

pub loop-i-preserved : goal.loop-i-preserved
loop-i-preserved g c = rw c.loop-i.invariant (sym (next c.args.bytes.now c.args.at c.loop-i.i (omega (arith, c.requires))))

pub returns : goal.returns
returns g c =
    let end : c.loop-i.i ≡ g.row.N = omega arith in
    rw (← end) c.loop-i.invariant
