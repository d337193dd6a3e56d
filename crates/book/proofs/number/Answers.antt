use Rattle.std.proofs.Common.{◌≡◌, ◌∙◌, ℕ, ◌+◌, ◌*◌, ◌^◌, ◌<◌, get_or, drop, refl, sym, ap, arith, length-drop}
use Rattle.std.proofs.Math.Nat.{lt_of_lt_of_le}
use lib.Arith.{digits_lt}
use lib.Dec.{lit<}
use lib.Pow.{pow-add, pow_mono}
use lib.Seq.{get_or-drop}
use Rattle.laws.specs.Digits.{from_digits}
use Rattle.laws.proofs.Digits.{from_turn}
use Rattle.book.proofs.number.Goals as goal

pub loop-i-init : goal.loop-i-init
unfolding from_digits
loop-i-init c = record { so_far = refl; fits = lit< tt }

-- fewer than eight bytes leave room for one more
room : (n i : ℕ) → n < 2 ^ (8 * i) → i < 8 → n < 2 ^ 56
room n i h few = lt_of_lt_of_le h (pow_mono {i = 8 * i} {j = 56} (omega arith))

pub overflow_mul-n : goal.overflow_mul-n
overflow_mul-n c = omega (arith, room c.loop-i.n c.loop-i.i c.loop-i.invariant.fits (omega arith))

pub overflow_add-n-in-loop-i : goal.overflow_add-n-in-loop-i
overflow_add-n-in-loop-i c =
    omega (arith, room c.loop-i.n c.loop-i.i c.loop-i.invariant.fits (omega arith), c.type_inv.bytes (c.args.at + c.loop-i.i))

pub loop-i-preserved : goal.loop-i-preserved
loop-i-preserved c =
    let l = c.loop-i in
    let s = c.args.bytes.now in
    let more : 8 * (l.i + 1) ≡ 8 * l.i + 8 = omega arith in record {
      so_far = ap (λ (x : ℕ). x * 256 + get_or s (c.args.at + l.i) 0) l.invariant.so_far
          ∙ sym (from_turn 8 (drop c.args.at s) l.i (omega (arith, length-drop c.args.at s)) ∙ rw get_or-drop);
      fits = rw (more, pow-add) (digits_lt l.invariant.fits (c.type_inv.bytes (c.args.at + l.i)).fits);
    }
