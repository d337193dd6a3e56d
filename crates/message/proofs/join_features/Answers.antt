-- `message::join_features` meets its contract: the bytes left, put behind those that were put, are the joined maps. Assumes nothing.
use Rattle.std.proofs.Common.{arith, refl, sym, ap, ◌∙◌, Ok, Err, max, ◌<◌, ◌≤◌, length}
use mathlib.Core.Path.{ap₂}
use lib.Bits.{bit_or}
use lib.ListN.{length-set, drop_of_length-le}
use Rattle.laws.proofs.Lists.{sets_front}
use Rattle.message.specs.Features.{joined}
use Rattle.message.proofs.FeatureLaws.{length_joined, joined_byte, joining_fits, joining_short, put_next}
use Rattle.message.proofs.join_features.Goals as goal

pub returns-then-out-n : goal.returns-then-out-n
returns-then-out-n c =
    let a = c.args in
    rw (joining_short a.a.now a.b.now (length a.out.now) (omega (arith, c.max-n.ensures, c.if-out-n.true))) record { result_value = ap Err c.bare.ensures; out_after = refl }

pub loop-i-preserved : goal.loop-i-preserved
loop-i-preserved c =
    let h = c.loop-i in
    let a = c.args in
    let n = rw h.invariant.0 at c.padded_byte.ensures in
    let m = rw h.invariant.0 at c.padded_byte-in-loop-i.ensures in
    let within : h.i < max (length a.a.now) (length a.b.now) = omega (arith, h.invariant.0) in
    let byte = ap₂ bit_or n m ∙ sym (joined_byte a.a.now a.b.now h.i within) in (
      h.invariant.0,
      simp length-set h.invariant.1,
      simp length-set h.invariant.2,
      put_next h.out (joined a.a.now a.b.now) h.i _ (omega (arith, within, length_joined a.a.now a.b.now)) byte ∙ h.invariant.3,
    )

pub returns : goal.returns
returns c =
    let h = c.loop-i in
    let a = c.args in
    let size = length_joined a.a.now a.b.now in
    let none = drop_of_length-le (joined a.a.now a.b.now) {i = h.i} (omega (arith, h.invariant.0, size)) in
    let fits : max (length a.a.now) (length a.b.now) ≤ length a.out.now = omega (arith, h.invariant.0, c.if-out-n.false) in
    rw (joining_fits a.a.now a.b.now (length a.out.now) fits) record {
      result_value = ap Ok (h.invariant.0 ∙ sym size);
      out_after = (rw none at h.invariant.3) ∙ sets_front a.out.now (joined a.a.now a.b.now) (omega (arith, fits, size));
    }
