-- Byte by byte.
use native.Mathlib.Numerals.{add-one}
use native.Mathlib.Omega.{arith}
use mathlib.Core.List.{◌∷◌}
use mathlib.Core.Path.{◌≡◌, sym, ap, ◌∙◌}
use Prim.Native.Nat.{ℕ, suc, ◌+◌}
use lib.ListN.{drop, length-set, drop_of_length-le}
use lib.Seq.{drop-cons}
use Rattle.laws.proofs.Lists.{sets_front}
use Rattle.invoice_content.proofs.EntryLaws.{key_at, few_below, key_length, key_byte}
use Rattle.invoice_content.proofs.put_key.Goals as goal

pub overflow_cast-out : goal.overflow_cast-out
overflow_cast-out c =
    let a = c.args in
    omega (arith, c.few_bytes.ensures, few_below a.groups.now (a.at + c.loop-i.i) 1 (omega arith))

pub loop-i-preserved : goal.loop-i-preserved
loop-i-preserved c =
    let a = c.args in
    let i = c.loop-i.i in
    let key = key_at a.groups.now a.at in
    let next : drop i key ≡ c.few_bytes.result ∷ drop (suc i) key =
    drop-cons key i 0 (omega (arith, key_length a.groups.now a.at (omega arith)))
    ∙ ap (λ (b : ℕ). b ∷ drop (suc i) key) (key_byte a.groups.now a.at (omega arith) i (omega arith) ∙ sym c.few_bytes.ensures) in
    (simp length-set c.loop-i.invariant.0, rw add-one (rw next at c.loop-i.invariant.1))

pub returns : goal.returns
returns c =
    let a = c.args in
    let key = key_at a.groups.now a.at in
    let size = key_length a.groups.now a.at (omega arith) in
    (rw (drop_of_length-le key {i = c.loop-i.i} (omega (arith, size))) at c.loop-i.invariant.1) ∙ sets_front a.out.now key (omega (arith, size))
