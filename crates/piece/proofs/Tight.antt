-- No spelling is shorter than the shortest: a whole record takes no fewer bytes than in its shortest form. Assumes nothing.
use borrow.Author.Tests.{leb-true, ltb-true}
use mathlib.Core.Bool.{true}
use mathlib.Core.List.{List, [], ◌∷◌}
use mathlib.Core.Path.{◌≡◌, ap}
use Prim.Native.Nat.{ℕ, suc, ◌+◌, ◌*◌, ◌^◌, ◌≤◌, ◌<◌}
use native.Mathlib.Omega.{arith}
use lib.Dec.{leb}
use lib.ListN.{length, take, drop}
use Rattle.bigsize.specs.BigSize.{shortest, peeked, peeking}
use Rattle.bigsize.specs.declared.Number.{Number}
use Rattle.bigsize.proofs.Laws.{width_1, width_3, width_5, width_le}
use Rattle.laws.specs.Digits.{AreBytes, from_bytes}
use Rattle.laws.proofs.Digits.{from_part_below}
use Rattle.laws.proofs.Test.{pick_all, by_order}
use Rattle.stream_writer.specs.Writer.{record_of}
use Rattle.stream_writer.proofs.Record.{drop_bytes}
use Rattle.stream_writer.proofs.RowLaws.{length_record}
use Rattle.piece.specs.Piece.{kind_of, span_of, record_at, is_whole}
use Rattle.piece.proofs.Laws.{is_whole_means, value_length}

-- a number that is not cut short is below 2^64 and takes no fewer bytes than its shortest form
pub record Spelled (x : Number) : Type 0 where
  pub below : x.value < 2 ^ 64
  pub tight : 1 ≤ x.width → length (shortest x.value) ≤ x.width

three : (v : ℕ) → v < 2 ^ 16 → length (shortest v) ≤ 3
three v h = by_order v 253 (λ a. omega (arith, width_1 v a)) (λ a. omega (arith, width_3 v a h))

five : (v : ℕ) → v < 2 ^ 32 → length (shortest v) ≤ 5
five v h = by_order v 65536 (λ a. omega (arith, three v a)) (λ a. omega (arith, width_5 v a h))

peeked_spelled : (n : ℕ) (bs : List ℕ) → 2 ^ (8 * n) ≤ 2 ^ 64 → ((v : ℕ) → v < 2 ^ (8 * n) → length (shortest v) ≤ 1 + n) → AreBytes bs → Spelled (peeked n bs)
unfolding peeked
peeked_spelled n bs small h bytes =
    pick_all Spelled (leb n (length bs)) _ _
    (λ t. let b = from_part_below 8 bs 0 n (omega (arith, leb-true n (length bs) t)) bytes in record { below = omega (arith, b); tight = λ _. h (from_bytes (take n bs)) b })
    (λ _. record { below = omega arith; tight = λ w. absurd (omega arith) })

pub peeking_spelled : (bs : List ℕ) → AreBytes bs → Spelled (peeking bs)
unfolding peeking
peeking_spelled [] bytes = record { below = omega arith; tight = λ w. absurd (omega arith) }
peeking_spelled (b ∷ bs) bytes =
    let tail : AreBytes bs = λ i. bytes (suc i) in
    pick_all Spelled _ _ _ (λ t. record { below = omega (arith, ltb-true b 253 t); tight = λ _. omega (arith, width_1 b (ltb-true b 253 t)) }) λ _.
    pick_all Spelled _ _ _ (λ _. peeked_spelled 2 bs (omega arith) three tail) λ _.
    pick_all Spelled _ _ _ (λ _. peeked_spelled 4 bs (omega arith) five tail) λ _.
    peeked_spelled 8 bs (omega arith) (λ v _. width_le v) tail

-- the record at the front of some bytes
pub record_tight : (place : ℕ) (bs : List ℕ) → AreBytes bs → is_whole bs ≡ true → length (record_of (kind_of (record_at place bs)) (record_at place bs).value) ≤ span_of (record_at place bs)
record_tight place bs bytes h =
    let w = is_whole_means bs h in
    let e = record_at place bs in
    let n = value_length place bs h in
    let b = (peeking_spelled (drop e.type.width bs) (drop_bytes e.type.width bs bytes)).tight w.1 in
    omega (arith, length_record (kind_of e) e.value, n, ap (λ (m : ℕ). length (shortest m)) n, (peeking_spelled bs bytes).tight w.0, b)
