-- BigSize there and back, on the definitions that the contracts of `read`, `width` and `write` cite. Assumes nothing.
use Rattle.std.specs.Prelude.{Ok}
use mathlib.Core.Path.{◌≡◌, refl, sym, ap, ◌∙◌}
use mathlib.Core.List.{List, [], ◌∷◌, ◌++◌}
use Prim.Native.Nat.{ℕ, suc, ◌+◌, ◌*◌, ◌^◌, ◌≤◌, ◌<◌}
use native.Mathlib.Nat.{lt_of_lt_of_le}
use native.Mathlib.Numerals.{one-add}
use native.Mathlib.Omega.{arith}
use lib.Dec.{ltb, eqb}
use lib.ListN.{length, take, drop, length-append}
use lib.Pow.{pow_mono}
use lib.Seq.{take_at, length-take-le}
use borrow.Author.Tests.{ltb-true, ltb-false, leb-true, eqb-true, eqb-false}
use Rattle.laws.specs.Digits.{AreBytes, from_bytes, to_bytes}
use Rattle.laws.specs.Test.{pick}
use Rattle.laws.proofs.Digits.{take_digits, length_digits, from_to_whole, to_from, from_below}
use Rattle.laws.proofs.Test.{pick_ap, split, by_order}
use Rattle.answer.proofs.Answer.{ensured}
use Rattle.answer.specs.Answer.{mapped, filled}
use Rattle.bigsize.specs.BigSize.{number, shortest, at_least, spelled, reading, writing, ReadShortest}
use Rattle.bigsize.specs.declared.Number.{Number}
use Rattle.bigsize.proofs.Laws.{shortest_1, shortest_3, shortest_5, shortest_9, spelled_whole, reading_1, reading_3, reading_5, reading_9, at_least_yes, writing_fits, written_fits}

-- The first byte m, the n bytes of v and whatever follows are read as v.
read_marked : (m n least v : ℕ) (rest : List ℕ) → reading (m ∷ to_bytes n v ++ rest) ≡ spelled n least (to_bytes n v ++ rest) →
    least ≤ v → v < 2 ^ (8 * n) → reading (m ∷ to_bytes n v ++ rest) ≡ Ok (number v (length (m ∷ to_bytes n v)))
read_marked m n least v rest form low high =
    form
    ∙ spelled_whole n least (to_bytes n v ++ rest) (omega (arith, length-append (to_bytes n v) rest, length_digits 8 n v))
    ∙ rw (take_at (to_bytes n v) rest n (length_digits 8 n v), from_to_whole 8 n v high, at_least_yes least (number v (1 + n)) low, length_digits 8 n v, one-add n)

-- The shortest form of a 64-bit number is read back, with its width, whatever follows it.
pub read_shortest : (v : ℕ) → v < 2 ^ 64 → (rest : List ℕ) → reading (shortest v ++ rest) ≡ Ok (number v (length (shortest v)))
read_shortest v fits rest =
    by_order v 253 (λ h. rw (shortest_1 v h) (reading_1 (v ∷ rest) (omega arith) h)) λ a.
    by_order v 65536 (λ h. rw (shortest_3 v a h) (read_marked 253 2 253 v rest (reading_3 _ refl) a h)) λ b.
    by_order v (2 ^ 32) (λ h. rw (shortest_5 v b h) (read_marked 254 4 65536 v rest (reading_5 _ refl) b h)) λ c.
    rw (shortest_9 v c) (read_marked 255 8 (2 ^ 32) v rest (reading_9 _ (omega arith)) c fits)

-- What `write` answers with a width and leaves in its output is read back as the value with that width.
pub read_written : (v w : ℕ) (out : List ℕ) → v < 2 ^ 64 → mapped length (writing v (length out)) ≡ Ok w →
    reading (filled (writing v (length out)) out) ≡ Ok (number v w)
read_written v w out fits h =
    let f = written_fits v (length out) w (sym h) in
    rw (writing_fits v (length out) (omega arith), f.0) (read_shortest v fits (drop (length (shortest v)) out))

record Spelled (n least : ℕ) (bs : List ℕ) (x : Number) : Type 0 where
  whole : n ≤ length bs
  above : least ≤ from_bytes (take n bs)
  is : x ≡ number (from_bytes (take n bs)) (1 + n)

was_spelled : (n least : ℕ) (bs : List ℕ) (x : Number) → spelled n least bs ≡ Ok x → Spelled n least bs x
unfolding spelled at_least
was_spelled n least bs x h =
    let a = ensured _ _ _ x h in
    let b = ensured _ _ _ x a.rest in
    record { whole = leb-true n (length bs) a.holds; above = leb-true least (from_bytes (take n bs)) b.holds; is = cc }

-- a number behind the first byte m, where m and n bytes are the shortest form from `least` on
marked_shortest : (m n least : ℕ) (bs : List ℕ) (x : Number) → AreBytes bs → n ≤ 8 →
    ((v : ℕ) → least ≤ v → v < 2 ^ (8 * n) → shortest v ≡ m ∷ to_bytes n v) → spelled n least bs ≡ Ok x → ReadShortest (m ∷ bs) x
marked_shortest m n least bs x h small form e =
    rw s.is
    (record {
      fits = lt_of_lt_of_le below (pow_mono {j = 64} (omega arith));
      width = rw (is, length_digits 8 n v) (one-add n);
      inside = omega (arith, s.whole);
      bytes = rw (one-add, is) (ap (λ (l : List ℕ). m ∷ l) (sym (rw long at (to_from 8 (take n bs) (take_digits 8 n bs h)))));
    })
  where
    s : Spelled n least bs x
    s = was_spelled n least bs x e

    v : ℕ
    v = from_bytes (take n bs)

    long : length (take n bs) ≡ n
    long = length-take-le n bs s.whole

    below : v < 2 ^ (8 * n)
    below = rw long at (from_below 8 (take n bs) (take_digits 8 n bs h))

    is : shortest v ≡ m ∷ to_bytes n v
    is = form v s.above below

-- What `read` accepts is the shortest form of its value: so no other form is accepted.
pub read_is_shortest : (s : List ℕ) (x : Number) → AreBytes s → reading s ≡ Ok x → ReadShortest s x
unfolding reading
read_is_shortest [] x h e = absurd (let z : ◌≡◌ {A = ℕ} 0 1 = cc in omega arith)
read_is_shortest (b ∷ bs) x h e =
    split (ltb b 253) (Ok (number b 1)) _ (Ok x) e
    (λ c e.
    let is : x ≡ number b 1 = cc in
    let one : shortest b ≡ b ∷ [] = shortest_1 b (ltb-true b 253 c) in
    rw is (record { fits = omega (arith, ltb-true b 253 c); width = rw one; inside = omega arith; bytes = rw one })) λ from-253 e.
    split (eqb b 253) (spelled 2 253 bs) _ (Ok x) e
    (λ c e. rw (eqb-true b 253 c) (marked_shortest 253 2 253 bs x tail (omega arith) shortest_3 e)) λ not-253 e.
    split (eqb b 254) (spelled 4 65536 bs) _ (Ok x) e
    (λ c e. rw (eqb-true b 254 c) (marked_shortest 254 4 65536 bs x tail (omega arith) shortest_5 e)) λ not-254 e.
    let is : b ≡ 255 = omega (arith, h 0, ltb-false b 253 from-253, eqb-false b 253 not-253, eqb-false b 254 not-254) in
    rw is (marked_shortest 255 8 (2 ^ 32) bs x tail (omega arith) (λ v l _. shortest_9 v l) e)
  where
    tail : AreBytes bs
    tail k = h (suc k)

-- What `read` accepts, `write` makes of the value, in every output that it fits.
pub read_is_written : (s : List ℕ) (x : Number) → AreBytes s → reading s ≡ Ok x → (room : ℕ) → x.width ≤ room →
    writing x.value room ≡ Ok (take x.width s)
read_is_written s x h e room fits =
    let r = read_is_shortest s x h e in
    writing_fits x.value room (omega (arith, r.width)) ∙ ap Ok (sym r.bytes)

-- The width is 1, 3, 5 or 9, by the value.
pub widths : (v : ℕ) → length (shortest v) ≡ pick (ltb v 253) 1 (pick (ltb v 65536) 3 (pick (ltb v (2 ^ 32)) 5 9))
unfolding shortest
widths v = simp (shortest, pick_ap (length {A = ℕ}), length_digits 8)
