-- Records whose types and lengths are all spelled shortest are spelled as they stand in the stream. Assumes nothing.
use borrow.Author.Tests.{eqb-true}
use mathlib.Core.Bool.{true}
use mathlib.Core.List.{List, [], ◌∷◌, ◌++◌}
use mathlib.Core.Path.{◌≡◌, refl, sym, ap, ap₂, ◌∙◌}
use Prim.Native.Nat.{ℕ, zero, suc, ◌+◌, ◌≤◌}
use native.Mathlib.Nat.{add_assoc, zero-add}
use native.Mathlib.Omega.{arith}
use lib.Dec.{eqb}
use lib.ListN.{length, take, drop}
use Rattle.bigsize.specs.BigSize.{shortest, peeking}
use Rattle.bigsize.specs.declared.Number.{Number}
use Rattle.bigsize.proofs.Laws.{peeking_width, reading_short}
use Rattle.bigsize.proofs.RoundTrip.{read_is_shortest}
use Rattle.laws.specs.Digits.{AreBytes}
use Rattle.laws.proofs.Lists.{part_add}
use Rattle.laws.proofs.Test.{pick_yes, pick_no, split, by_test}
use Rattle.piece.specs.Piece.{kind_of, span_of, record_at, is_whole, longer}
use Rattle.piece.proofs.Laws.{is_whole_means, value_length}
use Rattle.stream_writer.specs.Writer.{record_of}
use Rattle.stream_writer.proofs.Record.{drop_bytes}
use Rattle.mending.specs.Mender.{reading, read_in, spelled, respelled, spans}

-- a number that is not spelled long takes the bytes of its shortest form
not_long : (x : Number) → longer x ≡ 0 → length (shortest x.value) ≡ x.width
not_long x h = split (eqb (length (shortest x.value)) x.width) 0 1 0 h (λ t _. eqb-true _ _ t) (λ _ z. absurd (omega (arith, z)))

shortest_there : (bs : List ℕ) → AreBytes bs → 1 ≤ (peeking bs).width → longer (peeking bs) ≡ 0 → take (peeking bs).width bs ≡ shortest (peeking bs).value
shortest_there bs bytes some h =
    (read_is_shortest bs (peeking bs) bytes (reading_short bs (omega (arith, (peeking_width bs).0)) (λ z. absurd (omega (arith, z))) (omega (arith, not_long (peeking bs) h)))).bytes

-- one record
copied : (place : ℕ) (bs : List ℕ) → AreBytes bs → is_whole bs ≡ true → longer (record_at place bs).type + longer (record_at place bs).size ≡ 0 →
    record_of (kind_of (record_at place bs)) (record_at place bs).value ≡ take (span_of (record_at place bs)) bs
unfolding record_of
copied place bs bytes w h =
    let e = record_at place bs in
    let i = is_whole_means bs w in
    let t = e.type.width in
    let a = shortest_there bs bytes i.0 (omega (arith, h)) in
    let b = shortest_there (drop t bs) (drop_bytes t bs bytes) i.1 (omega (arith, h)) in
    rw (value_length place bs w, ← a, ← b) (sym (ap (λ (n : ℕ). take n bs) (add_assoc t e.size.width e.size.value) ∙ part_add bs 0 t (e.size.width + e.size.value)
    ∙ ap (λ (l : List ℕ). take t bs ++ l) (rw zero-add (part_add bs t e.size.width e.size.value))))

reading_copied : (c place : ℕ) (bs : List ℕ) → AreBytes bs → respelled (reading c place bs) ≡ 0 → spelled (reading c place bs) ≡ take (spans (reading c place bs)) bs
unfolding reading spelled spans respelled
reading_copied zero place bs bytes h = refl
reading_copied (suc c) place bs bytes h =
    let e = record_at place bs in
    let n = span_of e in
    let rest = reading c (place + n) (drop n bs) in
    by_test (is_whole bs)
    (λ w.
    let is = pick_yes _ (e ∷ rest) [] w in
    let z : longer e.type + longer e.size + respelled rest ≡ 0 = rw (is, respelled) at h in
    rw (is, spelled, spans)
    (ap₂ (λ (l m : List ℕ). l ++ m) (copied place bs bytes w (omega (arith, z))) (reading_copied c (place + n) (drop n bs) (drop_bytes n bs bytes) (omega (arith, z)))
    ∙ sym (part_add bs 0 n (spans rest) ∙ rw zero-add)))
    (λ w. rw (pick_no _ (e ∷ rest) [] w))

pub spelled_copied : (s : List ℕ) → AreBytes s → respelled (read_in s) ≡ 0 → spelled (read_in s) ≡ take (spans (read_in s)) s
spelled_copied s bytes h = reading_copied (length s) 0 s bytes h
