-- What is written is no longer than what was read. Assumes nothing.
use borrow.Author.Tests.{eqb-true, eqb-false}
use mathlib.Core.List.{List, [], ◌∷◌}
use mathlib.Core.Path.{◌≡◌, refl}
use Prim.Native.Nat.{ℕ, zero, suc, ◌+◌, ◌≤◌}
use native.Mathlib.Omega.{arith}
use lib.Dec.{eqb}
use lib.ListN.{length, drop, length-append, length-drop}
use Rattle.laws.specs.Digits.{AreBytes}
use Rattle.laws.proofs.Test.{pick_yes, pick_no, by_order, by_test}
use Rattle.sorting.specs.Sorting.{put, puts, sorted}
use Rattle.sorting.proofs.Laws.{put_here, put_behind}
use Rattle.stream_writer.specs.Writer.{record_of}
use Rattle.stream_writer.proofs.Record.{drop_bytes}
use Rattle.mending.proofs.Keeping.{without_same, without_other}
use Rattle.mending.specs.Mender.{reading, read_in, without, kept, spelled, spans, mended}
use Rattle.piece.proofs.Laws.{is_whole_means}
use Rattle.piece.proofs.Tight.{record_tight}
use Rattle.piece.specs.Piece.{Record, kind_of, span_of, record_at, is_whole}

spelled_le : (c place : ℕ) (bs : List ℕ) → AreBytes bs → (length (spelled (reading c place bs)) ≤ spans (reading c place bs)) × (spans (reading c place bs) ≤ length bs)
unfolding reading spelled spans
spelled_le zero place bs bytes = (omega arith, omega arith)
spelled_le (suc c) place bs bytes =
    let e = record_at place bs in
    let n = span_of e in
    by_test (is_whole bs)
    (λ w.
    let later = spelled_le c (place + n) (drop n bs) (drop_bytes n bs bytes) in
    let i = is_whole_means bs w in
    rw (pick_yes _ (e ∷ reading c (place + n) (drop n bs)) [] w) (
      omega (arith, later.0, record_tight place bs bytes w, length-append (record_of (kind_of e) e.value) (spelled (reading c (place + n) (drop n bs)))),
      omega (arith, later.1, i.2, length-drop n bs),
    ))
    (λ w. rw (pick_no _ (e ∷ reading c (place + n) (drop n bs)) [] w) (omega arith, omega arith))

-- fewer records, and another order
without_le : (k : ℕ) (es : List Record) → length (spelled (without k es)) ≤ length (spelled es)
unfolding without spelled
without_le k [] = omega arith
without_le k (e ∷ es) =
    by_test (eqb (kind_of e) k)
    (λ t. rw (without_same k e es (eqb-true _ _ t)) (omega (arith, without_le k es, length-append (record_of (kind_of e) e.value) (spelled es))))
    (λ t. rw (without_other k e es (eqb-false _ _ t), spelled)
    (omega (arith, without_le k es, length-append (record_of (kind_of e) e.value) (spelled es), length-append (record_of (kind_of e) e.value) (spelled (without k es)))))

kept_le : (es : List Record) → length (spelled (kept es)) ≤ length (spelled es)
unfolding kept spelled
kept_le [] = omega arith
kept_le (e ∷ es) =
    omega (arith, kept_le es, without_le (kind_of e) (kept es), length-append (record_of (kind_of e) e.value) (spelled es), length-append (record_of (kind_of e) e.value) (spelled (without (kind_of e) (kept es))))

put_le : (e : Record) (es : List Record) → length (spelled (put kind_of e es)) ≡ length (record_of (kind_of e) e.value) + length (spelled es)
unfolding put spelled
put_le e [] = length-append (record_of (kind_of e) e.value) []
put_le e (x ∷ es) =
    by_order (kind_of x) (kind_of e)
    (λ h. rw (put_behind kind_of e x es h, spelled)
    (omega (arith, put_le e es, length-append (record_of (kind_of x) x.value) (spelled es), length-append (record_of (kind_of x) x.value) (spelled (put kind_of e es)))))
    (λ h. rw (put_here kind_of e x es h) (length-append (record_of (kind_of e) e.value) (spelled (x ∷ es))))

sorted_le : (es : List Record) → length (spelled (sorted kind_of es)) ≡ length (spelled es)
unfolding puts spelled
sorted_le [] = refl
sorted_le (e ∷ es) = omega (arith, put_le e (sorted kind_of es), sorted_le es, length-append (record_of (kind_of e) e.value) (spelled es))

pub mended_shorter : (s : List ℕ) → AreBytes s → length (mended s).bytes ≤ length s
mended_shorter s bytes =
    let es = read_in s in
    let a = spelled_le (length s) 0 s bytes in
    omega (arith, sorted_le (kept es), kept_le es, a.0, a.1)
