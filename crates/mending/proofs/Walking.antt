-- The records of a stream, one by one. Assumes nothing.
use mathlib.Core.Bool.{true, false}
use mathlib.Core.List.{List, [], ◌∷◌}
use mathlib.Core.Path.{◌≡◌, refl, sym, ap, ◌∙◌}
use Prim.Native.Nat.{ℕ, zero, suc, ◌+◌, ◌-◌, ◌≤◌}
use native.Mathlib.Omega.{arith}
use lib.ListN.{length, drop, length-drop}
use Rattle.laws.proofs.Test.{pick_yes, pick_no, by_test}
use Rattle.piece.specs.Piece.{Record, span_of, record_at, is_whole}
use Rattle.piece.proofs.Laws.{is_whole_means, nothing_whole}
use Rattle.mending.specs.Mender.{reading}

-- more counts change nothing
enough : (c d place : ℕ) (bs : List ℕ) → length bs ≤ c → length bs ≤ d → reading c place bs ≡ reading d place bs
unfolding reading
enough zero zero place bs h k = refl
enough zero (suc d) place [] h k = sym (pick_no _ _ _ nothing_whole)
enough zero (suc d) place (b ∷ bs) h k = absurd (omega arith)
enough (suc c) zero place [] h k = pick_no _ _ _ nothing_whole
enough (suc c) zero place (b ∷ bs) h k = absurd (omega arith)
enough (suc c) (suc d) place bs h k =
    by_test (is_whole bs)
    (λ w.
    let n = span_of (record_at place bs) in
    let inside = is_whole_means bs w in
    let l : length (drop n bs) ≤ length bs - n = omega (arith, length-drop n bs) in
    pick_yes _ _ _ w ∙ ap (λ (es : List Record). record_at place bs ∷ es) (enough c d (place + n) (drop n bs) (omega (arith, inside.0, inside.2)) (omega (arith, inside.0, inside.2))) ∙ sym (pick_yes _ _ _ w))
    (λ w. pick_no _ _ _ w ∙ sym (pick_no _ _ _ w))

abbrev pub walk : (place : ℕ) → List ℕ → List Record
walk place bs = reading (length bs) place bs

pub walk_next : (place : ℕ) (bs : List ℕ) → is_whole bs ≡ true →
    walk place bs ≡ record_at place bs ∷ walk (place + span_of (record_at place bs)) (drop (span_of (record_at place bs)) bs)
unfolding reading
walk_next place bs w =
    let inside = is_whole_means bs w in
    let n = span_of (record_at place bs) in
    enough (length bs) (suc (length bs)) place bs (omega arith) (omega arith)
    ∙ pick_yes _ _ _ w
    ∙ ap (λ (es : List Record). record_at place bs ∷ es) (enough (length bs) (length (drop n bs)) (place + n) (drop n bs) (omega (arith, length-drop n bs)) (omega arith))

pub walk_end : (place : ℕ) (bs : List ℕ) → is_whole bs ≡ false → walk place bs ≡ []
unfolding reading
walk_end place bs w = enough (length bs) (suc (length bs)) place bs (omega arith) (omega arith) ∙ pick_no _ _ _ w
