-- The records of a stream by their places. Assumes nothing.
use Rattle.std.specs.Prelude.{Option, Some, None}
use borrow.Author.Tests.{eq-eqb, ne_eqb, lt-ltb, le-ltb}
use mathlib.Core.Bool.{true, false}
use mathlib.Core.List.{List, [], ◌∷◌}
use mathlib.Core.Path.{◌≡◌, sym, ap, ◌∙◌}
use Prim.Native.Nat.{ℕ, zero, suc, ◌+◌, ◌≤◌, ◌<◌}
use native.Mathlib.Numerals.{add-one}
use native.Mathlib.Omega.{arith}
use lib.Dec.{eqb}
use lib.ListN.{length, get_or, drop, drop_of_length-le}
use lib.Seq.{drop-cons}
use Rattle.laws.specs.Test.{pick}
use Rattle.laws.proofs.Test.{pick_yes, pick_no, by_test}
use Rattle.piece.specs.Piece.{Record, kind_of, is_whole, same}
use Rattle.sorting.specs.Sorting.{Rises, key_by}
use Rattle.mending.specs.Mender.{differing}
use Rattle.mender.specs.Private.{record_from, records_at, AreWhole, lowered}

-- one of whole places
pub whole_at : (s places : List ℕ) (i : ℕ) → AreWhole s places → i < length places → is_whole (drop (get_or places i 0) s) ≡ true
unfolding AreWhole
whole_at s [] i w h = absurd (omega arith)
whole_at s (p ∷ places) zero w h = w.0
whole_at s (p ∷ places) (suc i) w h = whole_at s places i w.1 (omega arith)

-- the records from an index on
pub records_next : (s places : List ℕ) (i : ℕ) → i < length places →
    records_at s (drop i places) ≡ record_from s (get_or places i 0) ∷ records_at s (drop (suc i) places)
records_next s places i h = ap (records_at s) (drop-cons places i 0 h)

pub records_end : (s places : List ℕ) (i : ℕ) → length places ≤ i → records_at s (drop i places) ≡ []
records_end s places i h = ap (records_at s) (drop_of_length-le places {i = i} h)

pub records_rise : (s : List ℕ) (low : ℕ) (places : List ℕ) → Rises (key_by s false) low places → Rises kind_of low (records_at s places)
unfolding Rises
records_rise s low [] r = tt
records_rise s low (p ∷ places) r = (r.0, records_rise s (key_by s false p) places r.1)

-- two lists of numbers, one by one
module _ (a b : List ℕ) (i : ℕ) (p : i < length a) (q : i < length b) where
  turn : differing (drop i a) (drop i b) ≡ pick (eqb (get_or a i 0) (get_or b i 0)) 0 1 + differing (drop (suc i) a) (drop (suc i) b)
  unfolding differing
  turn = rw (drop-cons a i 0 p, drop-cons b i 0 q)

  pub differing_more : (get_or a i 0 ≡ get_or b i 0 → ⊥) → differing (drop i a) (drop i b) ≡ 1 + differing (drop (i + 1) a) (drop (i + 1) b)
  differing_more h = turn ∙ rw (add-one i, pick_no {A = ℕ} _ 0 1 (ne_eqb (get_or a i 0) (get_or b i 0) h))

  pub differing_same : get_or a i 0 ≡ get_or b i 0 → differing (drop i a) (drop i b) ≡ differing (drop (i + 1) a) (drop (i + 1) b)
  differing_same h = turn ∙ rw (add-one i, pick_yes {A = ℕ} _ 0 1 (eq-eqb (get_or a i 0) (get_or b i 0) h)) (omega arith)

pub differing_end : (a b : List ℕ) (i : ℕ) → length a ≤ i → differing (drop i a) (drop i b) ≡ 0
unfolding differing
differing_end a b i h = rw (drop_of_length-le a {i = i} h)

-- the least place of a record that disagrees
pub lowered_agree : (f e : Record) (m : Option ℕ) → same f.value e.value ≡ true → m ≡ lowered f e m
unfolding lowered
lowered_agree f e m h = sym (pick_yes _ _ _ h)

pub lowered_first : (f e : Record) → same f.value e.value ≡ false → Some e.place ≡ lowered f e None
unfolding lowered
lowered_first f e h = sym (pick_no _ _ _ h)

pub lowered_less : (f e : Record) (p : ℕ) → same f.value e.value ≡ false → e.place < p → Some e.place ≡ lowered f e (Some p)
unfolding lowered
lowered_less f e p h l = sym (pick_no _ _ _ h ∙ ap Some (pick_yes _ _ _ (lt-ltb _ _ l)))

pub lowered_more : (f e : Record) (p : ℕ) → p ≤ e.place → Some p ≡ lowered f e (Some p)
unfolding lowered
lowered_more f e p l = sym (by_test (same f.value e.value) (λ t. pick_yes _ _ _ t) (λ t. pick_no _ _ _ t ∙ ap Some (pick_no _ _ _ (le-ltb _ _ l))))
