-- The list of broken rules, made rule by rule. Assumes nothing.
use mathlib.Core.Bool.{Bool, true, false}
use mathlib.Core.List.{List, [], ◌∷◌, ◌++◌, append-nil, append_assoc, Memᴰ}
use mathlib.Core.Logic.{◌↔◌, ⊎_elim}
use mathlib.Core.Path.{◌≡◌, refl, sym, ap, ◌∙◌}
use Prim.Native.Nat.{ℕ, zero, suc, ◌+◌, ◌-◌, ◌≤◌, ◌<◌}
use native.Mathlib.Nat.{add-zero}
use native.Mathlib.Numerals.{add-one}
use native.Mathlib.Omega.{arith}
use lib.ListN.{length, get_or, set, take, replicate, length-append, length-take}
use lib.Seq.{set-append_seam, append_snoc, take-suc}
use Rattle.invoice.specs.Invoice.{Contents}
use Rattle.laws.specs.Test.{pick}
use Rattle.laws.proofs.Test.{pick_yes, pick_no, pick_all, by_test}
use Rattle.till.specs.Private.{failing}
use Rattle.till.specs.Till.{rules, Breaks, Lists, profile_of}

-- the zeros behind a list are one fewer with one rule more
room : (list : List ℕ) (rule n : ℕ) → set (list ++ replicate (suc n) 0) (length list) rule ≡ (list ++ rule ∷ []) ++ replicate n 0
room list rule n = set-append_seam list 0 (replicate n 0) rule ∙ sym (append_snoc list rule (replicate n 0))

more_room : (list : List ℕ) (rule : ℕ) → length list < 6 → set (list ++ replicate (6 - length list) 0) (length list) rule ≡ (list ++ rule ∷ []) ++ replicate (6 - length (list ++ rule ∷ [])) 0
more_room list rule h =
    let n = 6 - length (list ++ rule ∷ []) in
    let left : 6 - length list ≡ suc n = omega (arith, length-append list (rule ∷ [])) in
    ap (λ (k : ℕ). set (list ++ replicate k 0) (length list) rule) left ∙ room list rule n

-- The numbers of the tests that fail, from the first test on.
module _ (rule : ℕ) (b : Bool) (kept : List Bool) where
  failing_kept : b ≡ true → failing rule (b ∷ kept) ≡ failing (suc rule) kept
  unfolding failing
  failing_kept h = rw (pick_yes b [] (rule ∷ []) h) refl

  failing_broken : b ≡ false → failing rule (b ∷ kept) ≡ rule ∷ failing (suc rule) kept
  unfolding failing
  failing_broken h = rw (pick_no b [] (rule ∷ []) h) refl

failing_none : (rule : ℕ) → failing rule [] ≡ []
unfolding failing
failing_none rule = refl

-- with one test more behind the others
failing_behind : (rule : ℕ) (kept : List Bool) (b : Bool) → failing rule (kept ++ (b ∷ [])) ≡ failing rule kept ++ pick b [] ((rule + length kept) ∷ [])
unfolding failing
failing_behind rule [] b = simp (append-nil, add-zero)
failing_behind rule (k ∷ kept) b =
    let next : suc rule + length kept ≡ rule + suc (length kept) = omega arith in
    rw (failing_behind (suc rule) kept b, next) (sym (append_assoc (pick k [] (rule ∷ [])) (failing (suc rule) kept) _))

failing_short : (rule : ℕ) (kept : List Bool) → length (failing rule kept) ≤ length kept
unfolding failing
failing_short rule [] = omega arith
failing_short rule (k ∷ kept) =
    pick_all (λ (l : List ℕ). length (l ++ failing (suc rule) kept) ≤ suc (length kept)) k [] (rule ∷ []) (λ _. omega (arith, failing_short (suc rule) kept))
    λ _. omega (arith, failing_short (suc rule) kept)

-- A list under way: the rules whose tests failed among the first ones, with zeros behind them.
pub record Listed (kept : List Bool) (count : ℕ) (list : List ℕ) : Type 0 where
  pub counted : count ≡ length (failing 1 kept)
  pub listed : list ≡ failing 1 kept ++ replicate (6 - length (failing 1 kept)) 0

pub listed_all : (kept : List Bool) (count : ℕ) (list : List ℕ) → Listed kept count list → record { count = count; rules = list } ≡ profile_of (failing 1 kept)
listed_all kept count list l = rw (l.counted, l.listed)

pub listed_none : Listed [] 0 (replicate 6 0)
unfolding failing
listed_none = record { counted = refl; listed = refl }

module _ (kept : List Bool) (d : Bool) (i count : ℕ) (list : List ℕ) (within : i < length kept) (so_far : Listed (take i kept) count list) where
  one_more : failing 1 (take (i + 1) kept) ≡ failing 1 (take i kept) ++ pick (get_or kept i d) [] ((i + 1) ∷ [])
  one_more =
      let place : 1 + length (take i kept) ≡ i + 1 = omega (arith, length-take i kept) in
      rw (add-one, take-suc kept i d within, failing_behind 1 (take i kept) (get_or kept i d), place, add-one)

  pub listed_few : count ≤ i
  listed_few = omega (arith, so_far.counted, failing_short 1 (take i kept), length-take i kept)

  -- a test that holds, and one that fails
  pub listed_kept : get_or kept i d ≡ true → Listed (take (i + 1) kept) count list
  listed_kept holds =
      let same : failing 1 (take (i + 1) kept) ≡ failing 1 (take i kept) = one_more ∙ rw (pick_yes {A = List ℕ} _ _ _ holds) (append-nil _) in
      record { counted = rw same so_far.counted; listed = rw same so_far.listed }

  pub listed_broken : get_or kept i d ≡ false → i < 6 → Listed (take (i + 1) kept) (count + 1) (set list count (i + 1))
  listed_broken fails six =
      let before = failing 1 (take i kept) in
      let more : failing 1 (take (i + 1) kept) ≡ before ++ ((i + 1) ∷ []) = one_more ∙ rw (pick_no {A = List ℕ} _ _ _ fails) in
      record {
        counted = rw more (omega (arith, so_far.counted, length-append before ((i + 1) ∷ [])));
        listed = rw (more, so_far.listed, so_far.counted) (more_room before (i + 1) (omega (arith, so_far.counted, listed_few)));
      }

-- they are those of the failing tests
fails_at : (rule k : ℕ) (kept : List Bool) → Memᴰ k (failing rule kept) → (i : ℕ) × (k ≡ rule + i) × (i < length kept) × (get_or kept i true ≡ false)
fails_at rule k [] m = absurd (mathlib.Core.List.Memᴰ.not-nil (rw (failing_none rule) at m))
fails_at rule k (b ∷ kept) m =
    by_test b
    (λ yes. later (fails_at (suc rule) k kept (rw (failing_kept rule b kept yes) at m)))
    λ fails.
    ⊎_elim
    (λ e. (0, omega arith, omega arith, fails))
    (λ more. later (fails_at (suc rule) k kept more))
    (mathlib.Core.List.Memᴰ.cases_cons (rw (failing_broken rule b kept fails) at m))
  where
    later : (i : ℕ) × (k ≡ suc rule + i) × (i < length kept) × (get_or kept i true ≡ false) → (i : ℕ) × (k ≡ rule + i) × (i < suc (length kept)) × (get_or (b ∷ kept) i true ≡ false)
    later h = (suc h.0, omega (arith, h.1), omega (arith, h.2), h.3)

at_fails : (rule i : ℕ) (kept : List Bool) → i < length kept → get_or kept i true ≡ false → Memᴰ (rule + i) (failing rule kept)
at_fails rule i [] h fails = absurd (omega arith)
at_fails rule zero (b ∷ kept) h fails = rw (failing_broken rule b kept fails) (mathlib.Core.List.Memᴰ.head (add-zero rule))
at_fails rule (suc i) (b ∷ kept) h fails =
    let later : Memᴰ (rule + suc i) (failing (suc rule) kept) = mathlib.Core.List.Memᴰ.cast (let e : rule + suc i ≡ suc rule + i = omega arith in e) (at_fails (suc rule) i kept (omega arith) fails) in
    by_test b (λ yes. rw (failing_kept rule b kept yes) later) (λ broken. rw (failing_broken rule b kept broken) (mathlib.Core.List.Memᴰ.tail later))

-- and they rise: a number before larger ones that rise
module _ (rule : ℕ) (l : List ℕ) (low : (i : ℕ) → i < length l → suc rule ≤ get_or l i 0) where
  least_first : (i : ℕ) → i < suc (length l) → rule ≤ get_or (rule ∷ l) i 0
  least_first zero h = omega arith
  least_first (suc i) h = omega (arith, low i (omega arith))

  rises_first : ((i j : ℕ) → i < j → j < length l → get_or l i 0 < get_or l j 0) → (i j : ℕ) → i < j → j < suc (length l) → get_or (rule ∷ l) i 0 < get_or (rule ∷ l) j 0
  rises_first rising i zero h k = absurd (omega arith)
  rises_first rising zero (suc j) h k = low j (omega arith)
  rises_first rising (suc i) (suc j) h k = rising i j (omega arith) (omega arith)

least : (rule : ℕ) (kept : List Bool) (i : ℕ) → i < length (failing rule kept) → rule ≤ get_or (failing rule kept) i 0
least rule [] i h = absurd (omega (arith, ap length (failing_none rule)))
least rule (b ∷ kept) i h =
    by_test b
    (λ yes.
    let e = failing_kept rule b kept yes in
    rw e (omega (arith, least (suc rule) kept i (rw e at h))))
    λ fails.
    let e = failing_broken rule b kept fails in
    rw e (least_first rule (failing (suc rule) kept) (least (suc rule) kept) i (rw e at h))

rises : (rule : ℕ) (kept : List Bool) (i j : ℕ) → i < j → j < length (failing rule kept) → get_or (failing rule kept) i 0 < get_or (failing rule kept) j 0
rises rule [] i j h k = absurd (omega (arith, ap length (failing_none rule)))
rises rule (b ∷ kept) i j h k =
    by_test b
    (λ yes.
    let e = failing_kept rule b kept yes in
    rw e (rises (suc rule) kept i j h (rw e at k)))
    λ fails.
    let e = failing_broken rule b kept fails in
    rw e (rises_first rule (failing (suc rule) kept) (least (suc rule) kept) (rises (suc rule) kept) i j h (rw e at k))

-- So where each test says whether its rule is kept, they are the broken rules.
module _ (text : List ℕ) (told : Contents) (kept : List Bool) (six : length kept ≡ 6)
    (agree : (i : ℕ) → i < 6 → (get_or kept i true ≡ true) ↔ get_or (rules text told) i (Unit {0})) where
  broken_in : (k : ℕ) → Memᴰ k (failing 1 kept) → Breaks text told k
  broken_in k m =
      let f = fails_at 1 k kept m in
      let is : k - 1 ≡ f.0 = omega (arith, f.1) in (
        omega (arith, f.1),
        omega (arith, f.1, f.2),
        rw is
            (λ holds.
            let yes = (agree f.0 (omega (arith, f.2))).1 holds in
            let fails = f.3 in
            let z : ◌≡◌ {A = ℕ} 0 1 = cc in
            absurd (omega arith)),
      )

  in_broken : (k : ℕ) → Breaks text told k → Memᴰ k (failing 1 kept)
  in_broken k h =
      let i = k - 1 in
      let is : k ≡ 1 + i = omega (arith, h.0) in
      by_test (get_or kept i true)
      (λ yes. absurd (h.2 ((agree i (omega (arith, h.0, h.1))).0 yes)))
      λ fails. mathlib.Core.List.Memᴰ.cast is (at_fails 1 i kept (omega (arith, h.0, h.1)) fails)

  pub failing_lists : Lists text told (failing 1 kept)
  failing_lists = record { exactly = λ k. (broken_in k, in_broken k); rising = rises 1 kept }
