-- Laws of the first element of which a test holds, over any element and any test. Assumes nothing.
use mathlib.Core.Path.{◌≡◌, refl, sym, ap, ◌∙◌}
use mathlib.Core.Bool.{Bool, true, false, cond, ◌||◌, or_assoc, or-false}
use mathlib.Core.List.{List, [], ◌∷◌, ◌++◌}
use Prim.Native.Nat.{ℕ, zero, suc, ◌+◌, ◌≤◌, ◌<◌, zero-le, suc-le-suc}
use native.Mathlib.Nat.{add-zero, add-suc, zero-add, suc-add, le_of_suc-le-suc, not-suc-le-zero}
use native.Mathlib.Omega.{arith}
use lib.Dec.{ltb}
use lib.ListN.{length, get_or, take, drop, drop_of_length-le}
use lib.Seq.{drop-cons, take-suc}
use borrow.Author.Tests.{ltb-true, ltb-false, lt-ltb, le-ltb}
use Rattle.std.specs.List.{position, position_or_len}
use Rattle.std.specs.Option.{unwrap_or}
use Rattle.std.proofs.lemmas.List.Recursion.{is_position_or_len}
use Rattle.laws.specs.Test.{pick}
use Rattle.laws.proofs.Test.{pick_yes, pick_no, pick_all, by_order}
use Rattle.invoice_text.specs.Text.{first_where, has}

-- a place at the front or behind it, that is before an end
found_or : (c : Bool) (n m : ℕ) → ltb (pick c 0 (suc n)) (suc m) ≡ (c || ltb n m)
unfolding pick
found_or true n m = lt-ltb 0 (suc m) (omega arith)
found_or false n m =
    by_order n m (λ h. lt-ltb (suc n) (suc m) (omega arith) ∙ sym (lt-ltb n m h)) λ h. le-ltb (suc n) (suc m) (omega arith) ∙ sym (le-ltb n m h)

-- the same place, as the library writes it
found_cond : (c : Bool) (n : ℕ) → pick c 0 (suc n) ≡ cond c 0 (1 + n)
unfolding pick
found_cond true n = refl
found_cond false n = omega arith

module _ {A : Type 0} (test : A → Bool) where
  -- at the front, or behind it
  pub first_yes : (x : A) (xs : List A) → test x ≡ true → first_where test (x ∷ xs) ≡ 0
  unfolding first_where
  first_yes x xs h = pick_yes (test x) _ _ h

  pub first_no : (x : A) (xs : List A) → test x ≡ false → first_where test (x ∷ xs) ≡ suc (first_where test xs)
  unfolding first_where
  first_no x xs h = pick_no (test x) _ _ h

  pub first_most : (xs : List A) → first_where test xs ≤ length xs
  unfolding first_where
  first_most [] = zero-le
  first_most (x ∷ xs) = pick_all (λ (p : ℕ). p ≤ suc (length xs)) (test x) _ _ (λ _. zero-le) (λ _. suc-le-suc (first_most xs))

  -- it holds there
  pub first_holds : (xs : List A) (d : A) → first_where test xs < length xs → test (get_or xs (first_where test xs) d) ≡ true
  unfolding first_where
  first_holds [] d h = absurd (not-suc-le-zero h)
  first_holds (x ∷ xs) d h =
      pick_all (λ (p : ℕ). p < suc (length xs) → test (get_or (x ∷ xs) p d) ≡ true) (test x) _ _ (λ e _. e) (λ _ k. first_holds xs d (le_of_suc-le-suc k)) h

  -- and nowhere before
  pub before_first : (xs : List A) (d : A) (k : ℕ) → k < first_where test xs → test (get_or xs k d) ≡ false
  unfolding first_where
  before_first [] d k h = absurd (not-suc-le-zero h)
  before_first (x ∷ xs) d zero h = pick_all (λ (p : ℕ). zero < p → test x ≡ false) (test x) _ _ (λ _ k. absurd (not-suc-le-zero k)) (λ e _. e) h
  before_first (x ∷ xs) d (suc k) h =
      pick_all (λ (p : ℕ). suc k < p → test (get_or xs k d) ≡ false) (test x) _ _ (λ _ l. absurd (not-suc-le-zero l))
      (λ _ l. before_first xs d k (le_of_suc-le-suc l)) h

  -- it is the place that the library's search finds, or the length
  pub first_position : (xs : List A) → first_where test xs ≡ position_or_len test xs
  unfolding first_where pick
  first_position xs = is_position_or_len (first_where test) test refl (λ x ys. found_cond (test x) (first_where test ys)) xs

  pub first_searched : (xs : List A) → unwrap_or (position test xs) (length xs) ≡ first_where test xs
  first_searched xs =
      let is = first_position xs in
      by_order (first_where test xs) (length xs)
      (λ h. let e : ltb (position_or_len test xs) (length xs) ≡ true = lt-ltb _ _ (omega arith) in rw e (sym is))
      (λ h. let e : ltb (position_or_len test xs) (length xs) ≡ false = le-ltb _ _ (omega arith) in rw e (omega (arith, first_most xs)))

  -- Whether there is one.

  pub has_true : (xs : List A) (d : A) → has test xs ≡ true → test (get_or xs (first_where test xs) d) ≡ true
  has_true xs d h = first_holds xs d (ltb-true _ _ h)

  pub has_false : (xs : List A) (d : A) → has test xs ≡ false → (k : ℕ) → k < length xs → test (get_or xs k d) ≡ false
  has_false xs d h k within = before_first xs d k (omega (arith, ltb-false (first_where test xs) (length xs) h))

  pub has_none : (xs : List A) (d : A) → ((k : ℕ) → k < length xs → test (get_or xs k d) ≡ false) → has test xs ≡ false
  has_none xs d none =
      by_order (first_where test xs) (length xs)
      (λ h. absurd (let z : ◌≡◌ {A = ℕ} 0 1 = cc (first_holds xs d h, none (first_where test xs) h) in omega arith)) λ h.
      le-ltb (first_where test xs) (length xs) h

  -- at the front, or behind it
  pub has_next : (x : A) (xs : List A) → has test (x ∷ xs) ≡ (test x || has test xs)
  unfolding first_where
  has_next x xs = found_or (test x) (first_where test xs) (length xs)

  -- in the one list or in the other
  pub has_append : (xs ys : List A) → has test (xs ++ ys) ≡ (has test xs || has test ys)
  unfolding first_where
  has_append [] ys = refl
  has_append (x ∷ xs) ys = has_next x (xs ++ ys) ∙ ap (◌||◌ (test x)) (has_append xs ys) ∙ rw (has_next x xs) (sym (or_assoc (test x) (has test xs) (has test ys)))

  -- Of one element more at the end: all are asked, one by one.
  pub has_turn : (xs : List A) (d : A) (i : ℕ) → i < length xs → has test (take (suc i) xs) ≡ (has test (take i xs) || test (get_or xs i d))
  unfolding first_where
  has_turn xs d i within =
      rw (take-suc xs i d within)
      (has_append (take i xs) (get_or xs i d ∷ [])
      ∙ ap (λ (b : Bool). has test (take i xs) || b) (has_next (get_or xs i d) [] ∙ or-false (test (get_or xs i d))))

  -- A search that goes from element to element: the work left from here is the whole work, less what was passed.
  module _ (xs : List A) (d : A) (i : ℕ) (left : i + first_where test (drop i xs) ≡ first_where test xs) where
    pub first_found : i < length xs → test (get_or xs i d) ≡ true → first_where test xs ≡ i
    first_found within h = sym left ∙ rw (drop-cons xs i d within, first_yes (get_or xs i d) (drop (suc i) xs) h, add-zero)

    pub first_turn : i < length xs → test (get_or xs i d) ≡ false → suc i + first_where test (drop (suc i) xs) ≡ first_where test xs
    first_turn within h = rw (drop-cons xs i d within, first_no (get_or xs i d) (drop (suc i) xs) h, add-suc, ← suc-add) at left

    pub first_end : length xs ≤ i → first_where test xs ≡ i
    unfolding first_where
    first_end past = sym left ∙ rw (drop_of_length-le xs past, add-zero)

  -- where it holds of nothing before an element, the search may begin there
  pub first_from : (xs : List A) (d : A) (i : ℕ) → i ≤ length xs → ((k : ℕ) → k < i → test (get_or xs k d) ≡ false) →
      i + first_where test (drop i xs) ≡ first_where test xs
  first_from xs d zero within none = zero-add (first_where test xs)
  first_from xs d (suc i) within none =
      first_turn xs d i (first_from xs d i (omega arith) (λ k h. none k (omega arith))) within (none i (omega arith))
