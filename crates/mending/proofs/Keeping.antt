-- The records kept. Assumes nothing.
use borrow.Author.Tests.{eqb-true, eqb-false, eq-eqb, ne_eqb}
use mathlib.Core.List.{List, [], ◌∷◌}
use mathlib.Core.Path.{◌≡◌, refl, sym, ap, ◌∙◌}
use Prim.Native.Nat.{ℕ, suc, ◌≤◌, ◌<◌}
use native.Mathlib.Omega.{arith}
use lib.Dec.{eqb}
use Rattle.laws.proofs.Test.{pick_yes, pick_no, by_order, by_test}
use Rattle.sorting.specs.Sorting.{put, puts, sorted, Rises}
use Rattle.sorting.specs.Private.{All}
use Rattle.sorting.proofs.Laws.{put_here, put_behind, put_front, sorted_rises, sorted_same, sorted_all, lower}
use Rattle.mending.specs.Mender.{without, kept, ordered, differing, Strict}
use Rattle.piece.specs.Piece.{Record, kind_of}

pub strict_lower : (low low' : ℕ) (es : List Record) → low' ≤ low → Strict low es → Strict low' es
unfolding Strict
strict_lower low low' [] h s = tt
strict_lower low low' (e ∷ es) h s = (omega arith, s.1)

pub strict_rises : (low : ℕ) (es : List Record) → Strict low es → Rises kind_of low es
unfolding Strict Rises
strict_rises low [] s = tt
strict_rises low (e ∷ es) s = (s.0, lower kind_of (suc (kind_of e)) (kind_of e) es (omega arith) (strict_rises (suc (kind_of e)) es s.1))

module _ (k : ℕ) where
  pub without_same : (e : Record) (es : List Record) → kind_of e ≡ k → without k (e ∷ es) ≡ without k es
  unfolding without
  without_same e es h = pick_yes _ _ _ (eq-eqb _ _ h)

  pub without_other : (e : Record) (es : List Record) → (kind_of e ≡ k → ⊥) → without k (e ∷ es) ≡ e ∷ without k es
  unfolding without
  without_other e es h = pick_no _ _ _ (ne_eqb _ _ h)

  -- a type that none has
  pub without_none : (low : ℕ) (es : List Record) → k < low → Rises kind_of low es → without k es ≡ es
  unfolding without Rises
  without_none low [] h r = refl
  without_none low (e ∷ es) h r = without_other e es (omega arith) ∙ ap (λ (l : List Record). e ∷ l) (without_none (kind_of e) es (omega arith) r.1)

  pub without_strict : (low : ℕ) (es : List Record) → Strict low es → Strict low (without k es)
  unfolding without Strict
  without_strict low [] s = tt
  without_strict low (e ∷ es) s =
      by_test (eqb (kind_of e) k)
      (λ h. rw (without_same e es (eqb-true _ _ h)) (strict_lower (suc (kind_of e)) low (without k es) (omega arith) (without_strict (suc (kind_of e)) es s.1)))
      (λ h. rw (without_other e es (eqb-false _ _ h)) (s.0, without_strict (suc (kind_of e)) es s.1))

  pub without_rises : (low : ℕ) (es : List Record) → Rises kind_of low es → Rises kind_of low (without k es)
  unfolding without Rises
  without_rises low [] s = tt
  without_rises low (e ∷ es) s =
      by_test (eqb (kind_of e) k)
      (λ h. rw (without_same e es (eqb-true _ _ h)) (lower kind_of (kind_of e) low (without k es) s.0 (without_rises (kind_of e) es s.1)))
      (λ h. rw (without_other e es (eqb-false _ _ h)) (s.0, without_rises (kind_of e) es s.1))

  -- another one put among the rest
  pub without_put : (low : ℕ) (e : Record) (es : List Record) → (kind_of e ≡ k → ⊥) → Rises kind_of low es → without k (put kind_of e es) ≡ put kind_of e (without k es)
  unfolding put without Rises
  without_put low e [] n r = without_other e [] n
  without_put low e (a ∷ es) n r =
      by_order (kind_of a) (kind_of e)
      (λ h. rw (put_behind kind_of e a es h)
      (by_test (eqb (kind_of a) k)
      (λ t. rw (without_same a (put kind_of e es) (eqb-true _ _ t), without_same a es (eqb-true _ _ t)) (without_put (kind_of a) e es n r.1))
      (λ t. rw (without_other a (put kind_of e es) (eqb-false _ _ t), without_other a es (eqb-false _ _ t), put_behind kind_of e a (without k es) h, without_put (kind_of a) e es n r.1))))
      (λ h.
      let q : Rises kind_of (kind_of e) (a ∷ es) = (h, r.1) in
      rw (put_here kind_of e a es h, without_other e (a ∷ es) n) (sym (put_front kind_of e (without k (a ∷ es)) (without_rises (kind_of e) (a ∷ es) q))))

  -- the same type put among the rest
  pub without_put_same : (e : Record) (es : List Record) → kind_of e ≡ k → without k (put kind_of e es) ≡ without k es
  unfolding put without
  without_put_same e [] n = without_same e [] n
  without_put_same e (a ∷ es) n =
      by_order (kind_of a) (kind_of e)
      (λ h. rw (put_behind kind_of e a es h, without_other a (put kind_of e es) (omega arith), without_other a es (omega arith), without_put_same e es n))
      (λ h. rw (put_here kind_of e a es h, without_same e (a ∷ es) n))

  pub without_sorted : (es : List Record) → without k (sorted kind_of es) ≡ sorted kind_of (without k es)
  unfolding puts without
  without_sorted [] = refl
  without_sorted (e ∷ es) =
      by_test (eqb (kind_of e) k)
      (λ t. without_put_same e (sorted kind_of es) (eqb-true _ _ t) ∙ without_sorted es ∙ ap (sorted kind_of) (sym (without_same e es (eqb-true _ _ t))))
      (λ t. without_put 0 e (sorted kind_of es) (eqb-false _ _ t) (sorted_rises kind_of es) ∙ ap (put kind_of e) (without_sorted es) ∙ ap (sorted kind_of) (sym (without_other e es (eqb-false _ _ t))))

-- put where its type is not yet
put_strict : (low : ℕ) (e : Record) (es : List Record) → low ≤ kind_of e → Strict low (without (kind_of e) es) → Strict low (put kind_of e (without (kind_of e) es))
unfolding put Strict without
put_strict low e [] h s = (h, tt)
put_strict low e (a ∷ es) h s =
    by_test (eqb (kind_of a) (kind_of e))
    (λ t.
    let w = without_same (kind_of e) a es (eqb-true _ _ t) in
    rw w (put_strict low e es h (rw w at s)))
    (λ t.
    let n = eqb-false _ _ t in
    let w = without_other (kind_of e) a es n in
    let s' : (low ≤ kind_of a) × Strict (suc (kind_of a)) (without (kind_of e) es) = rw w at s in
    rw w
    (by_order (kind_of a) (kind_of e)
    (λ b. rw (put_behind kind_of e a (without (kind_of e) es) b) (s'.0, put_strict (suc (kind_of a)) e es (omega arith) s'.1))
    (λ b. rw (put_here kind_of e a (without (kind_of e) es) b) (h, (omega arith, s'.1)))))

-- The result rises, no type twice.
pub ordered_strict : (es : List Record) → Strict 0 (ordered es)
unfolding kept puts Strict
ordered_strict [] = tt
ordered_strict (e ∷ es) =
    rw (kept, puts, ← without_sorted (kind_of e) (kept es))
    (put_strict 0 e (ordered es) (omega arith) (without_strict (kind_of e) 0 (ordered es) (ordered_strict es)))

-- What rises with no type twice is kept whole, and in order.
pub kept_strict : (low : ℕ) (es : List Record) → Strict low es → kept es ≡ es
unfolding kept Strict
kept_strict low [] s = refl
kept_strict low (e ∷ es) s =
    rw (kept_strict (suc (kind_of e)) es s.1) (ap (λ (l : List Record). e ∷ l) (without_none (kind_of e) (suc (kind_of e)) es (omega arith) (strict_rises (suc (kind_of e)) es s.1)))

pub ordered_same : (low : ℕ) (es : List Record) → Strict low es → ordered es ≡ es
ordered_same low es s = rw (kept_strict low es s) (sorted_same kind_of low es (strict_rises low es s))

pub differing_none : (l : List ℕ) → differing l l ≡ 0
unfolding differing
differing_none [] = refl
differing_none (x ∷ l) = rw (pick_yes {A = ℕ} _ 0 1 (eq-eqb x x refl), differing_none l)

-- What holds of every record holds of those kept.
module _ (P : Record → Type 0) where
  all_without : (k : ℕ) (es : List Record) → All P es → All P (without k es)
  unfolding All without
  all_without k [] a = tt
  all_without k (e ∷ es) a =
      by_test (eqb (kind_of e) k)
      (λ t. rw (without_same k e es (eqb-true _ _ t)) (all_without k es a.1))
      (λ t. rw (without_other k e es (eqb-false _ _ t)) (a.0, all_without k es a.1))

  pub all_kept : (es : List Record) → All P es → All P (kept es)
  unfolding All kept
  all_kept [] a = tt
  all_kept (e ∷ es) a = (a.0, all_without (kind_of e) (kept es) (all_kept es a.1))

  pub all_ordered : (es : List Record) → All P es → All P (ordered es)
  all_ordered es a = sorted_all kind_of P (kept es) (all_kept es a)

-- The types that are left out in either order.
without_without : (j k : ℕ) (es : List Record) → without j (without k es) ≡ without k (without j es)
unfolding without
without_without j k [] = refl
without_without j k (e ∷ es) =
    by_test (eqb (kind_of e) j)
    (λ a. by_test (eqb (kind_of e) k)
    (λ b. rw (without_same k e es (eqb-true _ _ b), without_same j e es (eqb-true _ _ a)) (without_without j k es))
    (λ b. rw (without_other k e es (eqb-false _ _ b), without_same j e es (eqb-true _ _ a), without_same j e (without k es) (eqb-true _ _ a)) (without_without j k es)))
    (λ a. by_test (eqb (kind_of e) k)
    (λ b. rw (without_same k e es (eqb-true _ _ b), without_other j e es (eqb-false _ _ a), without_same k e (without j es) (eqb-true _ _ b)) (without_without j k es))
    (λ b. rw (without_other k e es (eqb-false _ _ b), without_other j e es (eqb-false _ _ a), without_other j e (without k es) (eqb-false _ _ a), without_other k e (without j es) (eqb-false _ _ b), without_without j k es)))

without_twice : (k : ℕ) (es : List Record) → without k (without k es) ≡ without k es
unfolding without
without_twice k [] = refl
without_twice k (e ∷ es) =
    by_test (eqb (kind_of e) k)
    (λ b. rw (without_same k e es (eqb-true _ _ b)) (without_twice k es))
    (λ b. rw (without_other k e es (eqb-false _ _ b), without_other k e (without k es) (eqb-false _ _ b), without_twice k es))

pub kept_rises : (low : ℕ) (es : List Record) → Rises kind_of low es → Rises kind_of low (kept es)
unfolding kept Rises
kept_rises low [] r = tt
kept_rises low (e ∷ es) r = (r.0, without_rises (kind_of e) (kind_of e) (kept es) (kept_rises (kind_of e) es r.1))

kept_put : (low : ℕ) (e : Record) (es : List Record) → Rises kind_of low es → kept (put kind_of e es) ≡ put kind_of e (without (kind_of e) (kept es))
unfolding kept put without Rises
kept_put low e [] r = refl
kept_put low e (x ∷ es) r =
    by_order (kind_of x) (kind_of e)
    (λ h.
    let later = without_rises (kind_of e) (kind_of x) (kept es) (kept_rises (kind_of x) es r.1) in
    rw (
      put_behind kind_of e x es h,
      kept,
      kept_put (kind_of x) e es r.1,
      without_put (kind_of x) (kind_of x) e (without (kind_of e) (kept es)) (omega arith) later,
      without_other (kind_of e) x (without (kind_of x) (kept es)) (omega arith),
      put_behind kind_of e x (without (kind_of e) (without (kind_of x) (kept es))) h,
      without_without (kind_of x) (kind_of e) (kept es),
    ))
    (λ h.
    let q : Rises kind_of (kind_of e) (x ∷ es) = (h, r.1) in
    rw (put_here kind_of e x es h, kept) (sym (put_front kind_of e (without (kind_of e) (kept (x ∷ es))) (without_rises (kind_of e) (kind_of e) (kept (x ∷ es)) (kept_rises (kind_of e) (x ∷ es) q)))))

-- Sorted and then kept, or kept and then sorted.
pub kept_sorted : (es : List Record) → kept (sorted kind_of es) ≡ ordered es
unfolding kept puts
kept_sorted [] = refl
kept_sorted (e ∷ es) =
    kept_put 0 e (sorted kind_of es) (sorted_rises kind_of es)
    ∙ ap (λ (l : List Record). put kind_of e (without (kind_of e) l)) (kept_sorted es)
    ∙ ap (put kind_of e) (without_sorted (kind_of e) (kept es))

-- A scan's turns: f is the last one kept.
pub turn_same : (f e : Record) (es : List Record) → kind_of e ≡ kind_of f → without (kind_of f) (kept (e ∷ es)) ≡ without (kind_of f) (kept es)
unfolding kept
turn_same f e es h = rw (without_same (kind_of f) e (without (kind_of e) (kept es)) h, h) (without_twice (kind_of f) (kept es))

pub turn_new : (f e : Record) (es : List Record) → kind_of f < kind_of e → Rises kind_of (kind_of e) es → without (kind_of f) (kept (e ∷ es)) ≡ e ∷ without (kind_of e) (kept es)
unfolding kept
turn_new f e es h r =
    rw (without_other (kind_of f) e (without (kind_of e) (kept es)) (omega arith))
    (ap (λ (l : List Record). e ∷ l) (without_none (kind_of f) (kind_of e) (without (kind_of e) (kept es)) h (without_rises (kind_of e) (kind_of e) (kept es) (kept_rises (kind_of e) es r))))
