-- The types and values of the records, through the mender. Assumes nothing.
use Rattle.std.specs.Prelude.{Ok}
use borrow.Author.Tests.{eqb-true, eqb-false, eq-eqb, ne_eqb}
use mathlib.Core.Bool.{Bool, true, false, ◌||◌, not}
use mathlib.Core.List.{List, [], ◌∷◌}
use mathlib.Core.Logic.{◌↔◌, ◌⊎◌, inl, inr, ⊎_elim}
use mathlib.Core.Path.{◌≡◌, refl, sym, ◌∙◌}
use Prim.Native.Nat.{ℕ, zero, suc, ◌+◌, ◌<◌}
use native.Mathlib.Omega.{arith}
use lib.Dec.{eqb}
use lib.ListN.{length, drop, length-take}
use Rattle.laws.specs.Digits.{AreBytes}
use Rattle.laws.proofs.Test.{pick_yes, pick_no, by_order, by_test, and_true}
use Rattle.answer.proofs.Answer.{ensured, ensure_yes}
use Rattle.sorting.specs.Sorting.{put, puts, sorted}
use Rattle.sorting.proofs.Laws.{put_here, put_behind}
use Rattle.stream_writer.proofs.Record.{head_of, drop_bytes}
use Rattle.mending.proofs.Frames.{Fits, back_next}
use Rattle.mending.proofs.Keeping.{without_same, without_other}
use Rattle.mending.proofs.Walking.{walk, walk_end}
use Rattle.mending.specs.Mender.{reading, without, kept, ordered, agrees, agreed, spelled, Has, Strict}
use Rattle.piece.proofs.Laws.{same_true, nothing_whole}
use Rattle.piece.proofs.Tight.{peeking_spelled}
use Rattle.piece.specs.Piece.{Record, kind_of, span_of, record_at, is_whole}
use Rattle.sorting.specs.Private.{All}

-- What is read can be spelled.

pub reading_fit : (c place : ℕ) (bs : List ℕ) → AreBytes bs → All Fits (reading c place bs)
unfolding reading All
reading_fit zero place bs bytes = tt
reading_fit (suc c) place bs bytes =
    let e = record_at place bs in
    by_test (is_whole bs)
    (λ w. rw (pick_yes _ (e ∷ reading c (place + span_of e) (drop (span_of e) bs)) [] w) (
      (
        (peeking_spelled bs bytes).below,
        omega (arith, length-take e.size.value (drop (e.type.width + e.size.width) bs), (peeking_spelled (drop e.type.width bs) (drop_bytes e.type.width bs bytes)).below),
      ),
      reading_fit c (place + span_of e) (drop (span_of e) bs) (drop_bytes (span_of e) bs bytes),
    ))
    (λ w. rw (pick_no _ (e ∷ reading c (place + span_of e) (drop (span_of e) bs)) [] w) tt)

-- Records that agree: an earlier one and a later one of its type have one value.
agrees_with : (k : ℕ) (v : List ℕ) (e : Record) (earlier : List Record) → agrees e earlier ≡ true → Has k v earlier → kind_of e ≡ k → v ≡ e.value
unfolding agrees Has
agrees_with k v e [] t h is = absurd h
agrees_with k v e (a ∷ more) t h is =
    let p = and_true _ _ t in
    ⊎_elim
    (λ q. sym q.1 ∙ same_true _ _ (or_second _ _ p.0 (eq-eqb _ _ (q.0 ∙ sym is))))
    (λ q. agrees_with k v e more p.1 q is)
    h
  where
    or_second : (x y : Bool) → (not x || y) ≡ true → x ≡ true → y ≡ true
    or_second true y h e = h
    or_second false y h e = absurd (cc)

pub agreed_with : (k : ℕ) (v w : List ℕ) (earlier es : List Record) → agreed earlier es ≡ Ok tt → Has k v earlier → Has k w es → v ≡ w
unfolding agreed Has
agreed_with k v w earlier [] a h q = absurd q
agreed_with k v w earlier (e ∷ es) a h q =
    let p = ensured _ _ _ tt a in
    ⊎_elim
    (λ here. agrees_with k v e earlier p.holds h here.0 ∙ here.1)
    (λ later. agreed_with k v w (e ∷ earlier) es p.rest (inr h) later)
    q

-- A type that rises above all earlier ones agrees with them.
pub agreed_strict : (low : ℕ) (earlier es : List Record) → All (λ a. kind_of a < low) earlier → Strict low es → agreed earlier es ≡ Ok tt
unfolding agreed agrees All Strict
agreed_strict low earlier [] a s = refl
agreed_strict low earlier (e ∷ es) a s =
    ensure_yes _ _ _ (apart earlier a) ∙ agreed_strict (suc (kind_of e)) (e ∷ earlier) es (omega arith, raise earlier a) s.1
  where
    apart : (l : List Record) → All (λ a. kind_of a < low) l → agrees e l ≡ true
    apart [] a = refl
    apart (x ∷ l) a = rw (ne_eqb (kind_of x) (kind_of e) (omega arith)) (apart l a.1)

    raise : (l : List Record) → All (λ a. kind_of a < low) l → All (λ a. kind_of a < suc (kind_of e)) l
    raise [] a = tt
    raise (x ∷ l) a = (omega arith, raise l a.1)

-- The records kept have the types and values of all.
module _ (k : ℕ) (v : List ℕ) where
  without_has : (n : ℕ) (es : List Record) → Has k v (without n es) → Has k v es
  unfolding without Has
  without_has n [] h = h
  without_has n (e ∷ es) h =
      by_test (eqb (kind_of e) n)
      (λ t. inr (without_has n es (rw (without_same n e es (eqb-true _ _ t)) at h)))
      (λ t.
      let q : ((kind_of e ≡ k) × (e.value ≡ v)) ⊎ Has k v (without n es) = rw (without_other n e es (eqb-false _ _ t)) at h in
      ⊎_elim (λ a. inl a) (λ a. inr (without_has n es a)) q)

  has_without : (n : ℕ) (es : List Record) → (k ≡ n → ⊥) → Has k v es → Has k v (without n es)
  unfolding without Has
  has_without n [] d h = h
  has_without n (e ∷ es) d h =
      by_test (eqb (kind_of e) n)
      (λ t. rw (without_same n e es (eqb-true _ _ t)) (⊎_elim (λ a. absurd (d (sym a.0 ∙ eqb-true _ _ t))) (λ a. has_without n es d a) h))
      (λ t. rw (without_other n e es (eqb-false _ _ t)) (⊎_elim (λ a. inl a) (λ a. inr (has_without n es d a)) h))

  kept_has : (es : List Record) → Has k v (kept es) → Has k v es
  unfolding kept Has
  kept_has [] h = h
  kept_has (e ∷ es) h = ⊎_elim (λ a. inl a) (λ a. inr (kept_has es (without_has (kind_of e) (kept es) a))) h

  has_kept : (earlier es : List Record) → agreed earlier es ≡ Ok tt → Has k v es → Has k v (kept es)
  unfolding kept Has agreed
  has_kept earlier [] a h = h
  has_kept earlier (e ∷ es) a h =
      let p = ensured _ _ _ tt a in
      ⊎_elim (λ q. inl q)
      (λ q.
      by_test (eqb (kind_of e) k)
      (λ t. inl (eqb-true _ _ t, agreed_with k e.value v (e ∷ earlier) es p.rest (inl (eqb-true _ _ t, refl)) q))
      (λ t. inr (has_without (kind_of e) (kept es) (λ z. eqb-false _ _ t (sym z)) (has_kept (e ∷ earlier) es p.rest q))))
      h

  put_has : (e : Record) (es : List Record) → Has k v (put kind_of e es) → Has k v (e ∷ es)
  unfolding put Has
  put_has e [] h = h
  put_has e (x ∷ es) h =
      by_order (kind_of x) (kind_of e)
      (λ t.
      let q : ((kind_of x ≡ k) × (x.value ≡ v)) ⊎ Has k v (put kind_of e es) = rw (put_behind kind_of e x es t) at h in
      ⊎_elim (λ a. inr (inl a)) (λ a. ⊎_elim (λ b. inl b) (λ b. inr (inr b)) (put_has e es a)) q)
      (λ t. rw (put_here kind_of e x es t) at h)

  has_put : (e : Record) (es : List Record) → Has k v (e ∷ es) → Has k v (put kind_of e es)
  unfolding put Has
  has_put e [] h = h
  has_put e (x ∷ es) h =
      by_order (kind_of x) (kind_of e)
      (λ t. rw (put_behind kind_of e x es t) (⊎_elim (λ a. inr (has_put e es (inl a))) (λ a. ⊎_elim (λ b. inl b) (λ b. inr (has_put e es (inr b))) a) h))
      (λ t. rw (put_here kind_of e x es t) h)

  pub sorted_has : (es : List Record) → Has k v (sorted kind_of es) → Has k v es
  unfolding puts Has
  sorted_has [] h = h
  sorted_has (e ∷ es) h = ⊎_elim (λ a. inl a) (λ a. inr (sorted_has es a)) (put_has e (sorted kind_of es) h)

  pub has_sorted : (es : List Record) → Has k v es → Has k v (sorted kind_of es)
  unfolding puts Has
  has_sorted [] h = h
  has_sorted (e ∷ es) h = has_put e (sorted kind_of es) (⊎_elim (λ a. inl a) (λ a. inr (has_sorted es a)) h)

  pub ordered_has : (es : List Record) → Has k v (ordered es) → Has k v es
  ordered_has es h = kept_has es (sorted_has (kept es) h)

  pub has_ordered : (es : List Record) → agreed [] es ≡ Ok tt → Has k v es → Has k v (ordered es)
  has_ordered es a h = has_sorted (kept es) (has_kept [] es a h)

  -- What is spelled is read again.
  pub spelled_has : (place : ℕ) (es : List Record) → All Fits es → Has k v (walk place (spelled es)) ↔ Has k v es
  unfolding spelled All Has
  spelled_has place [] fits = let e = walk_end place [] nothing_whole in (λ h. rw e at h, λ h. absurd h)
  spelled_has place (e ∷ es) fits =
      let n = back_next place (kind_of e) e.value (spelled es) fits.0.0 fits.0.1 in
      let r = spelled_has (place + (head_of (kind_of e) (length e.value) + length e.value)) es fits.1 in
      rw n (λ h. ⊎_elim (λ a. inl a) (λ a. inr (r.0 a)) h, λ h. ⊎_elim (λ a. inl a) (λ a. inr (r.1 a)) h)
