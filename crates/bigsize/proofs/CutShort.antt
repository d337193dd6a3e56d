-- How many bytes a BigSize lacks that is cut short: document 02, (v). Assumes nothing.
use Rattle.std.specs.Prelude.{Err}
use mathlib.Core.Path.{◌≡◌, refl, sym, ap, ◌∙◌}
use mathlib.Core.List.{List, [], ◌∷◌, ◌++◌}
use mathlib.Core.Logic.{◌⊎◌, inl, inr, ⊎_elim}
use Prim.Native.Nat.{ℕ, ◌+◌, ◌-◌, ◌≤◌, ◌<◌}
use native.Mathlib.Omega.{arith}
use lib.ListN.{length, get_or, take, length-append}
use Rattle.laws.specs.Digits.{from_bytes}
use Rattle.laws.proofs.Test.{by_order}
use Rattle.answer.specs.Answer.{lacking, bare, Refusing, accepting, refusing}
use Rattle.answer.specs.Missing.{CutShort, Counted, Lacks}
use Rattle.answer.specs.declared.Refusal.{Refusal}
use Rattle.answer.proofs.Answer.{not_refused, same_refused, refusing_then, refusing_ensure}
use Rattle.answer.proofs.Missing.{some_missing, whole_counted, whole_uncut}
use Rattle.bigsize.specs.BigSize.{number, at_least, spelled, reading}
use Rattle.bigsize.specs.declared.Number.{Number}
use Rattle.bigsize.proofs.Laws.{at_least_yes, at_least_no, spelled_cut, spelled_whole, reading_nothing, reading_1, reading_sound, announces}

-- a number of which all bytes are there is not cut short
at_least_counted : (least : ℕ) (x : Number) → Refusing Counted (at_least least x)
unfolding at_least
at_least_counted least x = refusing_then _ (refusing_ensure Counted _ (bare 2) (whole_counted (bare 2) (refl, refl))) λ _ _. accepting x

spelled_counted : (n least : ℕ) (bs : List ℕ) → Refusing Counted (spelled n least bs)
spelled_counted n least bs =
    by_order (length bs) n
    (λ cut. rw (spelled_cut n least bs cut) (refusing (some_missing 1 0 0 (n - length bs) refl (omega arith))))
    (λ whole. rw (spelled_whole n least bs whole) (at_least_counted least _))

-- Missing is above 0 in the refusal of a BigSize exactly in 1 and 13.
pub reading_counted : (s : List ℕ) → Refusing Counted (reading s)
reading_counted [] = rw (reading_nothing [] refl) (refusing (some_missing 13 0 0 1 refl (omega arith)))
reading_counted (b ∷ bs) =
    by_order b 253
    (λ h. rw (reading_1 (b ∷ bs) (omega arith) h) (accepting (number b 1)))
    (λ h. let f = announces b h in rw (f.read bs) (spelled_counted f.n f.least bs))

-- What a refusal is behind a first byte that announces n bytes: cut short, or not shortest.
spelled_refused : (n least : ℕ) (bs : List ℕ) (r : Refusal) → spelled n least bs ≡ Err r →
    ((length bs < n) × (r ≡ lacking 1 0 0 (n - length bs))) ⊎ (r ≡ bare 2)
spelled_refused n least bs r e =
    by_order (length bs) n
    (λ cut. inl (cut, same_refused e (spelled_cut n least bs cut)))
    (λ whole. inr (
    let x = number (from_bytes (take n bs)) (1 + n) in
    let q : at_least least x ≡ Err r = sym (spelled_whole n least bs whole) ∙ e in
    by_order x.value least
    (λ low. same_refused q (at_least_no least x low))
    (λ high. absurd (not_refused (at_least_yes least x high) q))))

-- Of a BigSize at most 8 bytes are missing, so 1 to 8 where it is cut short.
pub reading_few : (s : List ℕ) (r : Refusal) → reading s ≡ Err r → r.missing ≤ 8
reading_few [] r e =
    let is : lacking 13 0 0 1 ≡ r = same_refused (reading_nothing [] refl) e in
    rw (← is) (omega arith)
reading_few (b ∷ bs) r e =
    by_order b 253
    (λ h. absurd (not_refused (reading_1 (b ∷ bs) (omega arith) h) e))
    (λ h.
    let f = announces b h in
    ⊎_elim (λ cut. rw cut.1 (omega (arith, f.few))) (λ long. rw long (omega arith)) (spelled_refused f.n f.least bs r (sym (f.read bs) ∙ e)))

-- a refusal of some bytes: 1, or 2
pub refused_begun : (s : List ℕ) (r : Refusal) → 0 < length s → reading s ≡ Err r → (r ≡ lacking 1 0 0 r.missing) ⊎ (r ≡ bare 2)
refused_begun [] r some e = absurd (omega arith)
refused_begun (b ∷ bs) r some e =
    by_order b 253
    (λ h. absurd (not_refused (reading_1 (b ∷ bs) some h) e))
    (λ h.
    let f = announces b h in
    ⊎_elim (λ cut. inl (rw cut.1)) (λ long. inr long) (spelled_refused f.n f.least bs r (sym (f.read bs) ∙ e)))

-- one of any bytes: of what is cut short, or 2
pub refused_either : (s : List ℕ) (r : Refusal) → reading s ≡ Err r → CutShort r ⊎ (r ≡ bare 2)
refused_either [] r e =
    let is : r ≡ lacking 13 0 0 1 = same_refused e (reading_nothing [] refl) in
    inl (rw is)
refused_either (b ∷ bs) r e = ⊎_elim (λ cut. inl (rw cut)) (λ long. inr long) (refused_begun (b ∷ bs) r (omega arith) e)

-- one byte behind none
begins : (more : List ℕ) (q : Refusal) → length more ≡ 1 → reading more ≡ Err q → q.number ≡ 13 → ⊥
begins [] q one e n = omega arith
begins (b ∷ bs) q one e n = ⊎_elim (λ k. omega arith) (λ k. omega arith) (rw e at (reading_sound b bs))

-- What is missing from a BigSize is what it is called: with fewer bytes more it is still cut short, with as many it no longer is.
pub reading_lacks : (s : List ℕ) (r : Refusal) → reading s ≡ Err r → CutShort r → Lacks r (0 < length s) (λ more. reading (s ++ more))
reading_lacks [] r e cut =
    let is : r ≡ lacking 13 0 0 1 = same_refused e (reading_nothing [] refl) in
    rw is record {
      still = λ more h. let none : length more ≡ 0 = omega arith in rw (reading_nothing more none, none);
      whole = λ more h _ q k same. begins more q h k same.0;
    }
reading_lacks (b ∷ bs) r e cut =
    by_order b 253
    (λ h. absurd (not_refused (reading_1 (b ∷ bs) (omega arith) h) e))
    (λ h.
    let f = announces b h in
    ⊎_elim
    (λ c.
    rw c.1 record {
      still = λ more few.
          f.read (bs ++ more)
          ∙ spelled_cut f.n f.least (bs ++ more) (omega (arith, length-append bs more))
          ∙ ap (λ m. Err (lacking 1 0 0 m)) (omega (arith, length-append bs more));
      whole = λ more all _ q k same.
          ⊎_elim (λ d. omega (arith, length-append bs more, d.0, c.0)) (λ long. let n : q.number ≡ 2 = rw long in omega arith)
          (spelled_refused f.n f.least (bs ++ more) q (sym (f.read (bs ++ more)) ∙ k));
    })
    (λ long. absurd (whole_uncut (bare 2) (refl, refl) (rw long at cut)))
    (spelled_refused f.n f.least bs r (sym (f.read bs) ∙ e)))

-- two refusals of 1 have the same number and place
both_cut : (q p : Refusal) → q ≡ lacking 1 0 0 q.missing → p ≡ lacking 1 0 0 p.missing → (p.number ≡ q.number) × (p.place ≡ q.place)
both_cut q p was is = (
  ap (λ (r : Refusal). r.number) is ∙ sym (ap (λ (r : Refusal). r.number) was),
  ap (λ (r : Refusal). r.place) is ∙ sym (ap (λ (r : Refusal). r.place) was),
)

-- so a number that is cut short is read with what is missing, or it is not shortest; one that is not begun, where its byte is below 253
pub reading_whole : (s : List ℕ) (q : Refusal) → reading s ≡ Err q → CutShort q → (more : List ℕ) → length more ≡ q.missing →
    (0 < length s) ⊎ (get_or more 0 0 < 253) → (p : Refusal) → reading (s ++ more) ≡ Err p → p ≡ bare 2
reading_whole [] q e cut more all low p k =
    let is : lacking 13 0 0 1 ≡ q = same_refused (reading_nothing [] refl) e in
    let one : length more ≡ 1 = all ∙ sym (ap (λ (r : Refusal). r.missing) is) in
    let h : get_or more 0 0 < 253 = ⊎_elim (λ z. absurd (omega arith)) (λ h. h) low in
    absurd (not_refused (reading_1 more (omega arith) h) k)
reading_whole (b ∷ bs) q e cut more all low p k =
    ⊎_elim
    (λ was.
    ⊎_elim
    (λ is. absurd ((reading_lacks (b ∷ bs) q e cut).whole more all (inl (omega arith)) p k (both_cut q p was is)))
    (λ two. two)
    (refused_begun (b ∷ (bs ++ more)) p (omega arith) k))
    (λ two. absurd (whole_uncut (bare 2) (refl, refl) (rw two at cut)))
    (refused_begun (b ∷ bs) q (omega arith) e)
