-- Bytes put into a buffer, one run behind the other. Assumes nothing.
use mathlib.Core.List.{List, [], ◌∷◌, ◌++◌, append-nil, append_assoc}
use mathlib.Core.Path.{◌≡◌, refl, sym, ap, ◌∙◌}
use Prim.Native.Nat.{ℕ, zero, suc, ◌+◌, ◌-◌, ◌≤◌, min}
use native.Mathlib.Nat.{add-sub_cancel_left}
use native.Mathlib.Omega.{arith}
use borrow.Rule.Slice.PartMut.{put_mid}
use lib.ListN.{length, take, drop, set, length-append, length-drop, drop_of_length-le}
use lib.Seq.{sets, sets-eq, length-sets, take_all, drop-drop}
use Rattle.laws.proofs.Lists.{sets_append, part_tail}
use Rattle.laws.proofs.Test.{by_order}
use Rattle.report_lines.specs.Private.{Puts}
use Rattle.report_lines.specs.Text.{laid}

-- a run, and another behind it
pub puts_then : {a b l₀ l₁ l₂ : List ℕ} {at₀ at₁ at₂ : ℕ} → Puts a l₀ at₀ l₁ at₁ → Puts b l₁ at₁ l₂ at₂ → Puts (a ++ b) l₀ at₀ l₂ at₂
puts_then {a} {b} {l₀} {l₁} {l₂} {at₀} {at₁} {at₂} p q =
    record {
      ends = omega (arith, p.ends, q.ends, length-append a b);
      there = q.there ∙ rw (p.there, p.ends) (sym (sets_append l₀ at₀ a b));
    }

-- nothing yet
pub puts_none : (l : List ℕ) (at : ℕ) → Puts [] l at l at
puts_none l at = record { ends = omega arith; there = refl }

-- a buffer keeps its length
pub puts_long : {b l₀ l₁ : List ℕ} {at end : ℕ} → Puts b l₀ at l₁ end → length l₁ ≡ length l₀
puts_long {b} {l₀} {l₁} {at} p = ap length p.there ∙ length-sets l₀ at b

-- A run splits a buffer at the place where it begins.
sets_nil : (i : ℕ) (b : List ℕ) → sets [] i b ≡ []
sets_nil i [] = refl
sets_nil i (a ∷ b) = sets_nil (suc i) b

sets_cons : (x : ℕ) (l : List ℕ) (i : ℕ) (b : List ℕ) → sets (x ∷ l) (suc i) b ≡ x ∷ sets l i b
sets_cons x l i [] = refl
sets_cons x l i (a ∷ b) = sets_cons x (set l i a) (suc i) b

sets_tail : (l : List ℕ) (at : ℕ) (b : List ℕ) → sets l at b ≡ take at l ++ sets (drop at l) 0 b
sets_tail l zero b = refl
sets_tail [] (suc at) b = sets_nil (suc at) b ∙ sym (sets_nil 0 b)
sets_tail (x ∷ l) (suc at) b = sets_cons x l at b ∙ ap (λ r. x ∷ r) (sets_tail l at b)

-- nothing is put behind a buffer's end
pub sets_past : (l : List ℕ) (at : ℕ) (b : List ℕ) → length l ≤ at → sets l at b ≡ l
sets_past l at b h =
    sets_tail l at b ∙ rw (take_all at l h, drop_of_length-le l {i = at} h, sets_nil 0 b) (append-nil l)

-- a run at the front: what fits of it, and the rest as it was
sets_laid : (l b : List ℕ) → sets l 0 b ≡ laid b l
sets_laid [] [] = refl
sets_laid (x ∷ l) [] = refl
sets_laid [] (a ∷ b) = sets_nil 1 b
sets_laid (x ∷ l) (a ∷ b) = sets_cons a l 0 b ∙ ap (λ r. a ∷ r) (sets_laid l b)

pub puts_laid : (b l after : List ℕ) (end : ℕ) → Puts b l 0 after end → (end ≡ length b) × (after ≡ laid b l)
puts_laid b l after end p = (omega (arith, p.ends), p.there ∙ sets_laid l b)

pub laid_puts : (b l after : List ℕ) (end : ℕ) → (end ≡ length b) × (after ≡ laid b l) → Puts b l 0 after end
laid_puts b l after end p = record { ends = omega (arith, p.0); there = p.1 ∙ sym (sets_laid l b) }

-- a run put where there is room for all of it
pub mid_puts : (b l q : List ℕ) (at : ℕ) → at + length b ≤ length l → q ≡ b → Puts b l at (put_mid at (at + length b - at) l q) (at + length b)
mid_puts b l q at h e =
    record { ends = refl; there = rw (add-sub_cancel_left, e, drop-drop (length b) at l) (sym (rw append_assoc at (sets-eq b l at h))) }

-- a copy at the front is such a run
pub copied_laid : (b l after : List ℕ) → (length b ≤ length l → after ≡ b ++ drop (length b) l) → (length l ≤ length b → after ≡ take (length l) b) →
    after ≡ laid b l
copied_laid b l after whole cut =
    by_order (length l) (length b)
    (λ long. cut (omega arith) ∙ sym (rw (drop_of_length-le l {i = length b} (omega arith)) (append-nil (take (length l) b))))
    (λ short. whole short ∙ rw (take_all (length l) b short) refl)

-- A run put at the front of a lent tail, seen in the whole: the tail begins at the place, or at the buffer's end, where the place lies past it.
module _ (b l q : List ℕ) (at begin size : ℕ) (from : begin ≡ min at (length l)) (long : size ≡ length b) where
  pub tail_sets : q ≡ sets (take (length l - begin) (drop begin l)) 0 b → Puts b l at (put_mid begin (length l - begin) l q) (at + size)
  tail_sets p =
      let put : q ≡ sets (drop begin l) 0 b = p ∙ rw part_tail in
      let there : put_mid begin (length l - begin) l q ≡ sets l begin b =
      rw (drop_of_length-le (drop begin l) {i = length l - begin} (omega (arith, length-drop begin l)), append-nil, put) (sym (sets_tail l begin b)) in
      let same : sets l begin b ≡ sets l at b =
      by_order (length l) at
      (λ past. sets_past l begin b (omega arith) ∙ sym (sets_past l at b (omega arith)))
      (λ inside. let is : begin ≡ at = omega arith in rw is) in
      record { ends = omega arith; there = there ∙ same }

  pub tail_puts : q ≡ laid b (take (length l - begin) (drop begin l)) → Puts b l at (put_mid begin (length l - begin) l q) (at + size)
  tail_puts p = tail_sets (p ∙ sym (sets_laid (take (length l - begin) (drop begin l)) b))
