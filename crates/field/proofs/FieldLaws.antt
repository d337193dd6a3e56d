-- The fields of an invoice: an equation for each answer, and the walk over them. Assumes nothing.
use Rattle.std.specs.Prelude.{Some, Ok, Err}
use mathlib.Core.List.{List, [], ◌∷◌}
use mathlib.Core.Bool.{true}
use mathlib.Core.Path.{◌≡◌, refl, sym, ap, ◌∙◌}
use Prim.Native.Nat.{ℕ, zero, suc, ◌+◌, ◌*◌, ◌≤◌, ◌<◌}
use native.Mathlib.Nat.{zero-add}
use native.Mathlib.Numerals.{towards_suc}
use native.Mathlib.Omega.{arith}
use lib.Dec.{eqb}
use lib.ListN.{length, get_or, drop, length-drop}
use lib.Seq.{drop-cons, drop-drop}
use borrow.Author.Tests.{leb-true, eqb-true, le-leb, lt-leb}
use Rattle.answer.specs.Answer.{Answer, bare, ◌>>=◌}
use Rattle.answer.specs.declared.Refusal.{Refusal}
use Rattle.answer.proofs.Answer.{then_accepted, then_refused, then_same, both, ensure_yes, ensure_no, ensured}
use Rattle.laws.specs.Test.{pick}
use Rattle.laws.proofs.Test.{split, and_true}
use Rattle.field.specs.Fields.{field, field_at, fields_from, expiry, delta, usable, is_usable, first_usable, numbers_of}
use Rattle.field.specs.declared.Field.{Field}

-- One field.
module _ (at : ℕ) where
  pub field_short : (gs : List ℕ) → length gs < 3 → field_at at gs ≡ Err (bare 38)
  unfolding field_at
  field_short [] h = refl
  field_short (_ ∷ []) h = refl
  field_short (_ ∷ _ ∷ []) h = refl
  field_short (_ ∷ _ ∷ _ ∷ gs) h = absurd (omega arith)

  module _ (kind high low : ℕ) (gs : List ℕ) where
    pub field_cut : length gs < high * 32 + low → field_at at (kind ∷ high ∷ low ∷ gs) ≡ Err (bare 38)
    unfolding field_at
    field_cut h = ensure_no _ _ _ (lt-leb (high * 32 + low) (length gs) h)

    pub field_fits : high * 32 + low ≤ length gs → field_at at (kind ∷ high ∷ low ∷ gs) ≡ Ok (field kind (at + 3) (high * 32 + low))
    unfolding field_at
    field_fits h = ensure_yes _ _ _ (le-leb (high * 32 + low) (length gs) h)

  -- an accepted field lies in the groups
  pub field_in : (gs : List ℕ) (f : Field) → field_at at gs ≡ Ok f → (f.start ≡ at + 3) × (3 + f.size ≤ length gs)
  unfolding field_at
  field_in [] f h = absurd (let z : ◌≡◌ {A = ℕ} 0 1 = cc in omega arith)
  field_in (_ ∷ []) f h = absurd (let z : ◌≡◌ {A = ℕ} 0 1 = cc in omega arith)
  field_in (_ ∷ _ ∷ []) f h = absurd (let z : ◌≡◌ {A = ℕ} 0 1 = cc in omega arith)
  field_in (kind ∷ high ∷ low ∷ gs) f h =
      let e = ensured _ _ _ f h in
      let is : f ≡ field kind (at + 3) (high * 32 + low) = cc e.rest in
      (ap (λ (x : Field). x.start) is, omega (arith, leb-true (high * 32 + low) (length gs) e.holds, ap (λ (x : Field). x.size) is))

-- the three groups at a place, and those behind them
three_at : (s : List ℕ) (at : ℕ) → at + 3 ≤ length s → drop at s ≡ get_or s at 0 ∷ get_or s (at + 1) 0 ∷ get_or s (at + 2) 0 ∷ drop (at + 3) s
three_at s at h =
    simp towards_suc
    (rw (drop-cons s at 0 (omega arith), drop-cons s (suc at) 0 (omega arith), drop-cons s (suc (suc at)) 0 (omega arith)))

-- The field at a place of a run of groups.
module _ (s : List ℕ) (at : ℕ) where
  abbrev size_at : ℕ
  size_at = get_or s (at + 1) 0 * 32 + get_or s (at + 2) 0

  pub at_short : length s < at + 3 → field_at (7 + at) (drop at s) ≡ Err (bare 38)
  at_short h = field_short (7 + at) (drop at s) (omega (arith, length-drop at s))

  module _ (inside : at + 3 ≤ length s) where
    pub at_cut : length s < at + 3 + size_at → field_at (7 + at) (drop at s) ≡ Err (bare 38)
    at_cut h = rw (three_at s at inside) (field_cut (7 + at) _ _ _ _ (omega (arith, length-drop (at + 3) s)))

    pub at_fits : at + 3 + size_at ≤ length s → field_at (7 + at) (drop at s) ≡ Ok (field (get_or s at 0) (7 + at + 3) size_at)
    at_fits h = rw (three_at s at inside) (field_fits (7 + at) _ _ _ _ (omega (arith, length-drop (at + 3) s)))

-- More than enough fields are counted alike.
enough : (c d at : ℕ) (gs : List ℕ) → length gs ≤ c → length gs ≤ d → fields_from c at gs ≡ fields_from d at gs
unfolding fields_from
enough zero zero at gs h k = refl
enough zero (suc d) at [] h k = refl
enough zero (suc d) at (g ∷ gs) h k = absurd (omega arith)
enough (suc c) zero at [] h k = refl
enough (suc c) zero at (g ∷ gs) h k = absurd (omega arith)
enough (suc c) (suc d) at [] h k = refl
enough (suc c) (suc d) at (g ∷ gs) h k =
    then_same _ _ _ λ f _.
    ap (λ (x : Answer (List Field)). x >>= λ rest. Ok (f ∷ rest))
    (enough c d (f.start + f.size) (drop (3 + f.size) (g ∷ gs)) (omega (arith, length-drop (3 + f.size) (g ∷ gs))) (omega (arith, length-drop (3 + f.size) (g ∷ gs))))

-- the fields from a place on, without a count
abbrev pub walk : (at : ℕ) (gs : List ℕ) → Answer (List Field)
walk at gs = fields_from (length gs) at gs

pub walk_end : (at : ℕ) (gs : List ℕ) → length gs ≡ 0 → walk at gs ≡ Ok []
unfolding fields_from
walk_end at [] h = refl
walk_end at (g ∷ gs) h = absurd (omega arith)

pub walk_next : (at : ℕ) (gs : List ℕ) → 0 < length gs →
    walk at gs ≡ (field_at at gs >>= λ f. walk (f.start + f.size) (drop (3 + f.size) gs) >>= λ rest. Ok (f ∷ rest))
unfolding fields_from
walk_next at [] h = absurd (omega arith)
walk_next at (g ∷ gs) h =
    then_same _ _ _ λ f _.
    ap (λ (x : Answer (List Field)). x >>= λ rest. Ok (f ∷ rest))
    (enough (length gs) (length (drop (3 + f.size) (g ∷ gs))) (f.start + f.size) (drop (3 + f.size) (g ∷ gs)) (omega (arith, length-drop (3 + f.size) (g ∷ gs))) (omega arith))

-- The fields from a place of such a run on.
module _ (s : List ℕ) where
  abbrev pub left : (at : ℕ) → Answer (List Field)
  left at = walk (7 + at) (drop at s)

  pub left_end : (at : ℕ) → length s ≤ at → left at ≡ Ok []
  left_end at h = walk_end (7 + at) (drop at s) (omega (arith, length-drop at s))

  module _ (at : ℕ) (more : at < length s) where
    pub left_refused : (r : Refusal) → field_at (7 + at) (drop at s) ≡ Err r → left at ≡ Err r
    left_refused r e = walk_next (7 + at) (drop at s) (omega (arith, length-drop at s)) ∙ then_refused r _ _ e

    module _ (f : Field) (e : field_at (7 + at) (drop at s) ≡ Ok f) where
      pub field_inside : at + (3 + f.size) ≤ length s
      field_inside = omega (arith, field_in (7 + at) (drop at s) f e, length-drop at s)

      pub left_field : left at ≡ (left (at + (3 + f.size)) >>= λ rest. Ok (f ∷ rest))
      left_field =
          let i = field_in (7 + at) (drop at s) f e in
          let next : f.start + f.size ≡ 7 + (at + (3 + f.size)) = omega (arith, i) in
          walk_next (7 + at) (drop at s) (omega (arith, length-drop at s))
          ∙ then_accepted f _ _ e
          ∙ rw (next, drop-drop (3 + f.size) at s)

-- The fields that are still to come, of those that were accepted.
module _ (s : List ℕ) (fields : List Field) (at row : ℕ) where
  pub record Rest : Type 0 where
    pub rest : List Field
    pub there : left s at ≡ Ok rest
    pub counted : length fields ≡ row + length rest

-- at the beginning, all
abbrev pub rest_all : (s : List ℕ) (fields : List Field) → left s 0 ≡ Ok fields → Rest s fields 0 0
rest_all s fields h = record { rest = fields; there = h; counted = sym (zero-add (length fields)) }

-- with a field at this place, that one and those behind it
pub record Next (s : List ℕ) (fields : List Field) (at row : ℕ) (f : Field) (x : Rest s fields at row) : Type 0 where
  pub next : Rest s fields (at + (3 + f.size)) (row + 1)
  pub is : x.rest ≡ f ∷ next.rest

pub rest_next : (s : List ℕ) (fields : List Field) (at row : ℕ) (f : Field) → at < length s → field_at (7 + at) (drop at s) ≡ Ok f →
    (x : Rest s fields at row) → Next s fields at row f x
rest_next s fields at row f more e x =
    let b = both _ _ x.rest (sym (left_field s at more f e) ∙ x.there) in
    let is : x.rest ≡ f ∷ b.is = cc b.second in
    record { next = record { rest = b.is; there = b.first; counted = omega (arith, x.counted, ap length is) }; is = is }

-- none at the end
pub rest_none : (s : List ℕ) (fields : List Field) (at row : ℕ) → length s ≤ at → (x : Rest s fields at row) → x.rest ≡ []
rest_none s fields at row h x =
    let e = sym (left_end s at h) ∙ x.there in
    cc e

-- an accepted walk has no refused field
pub rest_fine : (s : List ℕ) (fields : List Field) (at row : ℕ) (r : Refusal) → at < length s → field_at (7 + at) (drop at s) ≡ Err r →
    Rest s fields at row → ⊥
rest_fine s fields at row r more e x = let z : ◌≡◌ {A = ℕ} 0 1 = cc (sym (left_refused s at more r e) ∙ x.there) in absurd (omega arith)

-- The index of fields.
pub numbers_next : (f : Field) (fs : List Field) → numbers_of (f ∷ fs) ≡ f.kind ∷ f.start ∷ f.size ∷ numbers_of fs
unfolding numbers_of
numbers_next f fs = refl

pub numbers_none : numbers_of [] ≡ []
unfolding numbers_of
numbers_none = refl

pub length_numbers : (fs : List Field) → length (numbers_of fs) ≡ 3 * length fs
unfolding numbers_of
length_numbers [] = refl
length_numbers (f ∷ fs) = omega (arith, length_numbers fs)

-- A field that is found lies in the groups, and is usable.
pub found_lies : (kind count at : ℕ) (gs : List ℕ) (fs : List Field) (f : Field) → fields_from count at gs ≡ Ok fs → first_usable kind fs ≡ Some f →
    (f.start + f.size ≤ at + length gs) × (is_usable kind f ≡ true)
unfolding fields_from first_usable
found_lies kind zero at gs fs f h k = let z : ◌≡◌ {A = ℕ} 0 1 = cc in absurd (omega arith)
found_lies kind (suc count) at [] fs f h k = let z : ◌≡◌ {A = ℕ} 0 1 = cc in absurd (omega arith)
found_lies kind (suc count) at (g ∷ gs) fs f h k =
    let a = both _ _ fs h in
    let b = both _ _ fs a.second in
    let is : fs ≡ a.is ∷ b.is = cc b.second in
    let i = field_in at (g ∷ gs) a.is a.first in
    split (is_usable kind a.is) (Some a.is) (first_usable kind b.is) (Some f) (sym (ap (first_usable kind) is) ∙ k)
    (λ yes e. let same : a.is ≡ f = cc e in (omega (arith, i, ap (λ (x : Field). x.start + x.size) same), ap (is_usable kind) (sym same) ∙ yes))
    λ _ e.
    let r = found_lies kind count (a.is.start + a.is.size) (drop (3 + a.is.size) (g ∷ gs)) b.is f b.first e in
    (omega (arith, r.0, i, length-drop (3 + a.is.size) (g ∷ gs)), r.1)

-- a usable x or c has few groups
pub expiry_few : (f : Field) → is_usable expiry f ≡ true → f.size ≤ 12
unfolding usable pick
expiry_few f h =
    let e = and_true (eqb f.kind expiry) (usable f.kind f.size) h in
    leb-true f.size 12 (rw (eqb-true f.kind expiry e.0) at e.1)

pub delta_few : (f : Field) → is_usable delta f ≡ true → f.size ≤ 12
unfolding usable pick
delta_few f h =
    let e = and_true (eqb f.kind delta) (usable f.kind f.size) h in
    leb-true f.size 12 (rw (eqb-true f.kind delta e.0) at e.1)
