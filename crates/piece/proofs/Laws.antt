-- What is told of a record at the front of some bytes. Assumes nothing.
use Rattle.std.specs.Prelude.{Some, None}
use Rattle.std.specs.Str.{bytes_eq}
use borrow.Author.Tests.{leb-true, le-leb, eq-eqb, eqb-true}
use mathlib.Core.Bool.{true, false}
use mathlib.Core.List.{List, [], ◌∷◌}
use mathlib.Core.Path.{◌≡◌, refl, sym, ap, ap₂, ◌∙◌}
use Prim.Native.Nat.{ℕ, ◌+◌, ◌-◌, ◌≤◌, ◌<◌}
use native.Mathlib.Omega.{arith}
use lib.Dec.{eqb}
use lib.ListN.{length, drop, length-drop}
use Rattle.bigsize.specs.BigSize.{shortest, peeking}
use Rattle.bigsize.specs.declared.Number.{Number}
use Rattle.bigsize.proofs.Laws.{peeking_width}
use Rattle.laws.proofs.Lists.{length_part}
use Rattle.laws.proofs.Test.{pick_yes, pick_no, pick_all, by_test, and_true, and_both}
use Rattle.stream_writer.specs.Writer.{record_of}
use Rattle.stream_writer.proofs.RowLaws.{length_record}
use Rattle.piece.specs.Piece.{span_of, record_at, is_whole, longer, same, piece_of, piece_in, value_in}
use Rattle.piece.specs.declared.Piece.{Piece}

-- a whole record: two numbers are not cut short, and all of it lies in the bytes
abbrev pub Whole : List ℕ → Type 0
Whole bs = (1 ≤ (record_at 0 bs).type.width) × (1 ≤ (record_at 0 bs).size.width) × (span_of (record_at 0 bs) ≤ length bs)

pub is_whole_means : (bs : List ℕ) → is_whole bs ≡ true → Whole bs
unfolding is_whole
is_whole_means bs h =
    let a = and_true _ _ h in
    let b = and_true _ _ a.0 in
    (leb-true _ _ b.0, leb-true _ _ b.1, leb-true _ _ a.1)

pub whole_is : (bs : List ℕ) → Whole bs → is_whole bs ≡ true
unfolding is_whole
whole_is bs h = and_both _ _ (and_both _ _ (le-leb _ _ h.0) (le-leb _ _ h.1)) (le-leb _ _ h.2)

pub nothing_whole : is_whole [] ≡ false
unfolding is_whole peeking
nothing_whole = refl

-- what is told of one that is whole, and of one that is not
pub piece_whole : (bs : List ℕ) → is_whole bs ≡ true → piece_in bs ≡ Some (piece_of (record_at 0 bs))
unfolding piece_in
piece_whole bs h = pick_yes _ _ _ h

pub piece_cut : (bs : List ℕ) → is_whole bs ≡ false → piece_in bs ≡ None
unfolding piece_in
piece_cut bs h = pick_no _ _ _ h

-- it is whole where something is told of it
pub piece_some : (bs : List ℕ) (p : Piece) → Some p ≡ piece_in bs → (is_whole bs ≡ true) × (p ≡ piece_of (record_at 0 bs))
piece_some bs p h = by_test (is_whole bs) (λ t. let e = piece_whole bs t in (t, cc)) (λ t. absurd (let e = piece_cut bs t in cc))

-- and lies in the bytes
pub piece_inside : (bs : List ℕ) (p : Piece) → Some p ≡ piece_in bs → p.head + p.size ≤ length bs
piece_inside bs p h = let w = piece_some bs p h in rw w.1 (is_whole_means bs w.0).2

pub piece_none : (bs : List ℕ) → None ≡ piece_in bs → is_whole bs ≡ false
piece_none bs h = by_test (is_whole bs) (λ t. absurd (let e = piece_whole bs t in cc)) (λ t. t)

pub value_whole : (bs : List ℕ) → is_whole bs ≡ true → value_in bs ≡ (record_at 0 bs).value
value_whole bs h = pick_yes _ _ _ h

pub value_cut : (bs : List ℕ) → is_whole bs ≡ false → value_in bs ≡ []
value_cut bs h = pick_no _ _ _ h

pub value_length : (place : ℕ) (bs : List ℕ) → is_whole bs ≡ true → length (record_at place bs).value ≡ (record_at place bs).size.value
value_length place bs h = let e = record_at 0 bs in length_part bs (e.type.width + e.size.width) e.size.value (is_whole_means bs h).2

pub longer_le : (x : Number) → longer x ≤ 1
longer_le x = pick_all (λ n. n ≤ 1) (eqb (length (shortest x.value)) x.width) 0 1 (λ _. omega arith) (λ _. omega arith)

-- The turns of `read`, whose type and length are k and n.
module _ (bs : List ℕ) (k : Number) (a : k ≡ peeking bs) where
  pub cut_type : k.width ≡ 0 → None ≡ piece_in bs
  cut_type h = sym (piece_cut bs (by_test (is_whole bs) (λ t. absurd (omega (arith, (is_whole_means bs t).0, ap (λ (x : Number). x.width) a, h))) (λ t. t)))

  pub type_inside : k.width ≤ length bs
  type_inside = omega (arith, (peeking_width bs).0, ap (λ (x : Number). x.width) a)

  module _ (n : Number) (b : n ≡ peeking (drop k.width bs)) where
    b' : n ≡ peeking (drop (peeking bs).width bs)
    b' = rw a at b

    pub head_inside : k.width + n.width ≤ length bs
    head_inside = omega (arith, type_inside, (peeking_width (drop k.width bs)).0, length-drop k.width bs, ap (λ (x : Number). x.width) b)

    pub cut_length : n.width ≡ 0 → None ≡ piece_in bs
    cut_length h = sym (piece_cut bs (by_test (is_whole bs) (λ t. absurd (omega (arith, (is_whole_means bs t).1, ap (λ (x : Number). x.width) b', h))) (λ t. t)))

    pub cut_value : length bs - (k.width + n.width) < n.value → None ≡ piece_in bs
    cut_value h =
        let no : (t : is_whole bs ≡ true) → ⊥ =
        λ t. omega (arith, (is_whole_means bs t).2, ap (λ (x : Number). x.width) a, ap (λ (x : Number). x.width) b', ap (λ (x : Number). x.value) b', h) in
        sym (piece_cut bs (by_test (is_whole bs) (λ t. absurd (no t)) (λ t. t)))

    module _ (x : 1 ≤ k.width) (y : 1 ≤ n.width) (h : n.value ≤ length bs - (k.width + n.width)) where
      whole : is_whole bs ≡ true
      whole =
          let w : (1 ≤ k.width) × (1 ≤ n.width) × (k.width + n.width + n.value ≤ length bs) = (x, y, omega (arith, head_inside)) in
          whole_is bs (rw (a, b') at w)

      pub told : (l s : ℕ) → l ≡ longer k + longer n → s ≡ length (shortest k.value) + length (shortest n.value) + n.value →
          Some (record { kind = k.value; head = k.width + n.width; size = n.value; long = l; short = s }) ≡ piece_in bs
      told l s c d =
          let size : length (record_at 0 bs).value ≡ n.value = value_length 0 bs whole ∙ sym (ap (λ (z : Number). z.value) b') in
          let short : s ≡ length (record_of k.value (record_at 0 bs).value) = d ∙ sym (length_record k.value (record_at 0 bs).value ∙ rw size) in
          rw (c, short, a, b') (sym (piece_whole bs whole))

-- Two values, byte by byte, as the library compares them.
pub same_bytes : (a b : List ℕ) → bytes_eq a b ≡ same a b
unfolding same
same_bytes [] [] = refl
same_bytes [] (y ∷ b) = refl
same_bytes (x ∷ a) [] = refl
same_bytes (x ∷ a) (y ∷ b) = rw (same_bytes a b)

-- what the test of two values says
pub same_true : (a b : List ℕ) → same a b ≡ true → a ≡ b
unfolding same
same_true [] [] h = refl
same_true [] (y ∷ b) h = absurd (cc)
same_true (x ∷ a) [] h = absurd (cc)
same_true (x ∷ a) (y ∷ b) h = let t = and_true _ _ h in ap₂ (λ (n : ℕ) (l : List ℕ). n ∷ l) (eqb-true _ _ t.0) (same_true a b t.1)

pub same_self : (a : List ℕ) → same a a ≡ true
unfolding same
same_self [] = refl
same_self (x ∷ a) = and_both _ _ (eq-eqb x x refl) (same_self a)
