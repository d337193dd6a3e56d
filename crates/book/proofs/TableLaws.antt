-- A book's table, one law for each answer. Assumes nothing.
use Rattle.std.specs.Prelude.{Ok, Err}
use mathlib.Core.List.{List, ◌∷◌}
use mathlib.Core.Path.{◌≡◌, refl, sym, ap, ◌∙◌}
use Prim.Native.Nat.{ℕ, zero, suc, ◌+◌, ◌*◌, ◌-◌, ◌≤◌, ◌<◌}
use native.Mathlib.Numerals.{add-one}
use native.Mathlib.Omega.{arith}
use lib.ListN.{length, take, drop, set}
use lib.Seq.{sets, drop-drop}
use borrow.Author.Tests.{leb-true, le-leb, lt-leb}
use Rattle.laws.specs.Digits.{from_bytes}
use Rattle.answer.specs.Answer.{bare}
use Rattle.answer.proofs.Answer.{then_accepted, then_refused, both, ensure_yes, ensure_no, ensured}
use Rattle.book.specs.Book.{number_at, numbers, table_in}
use Rattle.book.proofs.SectionLaws.{number_cut, number_there}

pub length_numbers : (n : ℕ) (s : List ℕ) → length (numbers n s) ≡ n
unfolding numbers
length_numbers zero s = refl
length_numbers (suc n) s = ap suc (length_numbers n (drop 8 s))

-- an element, and a run behind it
set_then : (l : List ℕ) (i x : ℕ) (rest : List ℕ) → sets (set l i x) (i + 1) rest ≡ sets l i (x ∷ rest)
set_then l i x rest = rw add-one

-- one number more is put: those left stand behind it
pub fill_next : (book out whole : List ℕ) (count i n : ℕ) → i < count → n ≡ from_bytes (take 8 (drop (2 + i * 8) book)) →
    sets out i (numbers (count - i) (drop (2 + i * 8) book)) ≡ whole → sets (set out i n) (i + 1) (numbers (count - (i + 1)) (drop (2 + (i + 1) * 8) book)) ≡ whole
unfolding numbers
fill_next book out whole count i n h is e =
    let one : count - i ≡ suc (count - (i + 1)) = omega arith in
    let on : 2 + i * 8 + 8 ≡ 2 + (i + 1) * 8 = omega arith in
    let behind : drop 8 (drop (2 + i * 8) book) ≡ drop (2 + (i + 1) * 8) book = drop-drop 8 (2 + i * 8) book ∙ ap (λ k. drop k book) on in
    set_then out i n (numbers (count - (i + 1)) (drop (2 + (i + 1) * 8) book)) ∙ rw (is, ← behind) (rw one at e)

module _ (book : List ℕ) where
  pub table_cut : length book < 2 → table_in book ≡ Err (bare 70)
  unfolding table_in
  table_cut h = then_refused (bare 70) _ _ (number_cut 0 book h)

  module _ (rows : ℕ) (there : 2 ≤ length book) (is : rows ≡ from_bytes (take 2 (drop 0 book))) where
    rows_there : number_at 0 book ≡ Ok rows
    rows_there = number_there 0 book there ∙ ap Ok (sym is)

    pub table_short : length book < 2 + 8 * (4 * rows) → table_in book ≡ Err (bare 70)
    unfolding table_in
    table_short h = then_accepted rows _ _ rows_there ∙ ensure_no _ _ _ (lt-leb (2 + 8 * (4 * rows)) (length book) h)

    pub table_there : 2 + 8 * (4 * rows) ≤ length book → table_in book ≡ Ok (numbers (4 * rows) (drop 2 book))
    unfolding table_in
    table_there h = then_accepted rows _ _ rows_there ∙ ensure_yes _ _ _ (le-leb (2 + 8 * (4 * rows)) (length book) h)

  -- one that was read is made of whole rows that lie in the book
  pub record Rows (table : List ℕ) : Type 0 where
    pub rows : ℕ
    pub fours : length table ≡ 4 * rows
    pub inside : 2 + 8 * length table ≤ length book
    pub is : table ≡ numbers (length table) (drop 2 book)

  pub table_rows : (table : List ℕ) → table_in book ≡ Ok table → Rows table
  unfolding table_in
  table_rows table h =
      let a = both _ _ table h in
      let b = ensured _ _ _ table a.second in
      let is : numbers (4 * a.is) (drop 2 book) ≡ table = cc b.rest in
      let long : length table ≡ 4 * a.is = ap length (sym is) ∙ length_numbers (4 * a.is) (drop 2 book) in
      record { rows = a.is; fours = long; inside = rw long (leb-true _ _ b.holds); is = sym (rw (← long) at is) }
