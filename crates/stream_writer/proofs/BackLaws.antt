-- What writing a stream back uses: an index without its marks, and the answers. Assumes nothing.
use Rattle.std.specs.Prelude.{Ok, Err}
use mathlib.Core.Path.{◌≡◌, refl, ap, ◌∙◌}
use mathlib.Core.List.{List, [], ◌∷◌}
use Prim.Native.Nat.{ℕ, suc, ◌+◌, ◌*◌, ◌/◌, ◌≤◌, ◌<◌}
use native.Mathlib.Omega.{arith}
use lib.ListN.{length, get_or, take, drop}
use lib.Seq.{sets, take_at}
use borrow.Author.Tests.{le-leb, lt-leb}
use Rattle.laws.proofs.Lists.{sets_front}
use Rattle.answer.specs.Answer.{bare, filled}
use Rattle.answer.specs.declared.Refusal.{Refusal}
use Rattle.answer.proofs.Answer.{then_accepted, then_refused, ensure_yes, ensure_no, fitting_short, fitting_fits}
use Rattle.stream.specs.Stream.{Row, per_row, reading}
use Rattle.stream_index.specs.Index.{numbers}
use Rattle.stream_index.proofs.Filling.{length_numbers}
use Rattle.table.proofs.Laws.{row_at}
use Rattle.stream_writer.specs.Back.{without_marks, unmarking, writing_back}
use Rattle.stream_writer.specs.Triples.{triples_of}

-- the marks of row r dropped, before those of the n rows behind it
pub marks_next : (index : List ℕ) (r n : ℕ) → r * 4 + 4 ≤ length index →
    without_marks (take (4 * suc n) (drop (r * 4) index)) ≡
    get_or index (r * 4) 0 ∷ get_or index (r * 4 + 1) 0 ∷ get_or index (r * 4 + 2) 0 ∷ without_marks (take (4 * n) (drop ((r + 1) * 4) index))
unfolding without_marks
marks_next index r n h =
    let e : 4 * suc n ≡ suc (suc (suc (suc (4 * n)))) = omega arith in
    rw (row_at index r h, e)

-- no rows, no triples
pub marks_none : (index : List ℕ) → without_marks (take (4 * 0) index) ≡ []
unfolding without_marks
marks_none index = refl

-- three numbers for each whole row
pub length_without : (index : List ℕ) → length (without_marks index) ≡ 3 * (length index / per_row)
unfolding without_marks
length_without [] = refl
length_without (_ ∷ []) = refl
length_without (_ ∷ _ ∷ []) = refl
length_without (_ ∷ _ ∷ _ ∷ []) = refl
length_without (_ ∷ _ ∷ _ ∷ _ ∷ index) = omega (arith, length_without index)

-- the whole rows are all that counts
pub without_rest : (index : List ℕ) → without_marks (take (per_row * (length index / per_row)) index) ≡ without_marks index
unfolding without_marks
without_rest [] = refl
without_rest (_ ∷ []) = refl
without_rest (_ ∷ _ ∷ []) = refl
without_rest (_ ∷ _ ∷ _ ∷ []) = refl
without_rest (kind ∷ start ∷ size ∷ _ ∷ index) =
    let e : 4 * (suc (suc (suc (suc (length index)))) / 4) ≡ suc (suc (suc (suc (4 * (length index / 4))))) = omega arith in
    rw e (ap (λ (l : List ℕ). kind ∷ start ∷ size ∷ l) (without_rest index))

-- The answers about the triples of an index.
module _ (index : List ℕ) (room : ℕ) where
  pub unmarking_short : room < 3 * (length index / per_row) → unmarking index room ≡ Err (bare 12)
  unmarking_short h = fitting_short length room _ (without_marks index) refl (rw (length_without index) h)

  pub unmarking_fits : 3 * (length index / per_row) ≤ room → unmarking index room ≡ Ok (without_marks index)
  unmarking_fits h = fitting_fits length room _ (without_marks index) refl (rw (length_without index) h)

-- the numbers of rows, without the marks, are their triples
pub numbers_triples : (rows : List Row) → without_marks (numbers rows) ≡ triples_of rows
unfolding without_marks numbers triples_of
numbers_triples [] = refl
numbers_triples (r ∷ rows) = ap (λ (l : List ℕ). r.kind ∷ r.start ∷ r.size ∷ l) (numbers_triples rows)

pub length_triples : (rows : List Row) → length (triples_of rows) ≡ 3 * length rows
unfolding triples_of
length_triples [] = refl
length_triples (r ∷ rows) = omega (arith, length_triples rows)

-- an index that was filled, its marks dropped in front of other triples
pub triples_filled : (rows : List Row) (index triples : List ℕ) (n : ℕ) → length rows ≡ n → 3 * n ≤ length triples →
    sets triples 0 (without_marks (take (per_row * n) (filled (Ok (numbers rows)) index))) ≡ filled (Ok (triples_of rows)) triples
triples_filled rows index triples n e room =
    let front = take_at (numbers rows) (drop (length (numbers rows)) index) (4 * n) (omega (arith, length_numbers rows, e)) in
    rw (front, numbers_triples) (sets_front triples (triples_of rows) (omega (arith, length_triples rows, e)))

-- and taken from their front
pub triples_taken : (rows : List Row) (triples : List ℕ) (n : ℕ) → length rows ≡ n → take (n * 3) (filled (Ok (triples_of rows)) triples) ≡ triples_of rows
triples_taken rows triples n e = take_at (triples_of rows) (drop (length (triples_of rows)) triples) (n * 3) (omega (arith, length_triples rows, e))

-- The answers of writing back, one law each.
module _ (table : List ℕ) (ns : ℕ) (s : List ℕ) (index triples out : ℕ) where
  pub back_refused : (r : Refusal) → reading table ns s index ≡ Err r → writing_back table ns s index triples out ≡ Err r
  unfolding writing_back
  back_refused r e = then_refused r _ _ e

  module _ (rows : List Row) (fine : reading table ns s index ≡ Ok rows) where
    pub back_triples : triples < 3 * length rows → writing_back table ns s index triples out ≡ Err (bare 12)
    unfolding writing_back
    back_triples h = then_accepted rows _ _ fine ∙ ensure_no _ _ _ (lt-leb _ _ h)

    module _ (room : 3 * length rows ≤ triples) where
      pub back_out : out < length s → writing_back table ns s index triples out ≡ Err (bare 12)
      unfolding writing_back
      back_out h = then_accepted rows _ _ fine ∙ ensure_yes _ _ _ (le-leb _ _ room) ∙ ensure_no _ _ _ (lt-leb _ _ h)

      pub back_fits : length s ≤ out → writing_back table ns s index triples out ≡ Ok rows
      unfolding writing_back
      back_fits h = then_accepted rows _ _ fine ∙ ensure_yes _ _ _ (le-leb _ _ room) ∙ ensure_yes _ _ _ (le-leb _ _ h)
