-- The stream writer and the reader, there and back. Assumes nothing.
use Rattle.std.specs.Prelude.{Ok, Err}
use mathlib.Core.List.{List}
use mathlib.Core.Logic.{◌↔◌, inl, inr}
use mathlib.Core.Path.{◌≡◌, refl, ap, ◌∙◌}
use Prim.Native.Nat.{ℕ, ◌%◌, ◌^◌, ◌≤◌, ◌<◌}
use native.Mathlib.Nat.{zero-add}
use native.Mathlib.Omega.{arith}
use lib.Dec.{leb, eqb}
use lib.ListN.{length, drop, get_or}
use borrow.Author.Tests.{le-leb, eqb-true}
use Rattle.laws.specs.Digits.{AreBytes}
use Rattle.answer.specs.declared.Refusal.{Refusal}
use Rattle.answer.proofs.Answer.{ensure_yes}
use Rattle.stream.specs.Stream.{Row, judging, outer_from, judging_from}
use Rattle.stream.proofs.Judging.{judging_outer, judging_fine}
use Rattle.table.specs.Table.{checking}
use Rattle.stream_writer.specs.Alike.{Alike}
use Rattle.stream_writer.specs.Triples.{triples_of, SameContent, Sixteen, SameRefusal}
use Rattle.stream_writer.specs.Writer.{bytes_of, composing, writing}
use Rattle.stream_writer.proofs.Alike.{alike_then, alike_left, alike_itself, alike_ensure, alike_unless, alike_less, accepted_right, refused_right, accepted_exactly}
use Rattle.stream_writer.proofs.BackLaws.{length_triples}
use Rattle.stream_writer.proofs.Composing.{composing_fits, composed, written, writing_fits}
use Rattle.stream_writer.proofs.Rows.{alike_outer}
use Rattle.stream_writer.proofs.WrittenBack.{back}

-- an accepted stream, composed again
pub composed_again : (at : ℕ) (table : List ℕ) (ns : ℕ) (s : List ℕ) (rows : List Row) → AreBytes s → judging_from at table ns s ≡ Ok rows →
    composing table ns (triples_of rows) s ≡ Ok (drop at s)
unfolding outer_from
composed_again at table ns s rows bytes h =
    let f = judging_fine at table ns s rows h in
    let b = back table ns s bytes rows at 0 f.walked in
    let threes : length (triples_of rows) % 3 ≡ 0 = omega (arith, length_triples rows) in
    composing_fits table ns (triples_of rows) s f.checked f.bounded threes (b.fine 0) (rw b.spells f.short) ∙ ap Ok b.spells

-- Every stream that the reader accepts, wherever it lies, is written back, from its own index rows and bytes, to the same bytes, into every output that they fit.
pub read_is_written : (at : ℕ) (table : List ℕ) (ns : ℕ) (s : List ℕ) (rows : List Row) → AreBytes s → judging_from at table ns s ≡ Ok rows →
    (room : ℕ) → length (drop at s) ≤ room → writing table ns (triples_of rows) s room ≡ Ok (drop at s)
read_is_written at table ns s rows bytes h room = writing_fits table ns (triples_of rows) s room (drop at s) (composed_again at table ns s rows bytes h)

-- Triples of 64-bit numbers, and the stream that they spell.
module _ (table : List ℕ) (ns : ℕ) (triples source : List ℕ) (below : (k : ℕ) → get_or triples k 0 < 2 ^ 64) where
  -- Unless it refuses with 16, the writer answers as the reader of the stream does, 14 apart: both accept, with the same content, or both refuse alike.
  pub answers_alike : length (bytes_of triples source) ≤ 65535 →
      Alike Sixteen (SameRefusal triples source) (λ bytes rows. SameContent table ns triples source rows bytes)
      (composing table ns triples source) (judging table ns (bytes_of triples source))
  unfolding composing judging_from
  answers_alike short =
      let fits = le-leb (length (bytes_of triples source)) 65535 short in
      alike_then (alike_itself (checking table) (λ _. inl refl)) λ _ _ _.
      alike_then (alike_ensure (leb ns 63) _ _ (inl refl)) λ _ _ _.
      alike_unless (eqb (length triples % 3) 0) _ _ refl λ in-threes.
      simp (ensure_yes, fits)
      (alike_left _
      (alike_less (alike_outer 0 (bytes_of triples source) table ns triples source refl (eqb-true (length triples % 3) 0 in-threes) below)
      (λ _ _ f. inr (rw (zero-add, zero-add) at f)))
      λ _ _ same. same)

  -- what is composed, read wherever it lies
  pub composed_is_read : (bytes : List ℕ) → composing table ns triples source ≡ Ok bytes → (at : ℕ) (s : List ℕ) → drop at s ≡ bytes →
      (rows : List Row) × (judging_from at table ns s ≡ Ok rows) × SameContent table ns triples source rows s
  composed_is_read bytes h at s behind =
      let c = composed table ns triples source bytes h in
      let spelled = behind ∙ c.is in
      let r = accepted_right (alike_outer at s table ns triples source spelled c.threes below) tt c.judged in
      (r.0, judging_outer at table ns s c.checked c.bounded (rw spelled c.short) ∙ r.1, r.2)

  -- Whatever the writer makes, the reader accepts, wherever it lies, with the same types, lengths and values in the same order and the marks that the table
  -- gives.
  pub written_is_read : (room : ℕ) (bytes : List ℕ) → writing table ns triples source room ≡ Ok bytes → (at : ℕ) (s : List ℕ) → drop at s ≡ bytes →
      (rows : List Row) × (judging_from at table ns s ≡ Ok rows) × SameContent table ns triples source rows s
  written_is_read room bytes h = composed_is_read bytes (written table ns triples source room bytes h)

  -- Unless it refuses with 16, the writer accepts exactly where the reader accepts the stream.
  pub accepts_exactly : ((q : Refusal) → composing table ns triples source ≡ Err q → Sixteen q → ⊥) →
      ((bytes : List ℕ) × (composing table ns triples source ≡ Ok bytes)) ↔
      ((rows : List Row) × (judging table ns (bytes_of triples source) ≡ Ok rows))
  accepts_exactly none = (
    λ w. (accepted_exactly (answers_alike (composed table ns triples source w.0 w.1).short) none).0 w,
    λ r. (accepted_exactly (answers_alike (judging_fine 0 table ns (bytes_of triples source) r.0 r.1).short) none).1 r,
  )

  -- Where the writer refuses, 14 and 16 apart, the reader refuses the stream with the same number, in the record of the row that the writer names.
  pub refuses_alike : length (bytes_of triples source) ≤ 65535 → (q : Refusal) → composing table ns triples source ≡ Err q → (Sixteen q → ⊥) →
      (p : Refusal) × (judging table ns (bytes_of triples source) ≡ Err p) × SameRefusal triples source q p
  refuses_alike short = refused_right (answers_alike short)
