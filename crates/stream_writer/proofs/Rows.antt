-- The writer judges its rows as the reader judges the records that they spell. Assumes nothing.
use Rattle.std.specs.Prelude.{Ok}
use mathlib.Core.List.{List, [], ◌∷◌, ◌++◌}
use mathlib.Core.Path.{◌≡◌, refl, sym, ◌∙◌}
use Prim.Native.Nat.{ℕ, suc, ◌+◌, ◌*◌, ◌%◌, ◌^◌, ◌≤◌, ◌<◌}
use native.Mathlib.Nat.{add-zero, zero-add}
use native.Mathlib.Omega.{arith}
use lib.Dec.{leb}
use lib.ListN.{length, take, drop, get_or, length-append}
use lib.Seq.{drop-drop}
use borrow.Author.Tests.{leb-true}
use Rattle.bigsize.specs.BigSize.{shortest}
use Rattle.bigsize.proofs.Laws.{reading_width}
use Rattle.bigsize.proofs.RoundTrip.{read_shortest}
use Rattle.frame.specs.Frame.{frame}
use Rattle.laws.proofs.Lists.{length_part}
use Rattle.answer.specs.Answer.{lacking, refuse, ensure, ◌>>=◌}
use Rattle.answer.specs.declared.Refusal.{Refusal}
use Rattle.answer.proofs.Answer.{then_accepted, then_same, then_assoc}
use Rattle.stream.specs.Stream.{row, rows_in, judged, mark_of, outer_from}
use Rattle.stream.proofs.Records.{rows_next, rows_end}
use Rattle.table.specs.Table.{lookup}
use Rattle.stream_writer.specs.Alike.{Alike, accepts}
use Rattle.stream_writer.specs.Triples.{Sixteen, SameRecord, SameContent, place_of, SameFault}
use Rattle.stream_writer.specs.Writer.{part, record_of, bytes_of, rows_judged}
use Rattle.stream_writer.proofs.Alike.{alike_then, alike_right, alike_ensure, alike_unless, alike_less}
use Rattle.stream_writer.proofs.Anywhere.{InRecord, at_record, inside_it}
use Rattle.stream_writer.proofs.Questions.{value_alike, rows_asked}
use Rattle.stream_writer.proofs.Record.{head_of, value_back, rest_back, framing_back}
use Rattle.stream_writer.proofs.RowLaws.{length_record}

-- the head of a record takes a byte or more
head_some : (kind size : ℕ) → kind < 2 ^ 64 → 1 ≤ head_of kind size
head_some kind size h = omega (arith, reading_width (shortest kind ++ []) _ (read_shortest kind h []))

-- the walk over a record in its shortest form, and what follows it
walk_record : (table : List ℕ) (ns place low kind : ℕ) (v rest : List ℕ) → kind < 2 ^ 64 → length v < 2 ^ 64 →
    let head = head_of kind (length v) in
    rows_in table ns 3 place low (record_of kind v ++ rest) ≡
    (ensure (leb low kind) (refuse 3 place kind) >>= λ _.
    judged table 3 (lookup table ns kind) place kind (place + head) v >>= λ mark.
    rows_in table ns 3 (place + (head + length v)) (suc kind) rest >>= λ rows.
    Ok (row kind (place + head) (length v) mark ∷ rows))
walk_record table ns place low kind v rest small short =
    let some : 0 < length (record_of kind v ++ rest) = simp (length-append, length_record kind v) (omega (arith, head_some kind (length v) small)) in
    (rw (framing_back kind v rest small short low place) at (rows_next table ns 3 place low (record_of kind v ++ rest) some))
    ∙ then_assoc _ _ _
    ∙ then_same _ _ _ λ _ _.
    then_accepted (frame kind (head_of kind (length v)) (length v)) _ _ refl ∙ rw (value_back kind v rest, rest_back kind v rest)

-- a row's record begins behind the records of the rows before
place_next : (kind start size : ℕ) (triples source : List ℕ) (i : ℕ) →
    place_of (kind ∷ start ∷ size ∷ triples) source (suc i) ≡ length (record_of kind (part start size source)) + place_of triples source i
unfolding bytes_of
place_next kind start size triples source i =
    let e : 3 * suc i ≡ suc (suc (suc (3 * i))) = omega arith in
    rw e (length-append (record_of kind (part start size source)) (bytes_of (take (3 * i) triples) source))

-- The record of row r begins at `begin r` in the bytes.
module _ (table : List ℕ) (ns : ℕ) (source bytes : List ℕ) (begin : ℕ → ℕ) where
  -- the triples from row r on, whose records are what is left of the bytes
  record Left (r : ℕ) (triples : List ℕ) : Type 0 where
    threes : length triples % 3 ≡ 0
    below : (k : ℕ) → get_or triples k 0 < 2 ^ 64
    spelled : drop (begin r) bytes ≡ bytes_of triples source
    begins : (i : ℕ) → begin (r + i) ≡ begin r + place_of triples source i

  -- the fault that the writer tells by its row lies in that row's record
  abbrev Fault : Refusal → Refusal → Type 0
  Fault q p = SameFault (begin q.place) (begin (suc q.place)) q p

  -- the writer's judgement of the triples from row r on, and the reader's of their records
  abbrev AlikeFrom : (r low : ℕ) → List ℕ → Type 0
  AlikeFrom r low triples =
      Alike Sixteen Fault (λ _ rows. SameContent table ns triples source rows bytes)
      (rows_judged table ns source r low triples) (rows_in table ns 3 (begin r) low (bytes_of triples source))

  module _ (r kind start size : ℕ) (triples : List ℕ) (left : Left r (kind ∷ start ∷ size ∷ triples)) where
    -- the first triple's value, and the head of its record
    abbrev v : List ℕ
    v = part start size source

    abbrev head : ℕ
    head = head_of kind (length v)

    some : 1 ≤ head
    some = head_some kind (length v) (left.below 0)

    -- the records behind it begin behind its own
    begins_later : (i : ℕ) → begin (suc r + i) ≡ begin r + (head + length v + place_of triples source i)
    begins_later i =
        let e : suc r + i ≡ r + suc i = omega arith in
        rw (e, ← (length_record kind v), ← (place_next kind start size triples source i)) (left.begins (suc i))

    begins_next : begin (suc r) ≡ begin r + (head + length v)
    unfolding bytes_of
    begins_next = rw (add-zero (suc r), add-zero (head + length v)) at (begins_later 0)

    -- and they are what is left then
    left_next : Left (suc r) triples
    unfolding bytes_of
    left_next =
        record {
          threes = omega (arith, left.threes);
          below = λ k. left.below (suc (suc (suc k)));
          spelled = rw (begins_next, ← (drop-drop (head + length v) (begin r) bytes), left.spelled) (rest_back kind v (bytes_of triples source));
          begins = λ i. omega (arith, begins_later i, begins_next);
        }

    -- a refusal that the reader tells at the row's record or inside the value
    fault_here : (p : Refusal) → InRecord (begin r) kind (begin r + head) v p → Fault (lacking p.number r kind p.missing) p
    fault_here p (at_record at of) = record { number = refl; missing = refl; after = omega arith; before = omega (arith, begins_next, some); kind = λ _. sym of }
    fault_here p (inside_it low high) =
        record { number = refl; missing = refl; after = omega arith; before = omega (arith, begins_next); kind = λ e. absurd (omega (arith, some)) }

    -- the reader finds the triple's content
    same_record : length v ≡ size → SameRecord table ns kind start size source (row kind (begin r + head) (length v) (mark_of (lookup table ns kind) v)) bytes
    unfolding bytes_of
    same_record long =
        record {
          same_kind = refl;
          same_size = long;
          same_value = rw (← (drop-drop head (begin r) bytes), left.spelled) (value_back kind v (bytes_of triples source));
          marked = refl;
        }

    -- one row more
    alike_more : (low : ℕ) → AlikeFrom (suc r) (suc kind) triples → AlikeFrom r low (kind ∷ start ∷ size ∷ triples)
    unfolding bytes_of SameContent
    alike_more low rest =
        rw (rows_asked table ns source r low kind start size triples)
        (alike_unless (leb (start + size) (length source)) _ _ refl λ fits.
        let long : length v ≡ size = length_part source start size (leb-true (start + size) (length source) fits) in
        rw (walk_record table ns (begin r) low kind v (bytes_of triples source) (left.below 0) (rw long (left.below 2)))
        (alike_then (alike_ensure (leb low kind) _ _ (fault_here _ (at_record refl refl))) λ _ _ _.
        alike_then (alike_less (value_alike table ns r (begin r) kind (begin r + head) v) (λ q p f. rw f.0 (fault_here p f.1))) λ _ mark is.
        alike_right _ (rw begins_next at rest) λ _ rows same. rw is (same_record long, same)))

  -- all of them
  alike_rows : (triples : List ℕ) (r low : ℕ) → Left r triples → AlikeFrom r low triples
  unfolding rows_judged bytes_of SameContent
  alike_rows [] r low left = rw (rows_end table ns 3 (begin r) low [] refl) (accepts tt)
  alike_rows (_ ∷ []) r low left = absurd (omega (arith, left.threes))
  alike_rows (_ ∷ _ ∷ []) r low left = absurd (omega (arith, left.threes))
  alike_rows (kind ∷ start ∷ size ∷ triples) r low left =
      alike_more r kind start size triples left low (alike_rows triples (suc r) (suc kind) (left_next r kind start size triples left))

-- The whole: the writer's judgement of all rows, and the reader's of the stream that they spell, wherever it lies.
pub alike_outer : (at : ℕ) (s : List ℕ) (table : List ℕ) (ns : ℕ) (triples source : List ℕ) → drop at s ≡ bytes_of triples source → length triples % 3 ≡ 0 →
    ((k : ℕ) → get_or triples k 0 < 2 ^ 64) →
    Alike Sixteen (λ q p. SameFault (at + place_of triples source q.place) (at + place_of triples source (suc q.place)) q p)
    (λ _ rows. SameContent table ns triples source rows s)
    (rows_judged table ns source 0 0 triples) (outer_from at table ns s)
unfolding outer_from bytes_of
alike_outer at s table ns triples source spelled threes below =
    rw spelled
    (rw (add-zero at) at
    (alike_rows table ns source s (λ r. at + place_of triples source r) triples 0 0
    (record { threes = threes; below = below; spelled = rw (add-zero at) spelled; begins = λ i. rw (zero-add i, add-zero at) })))
