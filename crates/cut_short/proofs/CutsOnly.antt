-- In every refusal of a stream, of a message and of their writers missing is above 0 exactly where something is cut short. Assumes nothing.
use Rattle.std.specs.Prelude.{Ok, Err}
use mathlib.Core.List.{List, [], ◌∷◌}
use mathlib.Core.Path.{◌≡◌, refl}
use Prim.Native.Nat.{ℕ, suc}
use lib.ListN.{length, drop}
use Rattle.answer.specs.Answer.{Answer, lacking, bare, Refusing, accepting, refusing}
use Rattle.answer.specs.Missing.{Counted}
use Rattle.answer.proofs.Answer.{refusing_is, refusing_then, refusing_retold, refusing_fitting}
use Rattle.answer.proofs.Missing.{Whole, whole_counted}
use Rattle.laws.proofs.Test.{pick_all}
use Rattle.message.specs.Layout.{Layout, layout_of, end}
use Rattle.message.specs.Message.{built_in, Outcome, passed_over, told, number_at, by_type, judging as judgingMessage, reading as readingMessage, address_in, addressing}
use Rattle.message_writer.specs.Writer.{Draft, composing as composingMessage, writing as writingMessage}
use Rattle.stream.specs.Stream.{outer_from, judging_from, reading_from}
use Rattle.stream.proofs.Places.{judged_counted, rows_counted}
use Rattle.stream_index.specs.Index.{locating_from}
use Rattle.stream_writer.specs.Writer.{part, value_judged, row_judged, rows_judged, composing as composingStream, writing as writingStream}
use Rattle.table.specs.Table.{lookup}
use Rattle.cut_short.proofs.Wholes.{counted, ensure_whole, checking_whole, find_whole, layout_whole, sized_whole, front_whole, placed_whole, payload_whole}

abbrev Counts : {A : Type 0} → Answer A → Type 0
Counts x = Refusing Counted x

module _ (at : ℕ) (table : List ℕ) (ns : ℕ) (s : List ℕ) where
  -- In the refusal of a stream that is judged or counted missing is above 0 exactly in 1, 4 and 6.
  pub judging_counted : Refusing Counted (judging_from at table ns s)
  unfolding judging_from outer_from
  judging_counted =
      refusing_then _ (counted (checking_whole table)) λ _ _.
      refusing_then _ (counted (ensure_whole _ _ (refl, refl))) λ _ _.
      refusing_then _ (counted (ensure_whole _ _ (refl, refl))) λ _ _. rows_counted table ns 3 at 0 (drop at s)

  -- So it is where an index is filled; 12 lacks nothing.
  pub reading_counted : (room : ℕ) → Refusing Counted (reading_from at table ns s room)
  reading_counted room = refusing_fitting _ room (whole_counted (bare 12) (refl, refl)) judging_counted

  -- So it is where a type is looked for; 15 lacks nothing.
  pub locating_counted : (kind : ℕ) → Refusing Counted (locating_from at table ns s kind)
  unfolding locating_from
  locating_counted kind = refusing_then _ judging_counted λ rows _. counted (find_whole kind rows)

-- a message by its type, and its address
type_counted : (kind : ℕ) (x : Answer Layout) → layout_of kind ≡ x → (m : List ℕ) → Counts (by_type kind x m)
unfolding by_type
type_counted kind (Ok l) e m =
    refusing_then _ (counted (front_whole l.front kind m)) λ first _.
    refusing_then _ (counted (sized_whole kind (end first) m)) λ last _.
    refusing_then _ (judging_counted (end last) built_in l.namespace m) λ _ _. accepting _
type_counted kind (Err r) e m =
    refusing_then _ (counted (ensure_whole _ r (refusing_is (layout_whole kind) e))) λ _ _. accepting _

address_counted : (o : Outcome) → Counts (address_in o)
unfolding address_in
address_counted (told p rows) = counted (pick_all (Refusing Whole) _ _ _ (λ _. find_whole 3 rows) (λ _. refusing (refl, refl)))
address_counted (passed_over kind) = counted (refusing (refl, refl))

module _ (m : List ℕ) where
  -- So it is in the refusal of a message; 20 to 22 lack nothing.
  pub message_counted : Refusing Counted (judgingMessage m)
  unfolding judgingMessage
  message_counted =
      refusing_then _ (counted (ensure_whole _ _ (refl, refl))) λ _ _.
      refusing_then _ (counted (ensure_whole _ _ (refl, refl))) λ _ _. type_counted (number_at 0 m) (layout_of (number_at 0 m)) refl m

  -- So it is where its extension's index is filled.
  pub message_read_counted : (room : ℕ) → Refusing Counted (readingMessage m room)
  message_read_counted room = refusing_fitting _ room (whole_counted (bare 12) (refl, refl)) message_counted

  -- So it is where its address is looked for.
  pub addressing_counted : Refusing Counted (addressing m)
  addressing_counted = refusing_then _ message_counted λ o _. address_counted o

-- a nested fault keeps its number and how much is missing
value_counted : (table : List ℕ) (ns r kind : ℕ) (v : List ℕ) → Counts (value_judged table ns r kind v)
value_counted table ns r kind v =
    refusing_retold (λ q. lacking q.number r kind q.missing) (λ q h. h)
    (judged_counted table 3 (lookup table ns kind) 0 kind 0 v)

rows_judged_counted : (table : List ℕ) (ns : ℕ) (source : List ℕ) (r low : ℕ) (triples : List ℕ) → Counts (rows_judged table ns source r low triples)
unfolding rows_judged row_judged
rows_judged_counted table ns source r low (kind ∷ start ∷ size ∷ triples) =
    refusing_then _
    (refusing_then _ (counted (placed_whole source r low kind start size)) λ _ _.
    refusing_then _ (value_counted table ns r kind (part start size source)) λ _ _. accepting _) λ _ _.
    rows_judged_counted table ns source (suc r) (suc kind) triples
rows_judged_counted table ns source r low [] = accepting tt
rows_judged_counted table ns source r low (_ ∷ []) = accepting tt
rows_judged_counted table ns source r low (_ ∷ _ ∷ []) = accepting tt

module _ (table : List ℕ) (ns : ℕ) (triples source : List ℕ) where
  -- In the refusal of the stream writer, where a nested fault stands at its row, it is so too.
  pub composing_counted : Refusing Counted (composingStream table ns triples source)
  unfolding composingStream
  composing_counted =
      refusing_then _ (counted (checking_whole table)) λ _ _.
      refusing_then _ (counted (ensure_whole _ _ (refl, refl))) λ _ _.
      refusing_then _ (counted (ensure_whole _ _ (refl, refl))) λ _ _.
      refusing_then _ (rows_judged_counted table ns source 0 0 triples) λ _ _.
      refusing_then _ (counted (ensure_whole _ _ (refl, refl))) λ _ _. accepting _

  -- So it is with an output of any length.
  pub writing_counted : (room : ℕ) → Refusing Counted (writingStream table ns triples source room)
  writing_counted room = refusing_fitting length room (whole_counted (bare 12) (refl, refl)) composing_counted

module _ (d : Draft) where
  -- So it is in the refusal of the message writer.
  pub message_composing_counted : Refusing Counted (composingMessage d)
  unfolding composingMessage
  message_composing_counted =
      refusing_then _ (counted (layout_whole d.kind)) λ l _.
      refusing_then _ (counted (payload_whole l.front d.kind d.first d.last d.wanted)) λ _ _.
      refusing_then _ (composing_counted built_in l.namespace d.triples d.source) λ _ _.
      refusing_then _ (counted (ensure_whole _ _ (refl, refl))) λ _ _. accepting _

  -- So it is with an output of any length.
  pub message_writing_counted : (room : ℕ) → Refusing Counted (writingMessage d room)
  message_writing_counted room = refusing_fitting length room (whole_counted (bare 12) (refl, refl)) message_composing_counted
