-- Demand 3: how the answers of two readers relate, the newer's table holding every row of the older's unchanged. Assumes nothing.
use mathlib.Core.List.{List, [], ◌∷◌, ◌++◌, Memᴰ}
use Rattle.std.specs.Prelude.{◌↔◌, ◌≡◌, ℕ, ◌+◌, ◌%◌, ◌≤◌, ◌<◌, length, Ok, Err, None}
use Rattle.answer.specs.Answer.{Answer, refuse, mapped, filled}
use Rattle.answer.specs.declared.Refusal.{Refusal}
use Rattle.stream.specs.Tally.{tally}
use Rattle.stream.specs.Stream.{Record, knows, met_in, records_of, judged, Row, reading}
use Rattle.stream.specs.declared.Counts.{Counts}
use Rattle.stream_index.specs.Index.{numbers}
use Rattle.table.specs.Table.{lookup}

-- The records that a table can enter in a stream of a namespace: all that it meets there, the outer ones, those inside each that it has in form 5, and so
-- on inward.
abbrev pub enterable : List ℕ → (namespace : ℕ) → List ℕ → List Record
enterable table ns s = records_of (met_in table ns 3 0 0 s)

-- a table's judgement of a record, with what is inside it, where it lies and at its level
abbrev pub verdict : List ℕ → Record → Answer ℕ
verdict table e = judged table e.levels (knows table e) e.place e.kind e.start e.value

-- some record of a list
abbrev pub Some : (Record → Type 0) → List Record → Type 0
Some P l = (e : Record) × Memᴰ e l × P e

-- e is the first record of a list with a property: none before it has it
pub record First (P : Record → Type 0) (l : List Record) (e : Record) : Type 0 where
  pub before : List Record
  pub after : List Record
  pub split : l ≡ before ++ e ∷ after
  pub none : Some P before → ⊥
  pub has : P e

-- a reader refuses
abbrev pub Refuses : {A : Type 0} → Answer A → Type 0
Refuses answer = (r : Refusal) × (answer ≡ Err r)

-- a record with an even type that the older table lacks
abbrev pub LacksEven : (older : List ℕ) → Record → Type 0
LacksEven older e = (knows older e ≡ None) × (e.kind % 2 ≡ 0)

-- a record's value, judged by a table where it lies and at its level, gives a refusal, any of 1 to 11
pub record Gives (table : List ℕ) (e : Record) (r : Refusal) : Type 0 where
  pub judges : verdict table e ≡ Err r
  pub least : 1 ≤ r.number
  pub most : r.number ≤ 11

-- a record with an odd type that the older table lacks, and a value that breaks the newer table's form
abbrev pub Breaks : (older newer : List ℕ) → Record → Type 0
Breaks older newer e = (knows older e ≡ None) × (e.kind % 2 ≡ 1) × (r : Refusal) × Gives newer e r

-- a refusal that lies at or inside a record
pub record Inside (e : Record) (r : Refusal) : Type 0 where
  pub from : e.place ≤ r.place
  pub to : r.place < e.start + length e.value

-- the same type, start and length, and the same mark wherever the older table has the type
pub record SameRow (older : List ℕ) (namespace : ℕ) (r s : Row) : Type 0 where
  pub kind : r.kind ≡ s.kind
  pub start : r.start ≡ s.start
  pub size : r.size ≡ s.size
  pub mark : (lookup older namespace r.kind ≡ None → ⊥) → r.mark ≡ s.mark

-- the same records: as many, in the same order
unfoldable pub SameRows : (older : List ℕ) (namespace : ℕ) → List Row → List Row → Type 0
SameRows older ns [] [] = Unit {0}
SameRows older ns [] (s ∷ ss) = ⊥
SameRows older ns (r ∷ rs) [] = ⊥
SameRows older ns (r ∷ rs) (s ∷ ss) = SameRow older ns r s × SameRows older ns rs ss

-- an answer that accepts with the same records
abbrev pub AcceptsSame : (older : List ℕ) (namespace : ℕ) → List Row → Answer (List Row) → Type 0
AcceptsSame older ns rows answer = (same : List Row) × (answer ≡ Ok same) × SameRows older ns rows same

module _ (older newer : List ℕ) (namespace : ℕ) (stream : List ℕ) (room : ℕ) (rows : List Row) where
  -- The first half, where the newer reader accepts with `rows`. The older refuses exactly when some record that it can enter has an even type that it
  -- lacks; then with 7 and the place and type of the first such record; otherwise it accepts with the same records.
  pub record OlderAnswers : Type 0 where
    pub refuses : Refuses (reading older namespace stream room) ↔ Some (LacksEven older) (enterable older namespace stream)
    pub first : Refuses (reading older namespace stream room) → (e : Record) × First (LacksEven older) (enterable older namespace stream) e ×
        (reading older namespace stream room ≡ Err (refuse 7 e.place e.kind))
    pub otherwise : (Some (LacksEven older) (enterable older namespace stream) → ⊥) →
        AcceptsSame older namespace rows (reading older namespace stream room)

  -- The second half, where the older reader accepts with `rows`. The newer refuses exactly when some record that the older can enter has an odd type that
  -- the older lacks and a value that breaks the newer table's form; then with the refusal so given for the first such record, in number, place, type and
  -- what is missing, which lies at or inside it; otherwise it accepts with the same records.
  pub record NewerAnswers : Type 0 where
    pub refuses : Refuses (reading newer namespace stream room) ↔ Some (Breaks older newer) (enterable older namespace stream)
    pub first : Refuses (reading newer namespace stream room) → (e : Record) × First (Breaks older newer) (enterable older namespace stream) e ×
        (r : Refusal) × Gives newer e r × (reading newer namespace stream room ≡ Err r) × Inside e r
    pub otherwise : (Some (Breaks older newer) (enterable older namespace stream) → ⊥) →
        AcceptsSame older namespace rows (reading newer namespace stream room)

-- Both halves, of the answers of the two readers to one stream, each with an index of `room` numbers.
pub record Related (older newer : List ℕ) (namespace : ℕ) (stream : List ℕ) (room : ℕ) : Type 0 where
  pub newer_accepts : (rows : List Row) → reading newer namespace stream room ≡ Ok rows → OlderAnswers older newer namespace stream room rows
  pub older_accepts : (rows : List Row) → reading older namespace stream room ≡ Ok rows → NewerAnswers older newer namespace stream room rows

-- What a reader leaves: its answer, and its index.
pub record Reads (table : List ℕ) (namespace : ℕ) (stream : List ℕ) (answer : Answer Counts) (index left : List ℕ) : Type 0 where
  pub answers : answer ≡ mapped tally (reading table namespace stream (length index))
  pub fills : left ≡ filled (mapped numbers (reading table namespace stream (length index))) index
