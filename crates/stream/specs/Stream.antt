-- Record streams: document 01, "BigSize and records", "The table of known types" and "The refusal list". One walk over the bytes tells what is met there;
-- the answer, the index, the counts and the records that a table can enter are read off it. Assumes nothing.
use Rattle.std.specs.Prelude.{List, [], ◌∷◌, ◌++◌, ℕ, zero, suc, ◌+◌, ◌*◌, ◌%◌, ltb, leb, eqb, length, drop, Ok, Err, Option, None, Some}
use Rattle.answer.specs.Answer.{Answer, refuse, bare, mapped, ensure, fitting, ◌>>=◌}
use Rattle.answer.specs.declared.Refusal.{Refusal}
use Rattle.form.specs.Form.{plain}
use Rattle.frame.specs.Frame.{Frame, framing, value_in, behind}
use Rattle.laws.specs.Test.{pick}
use Rattle.table.specs.Table.{checking, lookup}
use Rattle.table.specs.declared.Known.{Known}

-- A record where it stands: the namespace of its stream, how many levels may still be entered from there, its place and type, its value and where that
-- starts. Nothing that a table knows is in it.
pub record Record : Type 0 where
  pub namespace : ℕ
  pub levels : ℕ
  pub place : ℕ
  pub kind : ℕ
  pub start : ℕ
  pub value : List ℕ

-- the record at the front of some bytes, by its frame
abbrev pub record_at : (namespace levels place : ℕ) → List ℕ → Frame → Record
record_at ns l place bs x = record { namespace = ns; levels = l; place = place; kind = x.kind; start = place + x.head; value = value_in x bs }

-- what a table knows of a record's type, in the namespace of the stream where it stands
abbrev pub knows : List ℕ → Record → Option Known
knows table r = lookup table r.namespace r.kind

-- What is met: a record, or where one should be the fault of its frame, 1 to 6, with which that stream ends.
pub data Item : Type 0 where
  met : Record → Item
  broken : Refusal → Item

-- how a value, which starts at `start`, is entered as a stream in a namespace
abbrev pub Enter : Type 0
Enter = (namespace start : ℕ) → List ℕ → List Item

-- what is inside a value, by what a table knows of its record's type: only form 5 is entered
unfoldable pub inside : Enter → Option Known → (start : ℕ) → List ℕ → List Item
inside enter None start v = []
inside enter (Some k) start v = pick (eqb k.form 5) (enter k.parameter start v) []

unfoldable pub where_framed : Answer Frame → (Frame → List Item) → List Item
where_framed (Ok x) f = f x
where_framed (Err q) f = broken q ∷ []

-- The walk, over the bytes of a stream at a place, whose types are `low` and up: each record, then what is inside it, then what is behind it. Each takes a
-- byte or more, so that as many as there are bytes are all; the count makes the definition end, and `walk_next` is the equation without it.
unfoldable pub walk : Enter → List ℕ → (namespace levels count place low : ℕ) → List ℕ → List Item
walk enter table ns l zero place low bs = []
walk enter table ns l (suc c) place low [] = []
walk enter table ns l (suc c) place low (b ∷ bs) =
    where_framed (framing low place (b ∷ bs)) λ x.
    met (record_at ns l place (b ∷ bs) x) ∷
    (inside enter (lookup table ns x.kind) (place + x.head) (value_in x (b ∷ bs)) ++
    walk enter table ns l c (place + (x.head + x.size)) (suc x.kind) (behind x (b ∷ bs)))

unfoldable pub entering : List ℕ → (levels : ℕ) → Enter
entering table zero ns start v = []
entering table (suc l) ns start v = walk (entering table l) table ns l (length v) start 0 v

-- all that a table meets in a stream where so many levels may still be entered
abbrev pub met_in : List ℕ → (namespace levels place low : ℕ) → List ℕ → List Item
met_in table ns l place low bs = walk (entering table l) table ns l (length bs) place low bs

-- The records among what is met: all that the table can enter, in byte order.
unfoldable pub records_of : List Item → List Record
records_of [] = []
records_of (met r ∷ items) = r ∷ records_of items
records_of (broken q ∷ items) = records_of items

-- A record's own fault, by what is known of its type: 7; 11 before its value is entered; 8 to 10 by its form.
unfoldable pub own : Option Known → (levels place kind : ℕ) → List ℕ → Answer (Unit {0})
own None l place kind v = ensure (eqb (kind % 2) 1) (refuse 7 place kind)
own (Some k) l place kind v = pick (eqb k.form 5) (ensure (ltb 0 l) (refuse 11 place kind)) (plain k.form k.parameter place kind v)

-- The answer: the first fault in byte order, else all the records met.
unfoldable pub answering : List ℕ → List Item → Answer (List Record)
answering table [] = Ok []
answering table (broken q ∷ items) = Err q
answering table (met r ∷ items) = do
  _ ← own (knows table r) r.levels r.place r.kind r.value
  rest ← answering table items
  Ok (r ∷ rest)

-- The known mark of a record that is accepted, by what the table knows of its type and by its value: 1, or 0 for a type that the table does not know.
abbrev pub mark_of : Option Known → List ℕ → ℕ
mark_of None v = 0
mark_of (Some k) v = 1

-- A record with what is inside it, by what is known of its type, where it lies and at its level: its known mark.
unfoldable pub judged : List ℕ → (levels : ℕ) → Option Known → (place kind start : ℕ) → List ℕ → Answer ℕ
judged table l k place kind start v = do
  _ ← own k l place kind v
  _ ← answering table (inside (entering table l) k start v)
  Ok (mark_of k v)

-- A row of the index: the record's type, its value's start and length, and the known mark.
pub record Row : Type 0 where
  pub kind : ℕ
  pub start : ℕ
  pub size : ℕ
  pub mark : ℕ

abbrev pub row : (kind start size mark : ℕ) → Row
row k s n m = record { kind = k; start = s; size = n; mark = m }

-- so many numbers
abbrev pub per_row : ℕ
per_row = 4

abbrev pub row_of : List ℕ → Record → Row
row_of table r = row r.kind r.start (length r.value) (mark_of (knows table r) r.value)

-- the rows of a stream's own records, from which so many levels may still be entered; those inside them have none
unfoldable pub rows_at : List ℕ → (levels : ℕ) → List Record → List Row
rows_at table l [] = []
rows_at table l (r ∷ rs) = pick (eqb r.levels l) (row_of table r ∷ rows_at table l rs) (rows_at table l rs)

unfoldable pub rows_in : List ℕ → (namespace levels place low : ℕ) → List ℕ → Answer (List Row)
rows_in table ns l place low bs = mapped (rows_at table l) (answering table (met_in table ns l place low bs))

-- The outer stream is level 1, and three more may be entered. It lies in the lent bytes from a place on, as a message's extension does; places and
-- starts count from their first byte.
unfoldable pub outer_from : (at : ℕ) → List ℕ → (namespace : ℕ) → List ℕ → Answer (List Row)
outer_from at table ns s = rows_in table ns 3 at 0 (drop at s)

-- A whole stream: the table first, the namespace (61), 14, then record by record.
unfoldable pub judging_from : (at : ℕ) → List ℕ → (namespace : ℕ) → List ℕ → Answer (List Row)
judging_from at table ns s = do
  _ ← checking table
  _ ← ensure (leb ns 63) (bare 61)
  _ ← ensure (leb (length (drop at s)) 65535) (bare 14)
  outer_from at table ns s

-- The stream that the value of an outer record is, level 2: the table first, then record by record, with places from its own first byte.
unfoldable pub judging_inside : List ℕ → (namespace : ℕ) → List ℕ → Answer (List Row)
judging_inside table ns v = do
  _ ← checking table
  rows_in table ns 2 0 0 v

-- Read into an index of that length: 12 comes last.
abbrev pub reading_from : (at : ℕ) → List ℕ → (namespace : ℕ) → List ℕ → (room : ℕ) → Answer (List Row)
reading_from at table ns s room = fitting (λ rows. per_row * length rows) room (judging_from at table ns s)

-- A stream alone lies in its bytes from the first on.
abbrev pub outer : List ℕ → (namespace : ℕ) → List ℕ → Answer (List Row)
outer = outer_from 0

abbrev pub judging : List ℕ → (namespace : ℕ) → List ℕ → Answer (List Row)
judging = judging_from 0

abbrev pub reading : List ℕ → (namespace : ℕ) → List ℕ → (room : ℕ) → Answer (List Row)
reading = reading_from 0
