-- One record's frame: document 01, "BigSize and records" and "The refusal list", 1 to 6; document 02, (v). Assumes nothing.
use Rattle.std.specs.Prelude.{Option, Some, None, List, ◌≡◌, ℕ, suc, ◌+◌, ◌-◌, leb, eqb, length, take, drop, Ok, Err}
use Rattle.bigsize.specs.BigSize.{reading}
use Rattle.laws.specs.Test.{pick}
use Rattle.answer.specs.Answer.{Answer, lacking, refuse, ensure, ◌>>=◌, retold}
use Rattle.answer.specs.declared.Refusal.{Refusal}
use Rattle.frame.specs.declared.Record.{Record}

-- a record's type, how many bytes its type and length take, and its value's length
pub record Frame : Type 0 where
  pub kind : ℕ
  pub head : ℕ
  pub size : ℕ

abbrev pub frame : (kind head size : ℕ) → Frame
frame k h n = record { kind = k; head = h; size = n }

-- what a BigSize's refusal is in a record: `long` where it is not shortest, else `cut`, also where there is no byte to read
abbrev pub fault : (long cut number : ℕ) → ℕ
fault long cut number = pick (eqb number 2) long cut

-- the whole refusal, at a place and of a type: it lacks what the BigSize lacks, which is one byte where it is not begun
abbrev pub faulty : (long cut place kind : ℕ) → Refusal → Refusal
faulty long cut place kind r = lacking (fault long cut r.number) place kind r.missing

-- Behind a type of so many bytes: 4 or 5 for its length, 6 for its value, from which the announced length less the bytes there is missing.
unfoldable pub sized : (kind width place : ℕ) → List ℕ → Answer Frame
sized kind width place bs = do
  n ← retold (faulty 5 4 place kind) (reading (drop width bs))
  _ ← ensure (leb (width + n.width + n.value) (length bs)) (lacking 6 place kind (n.value - length (drop (width + n.width) bs)))
  Ok (frame kind (width + n.width) n.value)

-- The record at the front of some bytes, which lie at a place: 1 or 2 for its type, 3 where that is below `low`, then what follows it.
unfoldable pub framing : (low place : ℕ) → List ℕ → Answer Frame
framing low place bs = do
  t ← retold (faulty 2 1 place 0) (reading bs)
  _ ← ensure (leb low t.value) (refuse 3 place t.value)
  sized t.value t.width place bs

-- the least type that may come next: above the last one, if there was one
abbrev pub lowest : (last : Option ℕ) → ℕ
lowest (Some last) = suc last
lowest None = 0

-- the value of the record at the front of some bytes, and what follows the record
abbrev pub value_in : Frame → List ℕ → List ℕ
value_in x bs = take x.size (drop x.head bs)

abbrev pub behind : Frame → List ℕ → List ℕ
behind x bs = drop (x.head + x.size) bs

-- The frame of a record that `read` answers, which tells besides how many bytes it takes in all.
abbrev pub frame_of : Record → Frame
frame_of r = frame r.kind r.head r.size

-- in all a record takes its type and length, and its value
abbrev pub Spans : Answer Record → Type 0
Spans (Ok r) = r.whole ≡ r.head + r.size
Spans (Err r) = Unit {0}
