-- The mender of a stream that the old gateway wrote: document 02 (x). Assumes nothing.
use Rattle.std.specs.Prelude.{Bool, true, ◌&&◌, ◌||◌, not, List, [], ◌∷◌, ◌++◌, map, ◌⊎◌, ◌≡◌, ℕ, zero, suc, ◌+◌, ◌-◌, ◌≤◌, leb, eqb, length, drop, Ok}
use Rattle.answer.specs.Answer.{Answer, refuse, bare, ensure, fitting, ◌>>=◌}
use Rattle.frame.specs.Frame.{Frame, framing, behind}
use Rattle.laws.specs.Test.{pick}
use Rattle.piece.specs.Piece.{Record, kind_of, span_of, record_at, is_whole, longer, same}
use Rattle.sorting.specs.Sorting.{sorted}
use Rattle.stream_writer.specs.Writer.{record_of}
use Rattle.mending.specs.declared.Changes.{Changes}
use Rattle.mending.specs.declared.Mending.{Mending}

-- "Read a stream with those three faults allowed", out of order, doubled, and with long spellings. "A cut at the end keeps the records before it": reading
-- ends where a record is not whole. A record takes a byte or more, so that as many as there are bytes are all.
unfoldable pub reading : (count place : ℕ) → List ℕ → List Record
reading zero place bs = []
reading (suc c) place bs =
    pick (is_whole bs) (record_at place bs ∷ reading c (place + span_of (record_at place bs)) (drop (span_of (record_at place bs)) bs)) []

abbrev pub read_in : List ℕ → List Record
read_in s = reading (length s) 0 s

-- "The same type with the same value bytes twice becomes one; the first stays."
unfoldable pub without : (kind : ℕ) → List Record → List Record
without kind [] = []
without kind (e ∷ es) = pick (eqb (kind_of e) kind) (without kind es) (e ∷ without kind es)

unfoldable pub kept : List Record → List Record
kept [] = []
kept (e ∷ es) = e ∷ without (kind_of e) (kept es)

-- "Write the records in rising order, each once, spelled shortest."
abbrev pub ordered : List Record → List Record
ordered es = sorted kind_of (kept es)

unfoldable pub spelled : List Record → List ℕ
spelled [] = []
spelled (e ∷ es) = record_of (kind_of e) e.value ++ spelled es

-- "Records moved (place among the kept ones differs between old and new order)": among so many in two orders, those whose numbers differ.
unfoldable pub differing : (old new : List ℕ) → ℕ
differing [] new = 0
differing (a ∷ old) [] = 0
differing (a ∷ old) (b ∷ new) = pick (eqb a b) 0 1 + differing old new

abbrev pub places_of : List Record → List ℕ
places_of = map (λ e. e.place)

abbrev pub moved : List Record → ℕ
moved es = differing (places_of (kept es)) (places_of (ordered es))

-- "Copies dropped."
abbrev pub dropped : List Record → ℕ
dropped es = length es - length (kept es)

-- "Types and lengths respelled in the records kept": 1 for each that does not stand in its shortest form.
unfoldable pub respelled : List Record → ℕ
respelled [] = 0
respelled (e ∷ es) = longer e.type + longer e.size + respelled es

-- "Bytes cut off": all behind the last whole record.
unfoldable pub spans : List Record → ℕ
spans [] = 0
spans (e ∷ es) = span_of e + spans es

-- "Say what was changed, in four counts."
abbrev pub changes_in : List ℕ → Changes
changes_in s = let es = read_in s in
    record { moved = moved es; dropped = dropped es; respelled = respelled (kept es); cut = length s - spans es }

pub record Mended : Type 0 where
  pub bytes : List ℕ
  pub changes : Changes

abbrev pub mended : List ℕ → Mended
mended s = record { bytes = spelled (ordered (read_in s)); changes = changes_in s }

-- "One type with two different values (we never choose), at the place of the first record that disagrees with an earlier one, with its type": 80.
unfoldable pub agrees : Record → (earlier : List Record) → Bool
agrees e [] = true
agrees e (a ∷ more) = (not (eqb (kind_of a) (kind_of e)) || same a.value e.value) && agrees e more

unfoldable pub agreed : (earlier : List Record) → List Record → Answer (Unit {0})
agreed earlier [] = Ok tt
agreed earlier (e ∷ es) = do
  _ ← ensure (agrees e earlier) (refuse 80 e.place (kind_of e))
  agreed (e ∷ earlier) es

-- "Refusals: 14 first; then 80; then 12."
unfoldable pub making : List ℕ → Answer Mended
making s = do
  _ ← ensure (leb (length s) 65535) (bare 14)
  _ ← agreed [] (read_in s)
  Ok (mended s)

abbrev pub mending : List ℕ → (room : ℕ) → Answer Mended
mending s room = fitting (λ m. length m.bytes) room (making s)

-- What an answer tells: how many bytes are written, and the changes.
abbrev pub told_of : Mended → Mending
told_of m = record { size = length m.bytes; changes = m.changes }

abbrev pub bytes_of : Mended → List ℕ
bytes_of m = m.bytes

-- What the theorems speak of.

-- A stream right in frame, from a least type on: record by record, the reader's rules 1 to 6 hold.
pub data Right : (low : ℕ) → List ℕ → Type 0 where
  right_end : {low : ℕ} → Right low []
  right_next : {low : ℕ} {bs : List ℕ} (x : Frame) → framing low 0 bs ≡ Ok x → Right (suc x.kind) (behind x bs) → Right low bs

-- The types of some records rise, none twice, and are `low` or more.
unfoldable pub Strict : (low : ℕ) → List Record → Type 0
Strict low [] = Unit {0}
Strict low (e ∷ es) = (low ≤ kind_of e) × Strict (suc (kind_of e)) es

-- A record of that type and value is among some records.
unfoldable pub Has : (kind : ℕ) (value : List ℕ) → List Record → Type 0
Has kind value [] = ⊥
Has kind value (e ∷ es) = ((kind_of e ≡ kind) × (e.value ≡ value)) ⊎ Has kind value es

-- A record among some contradicts another one: its type is the same, its value is not.
unfoldable pub Contradicted : Record → (earlier : List Record) → Type 0
Contradicted e [] = ⊥
Contradicted e (a ∷ more) = ((kind_of a ≡ kind_of e) × (a.value ≡ e.value → ⊥)) ⊎ Contradicted e more

-- The first of some records that an earlier one contradicts stands at that place and has that type.
unfoldable pub FirstContradicted : (place kind : ℕ) → (earlier : List Record) → List Record → Type 0
FirstContradicted place kind earlier [] = ⊥
FirstContradicted place kind earlier (e ∷ es) =
    (Contradicted e earlier × ((e.place ≡ place) × (kind_of e ≡ kind))) ⊎ ((Contradicted e earlier → ⊥) × FirstContradicted place kind (e ∷ earlier) es)

-- The same bytes, and four zeros.
abbrev pub unchanged : List ℕ → Mended
unchanged s = record { bytes = s; changes = record { moved = 0; dropped = 0; respelled = 0; cut = 0 } }
