-- Messages: document 01, "Messages" and "The refusal list"; document 02, (iii). Assumes nothing.
use Rattle.std.specs.Prelude.{List, [], ◌∷◌, ℕ, ◌+◌, ◌-◌, ◌%◌, leb, eqb, length, take, drop, Ok, Err}
use Rattle.laws.specs.Digits.{from_bytes}
use Rattle.laws.specs.Test.{pick}
use Rattle.answer.specs.Answer.{Answer, refuse, bare, ensure, fitting, ◌>>=◌}
use Rattle.answer.specs.declared.Part.{Part}
use Rattle.stream.specs.Tally.{knowns}
use Rattle.stream.specs.Stream.{Row, judging_from}
use Rattle.stream_index.specs.Index.{numbers, find}
use Rattle.message.specs.Layout.{part, end, Layout, layout_of, extension_at}
use Rattle.message.specs.declared.Extension.{Extension}
use Rattle.message.specs.declared.Message.{Message}
use Rattle.message.specs.declared.layout.Payload.{Payload}
use Rattle.message.specs.declared.layout.Front.{Front}

-- The built-in table: init's 1, networks (items of 32 bytes), and 3, remote_addr (an address descriptor: document 02, (iii)), in namespace 0.
abbrev pub built_in : List ℕ
built_in = 0 ∷ 1 ∷ 3 ∷ 32 ∷ 0 ∷ 3 ∷ 6 ∷ 0 ∷ []

-- the number of two bytes at a place
abbrev pub number_at : (at : ℕ) → List ℕ → ℕ
number_at at m = from_bytes (take 2 (drop at m))

-- So many bytes at a place: 20 where they are cut short.
unfoldable pub fixed : (kind at size : ℕ) → List ℕ → Answer Part
fixed kind at n m = do
  _ ← ensure (leb (at + n) (length m)) (refuse 20 0 kind)
  Ok (part at n)

-- A length of two bytes at a place and as many bytes as it says.
unfoldable pub sized : (kind at : ℕ) → List ℕ → Answer Part
sized kind at m = do
  _ ← fixed kind at 2 m
  fixed kind (at + 2) (number_at at m) m

-- What stands between the two type bytes and the last part.
abbrev pub front_at : Front → (kind : ℕ) → List ℕ → Answer Part
front_at Front.Sized kind m = sized kind 2 m
front_at Front.Channel kind m = fixed kind 2 32 m
front_at Front.Number kind m = fixed kind 2 2 m
front_at Front.Empty kind m = fixed kind 2 0 m

-- What an accepted message says: it is passed over, or its payload and its extension's rows.
pub data Outcome : Type 0 where
  passed_over : (kind : ℕ) → Outcome
  told : Payload → List Row → Outcome

-- By its type. One of the five: its parts, then the extension, which is always judged; any other: passed over where it is odd, refused where it is even.
unfoldable pub by_type : (kind : ℕ) → Answer Layout → List ℕ → Answer Outcome
by_type kind (Ok l) m = do
  first ← front_at l.front kind m
  last ← sized kind (end first) m
  rows ← judging_from (end last) built_in l.namespace m
  Ok (told (l.payload first last (number_at first.start m)) rows)
by_type kind (Err r) m = do
  _ ← ensure (eqb (kind % 2) 1) r
  Ok (passed_over kind)

-- A message: 21, 20 for its type, then by its type.
unfoldable pub judging : List ℕ → Answer Outcome
judging m = do
  _ ← ensure (leb (length m) 65535) (bare 21)
  _ ← ensure (leb 2 (length m)) (bare 20)
  by_type (number_at 0 m) (layout_of (number_at 0 m)) m

-- the index: the rows of the extension; none of a message that is passed over
abbrev pub index_of : Outcome → List ℕ
index_of (passed_over kind) = []
index_of (told p rows) = numbers rows

-- Where the address of an init lies, the value of its record 3: 15 without one, and in every other message.
unfoldable pub address_in : Outcome → Answer Part
address_in (told p rows) = pick (eqb p.kind 16) (find 3 rows) (Err (refuse 15 0 3))
address_in (passed_over kind) = Err (refuse 15 0 3)

abbrev pub addressing : List ℕ → Answer Part
addressing m = judging m >>= address_in

-- A message, its extension's rows read into an index of that length.
abbrev pub reading : List ℕ → (room : ℕ) → Answer Outcome
reading m room = fitting (λ o. length (index_of o)) room (judging m)

-- an extension: where it lies, and its counts
abbrev pub extension : (start size : ℕ) → List Row → Extension
extension start size rows = record { start = start; size = size; records = length rows; known = knowns rows }

-- What the reader answers, in full.
abbrev pub answer_of : List ℕ → Answer Outcome → Answer Message
answer_of m (Ok (passed_over kind)) = Ok (Message.PassedOver kind)
answer_of m (Ok (told p rows)) = Ok (Message.Accepted p (extension (extension_at p) (length m - extension_at p) rows))
answer_of m (Err r) = Err r
