-- A stream read into an index and written back from it: demand 2 of running code. Assumes nothing.
use Rattle.std.specs.Prelude.{List, [], ◌∷◌, ◌≡◌, ℕ, ◌*◌, length, Ok}
use Rattle.answer.specs.Answer.{Answer, mapped, fits, fitting, filled, ◌>>=◌}
use Rattle.stream.specs.Stream.{Row, reading}
use Rattle.stream_index.specs.Index.{numbers}
use Rattle.stream_writer.specs.Triples.{triples_of}

-- an index without its marks: type, start and length of each whole row
unfoldable pub without_marks : List ℕ → List ℕ
without_marks (kind ∷ start ∷ size ∷ mark ∷ rows) = kind ∷ start ∷ size ∷ without_marks rows
without_marks [] = []
without_marks (_ ∷ []) = []
without_marks (_ ∷ _ ∷ []) = []
without_marks (_ ∷ _ ∷ _ ∷ []) = []

-- The triples of an index, in a buffer of that length: 12 where they do not fit.
abbrev pub unmarking : List ℕ → (room : ℕ) → Answer (List ℕ)
unmarking index room = fitting length room (Ok (without_marks index))

-- The reading, with an index, a buffer for triples and an output of those lengths; 12 where the triples or the output do not fit.
unfoldable pub writing_back : List ℕ → (namespace : ℕ) → List ℕ → (index triples out : ℕ) → Answer (List Row)
writing_back table ns s index triples out = do
  rows ← reading table ns s index
  _ ← fits (3 * length rows) triples
  _ ← fits (length s) out
  Ok rows

-- What writing back does: its answer, and what the three lent buffers hold before and afterwards. The output's front is the stream itself.
abbrev pub WritesBack : List ℕ → (namespace : ℕ) → List ℕ → (answer : Answer ℕ) (index indexLeft triples triplesLeft out outLeft : List ℕ) → Type 0
WritesBack table ns s answer index indexLeft triples triplesLeft out outLeft =
    let back = writing_back table ns s (length index) (length triples) (length out) in
    (answer ≡ mapped (λ _. length s) back) × (indexLeft ≡ filled (mapped numbers back) index) × (triplesLeft ≡ filled (mapped triples_of back) triples)
    × (outLeft ≡ filled (mapped (λ _. s) back) out)
