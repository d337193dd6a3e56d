-- A message read into an index and written back from it: demand 2 of running code. Assumes nothing.
use Rattle.std.specs.Prelude.{List, ◌≡◌, ℕ, ◌*◌, length, Ok, Err}
use Rattle.message.specs.Message.{Outcome, passed_over, told, reading}
use Rattle.answer.specs.Answer.{Answer, refuse, mapped, fits, filled, ◌>>=◌}
use Rattle.stream.specs.Stream.{Row}
use Rattle.stream_index.specs.Index.{numbers}
use Rattle.stream_writer.specs.Triples.{triples_of}

-- the rows of an extension; a message that is passed over is 22, since the writer knows only the five types
abbrev pub rows_of : Outcome → Answer (List Row)
rows_of (passed_over kind) = Err (refuse 22 0 kind)
rows_of (told p rows) = Ok rows

-- The reading, with an index, a buffer for triples and an output of those lengths; 12 where the triples or the output do not fit.
unfoldable pub writing_back : List ℕ → (index triples out : ℕ) → Answer (List Row)
writing_back m index triples out = do
  answer ← reading m index
  rows ← rows_of answer
  _ ← fits (3 * length rows) triples
  _ ← fits (length m) out
  Ok rows

-- What writing back does: its answer, and what the three lent buffers hold before and afterwards. The output's front is the message itself.
abbrev pub WritesBack : List ℕ → (answer : Answer ℕ) (index indexLeft triples triplesLeft out outLeft : List ℕ) → Type 0
WritesBack m answer index indexLeft triples triplesLeft out outLeft =
    let back = writing_back m (length index) (length triples) (length out) in
    (answer ≡ mapped (λ _. length m) back) × (indexLeft ≡ filled (mapped numbers back) index) × (triplesLeft ≡ filled (mapped triples_of back) triples)
    × (outLeft ≡ filled (mapped (λ _. m) back) out)
