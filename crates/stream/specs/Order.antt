-- What is said of the order of types in a stream, and in the streams inside it. Assumes nothing.
use Rattle.std.specs.Prelude.{◌≡◌, List, [], ◌∷◌, ℕ, ◌<◌, Ok}
use Rattle.frame.specs.Frame.{Frame, framing, value_in, behind}
use Rattle.table.specs.Table.{known, lookup}
use Rattle.stream.specs.Stream.{Row}

-- The types of rows rise: each is below the next one.
abbrev pub Rising : List Row → Type 0
Rising [] = Unit {0}
Rising (r ∷ []) = Unit {0}
Rising (r ∷ q ∷ rows) = (r.kind < q.kind) × Rising (q ∷ rows)

-- In some bytes lies a whole record with the frame x, `from` being the bytes from it on: the first one, or one behind the first. Types are not compared.
pub data Lies (x : Frame) (from : List ℕ) : List ℕ → Type 0 where
  first : framing 0 0 from ≡ Ok x → Lies x from from
  later : {y : Frame} {bs : List ℕ} → framing 0 0 bs ≡ Ok y → Lies x from (behind y bs) → Lies x from bs

-- A table enters a stream, of namespace m and bytes v, from a stream: from itself, or from one with a record that the table has in form 5 and from whose
-- value it enters it.
pub data Entered (table : List ℕ) (m : ℕ) (v : List ℕ) : (namespace : ℕ) → List ℕ → Type 0 where
  itself : Entered table m v m v
  within : {ns n : ℕ} {bs from : List ℕ} {x : Frame} → Lies x from bs → lookup table ns x.kind ≡ known 5 n → Entered table m v n (value_in x from) →
      Entered table m v ns bs
