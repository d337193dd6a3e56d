-- What the writer's triples and the reader's index have to do with each other. Assumes nothing.
use Rattle.std.specs.Prelude.{List, [], ◌∷◌, ◌⊎◌, ◌≡◌, ℕ, suc, ◌*◌, ◌≤◌, ◌<◌, length, take}
use Rattle.answer.specs.declared.Refusal.{Refusal}
use Rattle.stream.specs.Stream.{Row, mark_of}
use Rattle.table.specs.Table.{lookup}
use Rattle.stream_writer.specs.Writer.{part, bytes_of}

-- The triples of an index: type, start and length of each row.
unfoldable pub triples_of : List Row → List ℕ
triples_of [] = []
triples_of (r ∷ rows) = r.kind ∷ r.start ∷ r.size ∷ triples_of rows

-- A triple and a row: the same type, length and value bytes, and the mark that the table gives.
pub record SameRecord (table : List ℕ) (namespace : ℕ) (kind start size : ℕ) (source : List ℕ) (r : Row) (bytes : List ℕ) : Type 0 where
  pub same_kind : r.kind ≡ kind
  pub same_size : r.size ≡ size
  pub same_value : part r.start r.size bytes ≡ part start size source
  pub marked : r.mark ≡ mark_of (lookup table namespace kind) (part start size source)

-- The triples of a source and the rows of some bytes: the same records, as many and in the same order.
unfoldable pub SameContent : (table : List ℕ) (namespace : ℕ) (triples source : List ℕ) (rows : List Row) (bytes : List ℕ) → Type 0
SameContent table ns (kind ∷ start ∷ size ∷ triples) source (r ∷ rows) bytes =
    SameRecord table ns kind start size source r bytes × SameContent table ns triples source rows bytes
SameContent table ns (kind ∷ start ∷ size ∷ triples) source [] bytes = ⊥
SameContent table ns [] source [] bytes = Unit {0}
SameContent table ns [] source (r ∷ rows) bytes = ⊥
SameContent table ns (_ ∷ []) source rows bytes = ⊥
SameContent table ns (_ ∷ _ ∷ []) source rows bytes = ⊥

-- the refusal of triples that are not in threes or do not lie in the source
abbrev pub Sixteen : Refusal → Type 0
Sixteen q = q.number ≡ 16

-- where the record of row r begins in the bytes that the triples spell
abbrev pub place_of : (triples source : List ℕ) (r : ℕ) → ℕ
place_of triples source r = length (bytes_of (take (3 * r) triples) source)

-- One fault in a record that lies between two places, as the writer tells it, q, and as the reader does, p: the same number, as much missing, and the same
-- type where the reader's refusal is at the record itself and not inside its value.
pub record SameFault (from to : ℕ) (q p : Refusal) : Type 0 where
  pub number : q.number ≡ p.number
  pub missing : q.missing ≡ p.missing
  pub after : from ≤ p.place
  pub before : p.place < to
  pub kind : p.place ≡ from → q.kind ≡ p.kind

-- The refusals of the writer and of the reader: one of the table or the namespace, or one fault in the record of the row that the writer names.
abbrev pub SameRefusal : (triples source : List ℕ) → Refusal → Refusal → Type 0
SameRefusal triples source q p = (q ≡ p) ⊎ SameFault (place_of triples source q.place) (place_of triples source (suc q.place)) q p
