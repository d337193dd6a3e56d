-- The stream writer: document 01, "The table of known types" and "The refusal list"; document 02, (v). Assumes nothing.
use Rattle.std.specs.Prelude.{List, [], ◌∷◌, ◌++◌, ℕ, suc, ◌+◌, ◌%◌, leb, eqb, length, take, drop, Ok}
use Rattle.bigsize.specs.BigSize.{shortest}
use Rattle.answer.specs.Answer.{Answer, lacking, refuse, bare, retold, ensure, fitting, ◌>>=◌}
use Rattle.stream.specs.Stream.{judged}
use Rattle.table.specs.Table.{checking, lookup}

-- the part of the source that a triple names
abbrev pub part : (start size : ℕ) → List ℕ → List ℕ
part start size source = take size (drop start source)

-- A record in its shortest form: its type, its length and its value.
unfoldable pub record_of : (kind : ℕ) → List ℕ → List ℕ
record_of kind v = shortest kind ++ (shortest (length v) ++ v)

-- One record, written at the front of an output of that length: 12 where it does not fit.
abbrev pub writing_one : (kind : ℕ) → List ℕ → (room : ℕ) → Answer (List ℕ)
writing_one kind v room = fitting length room (Ok (record_of kind v))

-- The records of triples (type, start, length), one behind the other.
unfoldable pub bytes_of : (triples source : List ℕ) → List ℕ
bytes_of (kind ∷ start ∷ size ∷ triples) source = record_of kind (part start size source) ++ bytes_of triples source
bytes_of [] source = []
bytes_of (_ ∷ []) source = []
bytes_of (_ ∷ _ ∷ []) source = []

-- One triple, row r of them. What no table is asked for: 16 outside the source, 3 where its type is below `low`.
unfoldable pub row_placed : List ℕ → (r low kind start size : ℕ) → Answer (Unit {0})
row_placed source r low kind start size = do
  _ ← ensure (leb (start + size) (length source)) (refuse 16 r kind)
  ensure (leb low kind) (refuse 3 r kind)

-- 7 and its value. The place is the row and the type the row's, also for a nested fault, which keeps how much is missing.
abbrev pub value_judged : List ℕ → (namespace r kind : ℕ) → (value : List ℕ) → Answer ℕ
value_judged table ns r kind v = retold (λ q. lacking q.number r kind q.missing) (judged table 3 (lookup table ns kind) 0 kind 0 v)

-- Both, in this order.
unfoldable pub row_judged : List ℕ → (namespace : ℕ) → List ℕ → (r low kind start size : ℕ) → Answer (Unit {0})
row_judged table ns source r low kind start size = do
  _ ← row_placed source r low kind start size
  _ ← value_judged table ns r kind (part start size source)
  Ok tt

-- Row by row.
unfoldable pub rows_judged : List ℕ → (namespace : ℕ) → List ℕ → (r low : ℕ) → List ℕ → Answer (Unit {0})
rows_judged table ns source r low (kind ∷ start ∷ size ∷ triples) = do
  _ ← row_judged table ns source r low kind start size
  rows_judged table ns source (suc r) (suc kind) triples
rows_judged table ns source r low [] = Ok tt
rows_judged table ns source r low (_ ∷ []) = Ok tt
rows_judged table ns source r low (_ ∷ _ ∷ []) = Ok tt

-- A whole stream: the table first, the namespace (61), 16 for triples not in threes, row by row, then 14 on the whole output.
unfoldable pub composing : List ℕ → (namespace : ℕ) → (triples source : List ℕ) → Answer (List ℕ)
composing table ns triples source = do
  _ ← checking table
  _ ← ensure (leb ns 63) (bare 61)
  _ ← ensure (eqb (length triples % 3) 0) (bare 16)
  _ ← rows_judged table ns source 0 0 triples
  _ ← ensure (leb (length (bytes_of triples source)) 65535) (bare 14)
  Ok (bytes_of triples source)

-- Written into an output of that length: 12 comes last.
abbrev pub writing : List ℕ → (namespace : ℕ) → (triples source : List ℕ) → (room : ℕ) → Answer (List ℕ)
writing table ns triples source room = fitting length room (composing table ns triples source)
