-- A stream read by what the search finds of each record's type, from the row behind the last one found: document 02, (ii). Total for any run of numbers as a
-- table; by one that is accepted it is what `Stream` says (`sought_judged` in `proofs/Sought.antt`). Assumes nothing.
use Rattle.std.specs.Prelude.{◌≡◌, List, ℕ, zero, suc, ◌+◌, ◌≤◌, ◌<◌, length, drop, Ok, Err, Option}
use Rattle.answer.specs.Answer.{Answer, bare, mapped}
use Rattle.answer.specs.declared.Refusal.{Refusal}
use Rattle.frame.specs.Frame.{Frame, framing, value_in, behind}
use Rattle.table.specs.Search.{searching}
use Rattle.table.specs.Table.{known}
use Rattle.table.specs.declared.Known.{Known}
use Rattle.stream.specs.Stream.{own, mark_of}
use Rattle.stream.specs.Tally.{counted, joined}
use Rattle.stream.specs.declared.Counts.{Counts}

-- how a value, which starts at `start`, is read as a stream in a namespace
abbrev pub Reads : Type 1
Reads = (namespace start : ℕ) → List ℕ → Answer Counts → Type 0

-- What a value is answered, by what is found of its type: its own fault, or what is inside it.
pub data Valued (inner : Reads) (k : Option Known) (l place kind start : ℕ) (v : List ℕ) : Answer (Unit {0}) → Type 0 where
  faulty : {q : Refusal} → own k l place kind v ≡ Err q → Valued inner k l place kind start v (Err q)
  flat : own k l place kind v ≡ Ok tt → ((n : ℕ) → k ≡ known 5 n → ⊥) → Valued inner k l place kind start v (Ok tt)
  nested : (n : ℕ) {t : Answer Counts} → own k l place kind v ≡ Ok tt → k ≡ known 5 n → inner n start v t → Valued inner k l place kind start v (mapped (λ _. tt) t)

-- What the bytes at a place are read as, whose types are `low` and up and are searched for from a row on: no bytes, a faulty frame, a value that is refused, or
-- a record and what is behind it.
pub data Sought (inner : Reads) (table : List ℕ) (ns l : ℕ) : (place low row : ℕ) → List ℕ → Answer Counts → Type 0 where
  ends : {place low row : ℕ} {bs : List ℕ} → length bs ≡ 0 → Sought inner table ns l place low row bs (Ok (record { records = 0; known = 0 }))
  unframed : {place low row : ℕ} {bs : List ℕ} {q : Refusal} → 0 < length bs → framing low place bs ≡ Err q → Sought inner table ns l place low row bs (Err q)
  stops : {place low row : ℕ} {bs : List ℕ} {q : Refusal} (x : Frame) → 0 < length bs → framing low place bs ≡ Ok x →
      Valued inner (searching table row ns x.kind).found l place x.kind (place + x.head) (value_in x bs) (Err q) →
      Sought inner table ns l place low row bs (Err q)
  goes : {place low row : ℕ} {bs : List ℕ} {a : Answer Counts} (x : Frame) → 0 < length bs → framing low place bs ≡ Ok x →
      Valued inner (searching table row ns x.kind).found l place x.kind (place + x.head) (value_in x bs) (Ok tt) →
      Sought inner table ns l (place + (x.head + x.size)) (suc x.kind) (searching table row ns x.kind).next (behind x bs) a →
      Sought inner table ns l place low row bs (joined 1 (counted (mark_of (searching table row ns x.kind).found (value_in x bs))) a)

-- so many levels may still be entered
unfoldable pub sought_in : List ℕ → (levels : ℕ) → Reads
sought_in table zero ns start v a = ⊥
sought_in table (suc l) ns start v a = Sought (sought_in table l) table ns l start 0 0 v a

abbrev pub SoughtAt : List ℕ → (namespace levels place : ℕ) → List ℕ → Answer Counts → Type 0
SoughtAt table ns l place bs a = Sought (sought_in table l) table ns l place 0 0 bs a

-- A whole stream, which lies in the lent bytes from a place on: the namespace (61), 14, then record by record.
pub data SoughtFrom (at : ℕ) (table : List ℕ) (ns : ℕ) (s : List ℕ) : Answer Counts → Type 0 where
  outside : 63 < ns → SoughtFrom at table ns s (Err (bare 61))
  long : ns ≤ 63 → 65535 < length (drop at s) → SoughtFrom at table ns s (Err (bare 14))
  read : {a : Answer Counts} → ns ≤ 63 → length (drop at s) ≤ 65535 → SoughtAt table ns 3 at (drop at s) a → SoughtFrom at table ns s a
