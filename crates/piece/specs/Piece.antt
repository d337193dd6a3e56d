-- A record in any spelling: document 02 (x). Assumes nothing.
use Rattle.std.specs.Prelude.{Bool, true, false, ◌&&◌, List, [], ◌∷◌, ℕ, ◌+◌, leb, eqb, length, take, drop, Option, Some, None}
use Rattle.bigsize.specs.BigSize.{shortest, peeking}
use Rattle.bigsize.specs.declared.Number.{Number}
use Rattle.laws.specs.Test.{pick}
use Rattle.stream_writer.specs.Writer.{record_of}
use Rattle.piece.specs.declared.Piece.{Piece}

-- A record as it is read: its place, its type and its length in any spelling, each with the bytes that it takes, and its value, which is not judged.
pub record Record : Type 0 where
  pub place : ℕ
  pub type : Number
  pub size : Number
  pub value : List ℕ

abbrev pub kind_of : Record → ℕ
kind_of e = e.type.value

-- how many bytes it takes
abbrev pub span_of : Record → ℕ
span_of e = e.type.width + e.size.width + e.size.value

-- the record at the front of some bytes, which lie at a place
abbrev pub record_at : (place : ℕ) → List ℕ → Record
record_at place bs =
    let t = peeking bs in
    let n = peeking (drop t.width bs) in
    record { place = place; type = t; size = n; value = take n.value (drop (t.width + n.width) bs) }

-- whether it is whole: a number that is cut short takes no bytes
unfoldable pub is_whole : List ℕ → Bool
is_whole bs =
    let e = record_at 0 bs in
    leb 1 e.type.width && leb 1 e.size.width && leb (span_of e) (length bs)

-- 1 for a number that does not stand in its shortest form
abbrev pub longer : Number → ℕ
longer x = pick (eqb (length (shortest x.value)) x.width) 0 1

-- whether two values are the same, byte by byte
unfoldable pub same : List ℕ → List ℕ → Bool
same [] [] = true
same [] (y ∷ ys) = false
same (x ∷ xs) [] = false
same (x ∷ xs) (y ∷ ys) = eqb x y && same xs ys

-- What is told of a record: its type, how many bytes its type and its length take, its value's length, how many of the two are spelled long, and how many
-- bytes it takes in its shortest form.
abbrev pub piece_of : Record → Piece
piece_of e = record {
  kind = kind_of e;
  head = e.type.width + e.size.width;
  size = e.size.value;
  long = longer e.type + longer e.size;
  short = length (record_of (kind_of e) e.value);
}

-- the same of the record at the front of some bytes, where it is whole
unfoldable pub piece_in : List ℕ → Option Piece
piece_in bs = pick (is_whole bs) (Some (piece_of (record_at 0 bs))) None

-- its value, empty where it is not whole
abbrev pub value_in : List ℕ → List ℕ
value_in bs = pick (is_whole bs) (record_at 0 bs).value []
