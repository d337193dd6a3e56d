-- The recording book: document 01, "The recording book" and "The refusal list", 70 to 72. Assumes nothing.
use Rattle.std.specs.Prelude.{List, [], ◌∷◌, ℕ, zero, suc, ◌+◌, ◌*◌, ◌/◌, leb, eqb, length, take, drop, Ok}
use Rattle.laws.specs.Digits.{from_bytes}
use Rattle.answer.specs.Answer.{Answer, bare, ensure, ◌>>=◌}
use Rattle.table.specs.Table.{checking}
use Rattle.book.specs.declared.Contents.{Contents}
use Rattle.book.specs.declared.Item.{Item}
use Rattle.book.specs.declared.Run.{Run}
use Rattle.book.specs.declared.Section.{Section}

-- The big-endian number of two bytes at a place, a count or a length: 70 where they are cut short.
unfoldable pub number_at : (at : ℕ) → List ℕ → Answer ℕ
number_at at book = do
  _ ← ensure (leb (at + 2) (length book)) (bare 70)
  Ok (from_bytes (take 2 (drop at book)))

-- Rows: four 8-byte numbers each, behind their count. The table is all their numbers.
unfoldable pub numbers : (count : ℕ) → List ℕ → List ℕ
numbers zero s = []
numbers (suc n) s = from_bytes (take 8 s) ∷ numbers n (drop 8 s)

unfoldable pub table_in : List ℕ → Answer (List ℕ)
table_in book = do
  rows ← number_at 0 book
  _ ← ensure (leb (2 + 8 * (4 * rows)) (length book)) (bare 70)
  Ok (numbers (4 * rows) (drop 2 book))

-- how many bytes an item has before its length: a stream its namespace, a message and an invoice none
abbrev pub lead : Section → ℕ
lead Section.Streams = 1
lead Section.Messages = 0
lead Section.Invoices = 0

-- An item: the namespace, 0 without one, and its part of the book.
abbrev pub item : (namespace start size : ℕ) → Item
item namespace start size = record { namespace = namespace; start = start; size = size }

abbrev pub end : Item → ℕ
end e = e.start + e.size

abbrev pub part_of : Item → List ℕ → List ℕ
part_of e book = take e.size (drop e.start book)

-- The item at a place: what stands before its length, a two-byte length, and as many bytes as it says.
unfoldable pub item_at : Section → (at : ℕ) → List ℕ → Answer Item
item_at section at book = do
  size ← number_at (at + lead section) book
  _ ← ensure (leb (at + lead section + 2 + size) (length book)) (bare 70)
  Ok (item (from_bytes (take (lead section) (drop at book))) (at + lead section + 2) size)

-- So many items, one behind the other.
unfoldable pub items_at : Section → (count at : ℕ) → List ℕ → Answer (List Item)
items_at section zero at book = Ok []
items_at section (suc n) at book = do
  e ← item_at section at book
  rest ← items_at section n (end e) book
  Ok (e ∷ rest)

-- where items end that begin at a place
abbrev pub end_from : (at : ℕ) → List Item → ℕ
end_from at [] = at
end_from at (e ∷ es) = end_from (end e) es

-- A section behind its two-byte count: the place of its first item, and its items.
pub record Listed : Type 0 where
  pub begin : ℕ
  pub items : List Item

abbrev pub end_of : Listed → ℕ
end_of l = end_from l.begin l.items

unfoldable pub section_at : Section → (at : ℕ) → List ℕ → Answer Listed
section_at section at book = do
  count ← number_at at book
  items ← items_at section count (at + 2) book
  Ok (record { begin = at + 2; items = items })

-- A whole book: rows, streams, messages, invoices. 72, then 70 wherever it is cut short, then 71.
pub record Parts : Type 0 where
  pub table : List ℕ
  pub streams : Listed
  pub messages : Listed
  pub invoices : Listed

unfoldable pub behind_table : (table : List ℕ) → List ℕ → Answer Parts
behind_table table book = do
  streams ← section_at Section.Streams (2 + 8 * length table) book
  messages ← section_at Section.Messages (end_of streams) book
  invoices ← section_at Section.Invoices (end_of messages) book
  _ ← ensure (eqb (end_of invoices) (length book)) (bare 71)
  Ok (record { table = table; streams = streams; messages = messages; invoices = invoices })

unfoldable pub parting : List ℕ → Answer Parts
parting book = do
  _ ← ensure (leb (length book) 65535) (bare 72)
  table ← table_in book
  behind_table table book

-- Then its table, 60 to 63.
unfoldable pub judging : List ℕ → Answer Parts
judging book = do
  parts ← parting book
  _ ← checking parts.table
  Ok parts

-- What the reader answers, in full: how many rows and items there are, and the place of the first item of each section.
abbrev pub run_of : Listed → Run
run_of l = record { count = length l.items; begin = l.begin }

abbrev pub contents_of : Parts → Contents
contents_of p = record { rows = length p.table / 4; streams = run_of p.streams; messages = run_of p.messages; invoices = run_of p.invoices }
