-- A recording book with its streams mended, each by the mender of document 02 (x). Assumes nothing.
use Rattle.std.specs.Prelude.{List, [], ◌∷◌, ◌++◌, map, ◌≡◌, ℕ, length, take, drop, Ok, Err}
use Rattle.laws.specs.Digits.{to_bytes}
use Rattle.answer.specs.Answer.{Answer, mapped, fitting}
use Rattle.book.specs.Book.{Parts, part_of, end_of, judging}
use Rattle.book.specs.declared.Item.{Item}
use Rattle.mending.specs.Mender.{Mended, making}

-- What a stream becomes: its mended bytes, or as it was where the mender refuses it.
abbrev pub or_as_it_was : List ℕ → Answer Mended → List ℕ
or_as_it_was s (Ok m) = m.bytes
or_as_it_was s (Err r) = s

unfoldable pub becoming : List ℕ → List ℕ
becoming s = or_as_it_was s (making s)

-- A stream in a book: its namespace, a two-byte length and as many bytes.
abbrev pub stream_of : (namespace : ℕ) → List ℕ → List ℕ
stream_of namespace s = namespace ∷ (to_bytes 2 (length s) ++ s)

-- The streams of a book as they become, one behind the other.
unfoldable pub new_streams : (book : List ℕ) → List Item → List ℕ
new_streams book [] = []
new_streams book (e ∷ es) = stream_of e.namespace (becoming (part_of e book)) ++ new_streams book es

-- The new book: the old one up to its first stream, its streams as they become, and the old one from the count of its messages on.
abbrev pub new_book : (book : List ℕ) → Parts → List ℕ
new_book book p = take p.streams.begin book ++ (new_streams book p.streams.items ++ drop (end_of p.streams) book)

-- The book's own refusals, then 12.
abbrev pub mending_book : List ℕ → (room : ℕ) → Answer (List ℕ)
mending_book book room = fitting length room (mapped (new_book book) (judging book))

-- What the theorem speaks of.

-- What a section of a book holds: each item's namespace and bytes.
pub record Heard : Type 0 where
  pub namespace : ℕ
  pub bytes : List ℕ

abbrev pub heard : (book : List ℕ) → List Item → List Heard
heard book = map (λ e. record { namespace = e.namespace; bytes = part_of e book })

-- A stream as it becomes, in its namespace.
abbrev pub become : Heard → Heard
become h = record { namespace = h.namespace; bytes = becoming h.bytes }

-- The new book has the old table, the old streams as they become, and the old messages and invoices.
pub record Becomes (book : List ℕ) (p q : Parts) : Type 0 where
  pub table : q.table ≡ p.table
  pub streams : heard (new_book book p) q.streams.items ≡ map become (heard book p.streams.items)
  pub messages : heard (new_book book p) q.messages.items ≡ heard book p.messages.items
  pub invoices : heard (new_book book p) q.invoices.items ≡ heard book p.invoices.items
