-- Books, judged by the definition. Assumes nothing.
use Rattle.std.specs.Prelude.{Ok, Err}
use mathlib.Core.List.{List, [], ◌∷◌, ◌++◌, map}
use mathlib.Core.Path.{◌≡◌, refl}
use Prim.Native.Nat.{ℕ}
use lib.ListN.{length, replicate}
use Rattle.laws.specs.Digits.{from_digits, to_digits, to_bytes}
use Rattle.laws.specs.Test.{pick}
use Rattle.answer.specs.Answer.{Answer, bare, ensure, ◌>>=◌}
use Rattle.table.specs.Table.{allowed, not_below, rising, checking}
use Rattle.book.specs.Book.{number_at, numbers, table_in, item, item_at, items_at, section_at, Parts, behind_table, parting, judging}

-- the judgement of a book; to unfold it is to compute with all the definitions
unfoldable pub judged : List ℕ → Answer Parts
unfolding from_digits pick allowed not_below rising checking ensure ◌>>=◌ number_at numbers table_in item_at items_at section_at behind_table parting judging
judged book = judging book

-- a row; a stream; a message or an invoice; and pieces behind their two-byte count
abbrev pub row : (namespace kind form parameter : ℕ) → List ℕ
row ns k f p = to_bytes 8 ns ++ (to_bytes 8 k ++ (to_bytes 8 f ++ to_bytes 8 p))

abbrev pub sized : List ℕ → List ℕ
sized bytes = to_bytes 2 (length bytes) ++ bytes

abbrev pub stream : (namespace : ℕ) → List ℕ → List ℕ
stream ns bytes = ns ∷ sized bytes

abbrev pub joined : List (List ℕ) → List ℕ
joined [] = []
joined (piece ∷ pieces) = piece ++ joined pieces

abbrev pub counted : List (List ℕ) → List ℕ
counted pieces = to_bytes 2 (length pieces) ++ joined pieces

-- Document 01's book: the row (0, 1, 2, 8), streams 0100 and 1200 in namespace 0, message 001200000000, no invoice.
abbrev pub paper_book : List ℕ
paper_book =
    counted (row 0 1 2 8 ∷ [])
    ++ (counted (stream 0 (0x01 ∷ 0x00 ∷ []) ∷ stream 0 (0x12 ∷ 0x00 ∷ []) ∷ [])
    ++ (counted (sized (0x00 ∷ 0x12 ∷ 0x00 ∷ 0x00 ∷ 0x00 ∷ 0x00 ∷ []) ∷ [])
    ++ counted []))

paper_length : length paper_book ≡ 58
unfolding to_digits
paper_length = refl

paper : judged paper_book
    ≡ Ok (record {
      table = 0 ∷ 1 ∷ 2 ∷ 8 ∷ [];
      streams = record { begin = 36; items = item 0 39 2 ∷ item 0 44 2 ∷ [] };
      messages = record { begin = 48; items = item 0 50 6 ∷ [] };
      invoices = record { begin = 58; items = [] };
    })
unfolding judged to_digits
paper = refl

-- eight zero bytes are the empty book, and a namespace of 64 refuses no book
empty : judged (replicate 8 0)
    ≡ Ok (record {
      table = [];
      streams = record { begin = 4; items = [] };
      messages = record { begin = 6; items = [] };
      invoices = record { begin = 8; items = [] };
    })
unfolding judged
empty = refl

namespace_64 : judged (0x00 ∷ 0x00 ∷ 0x00 ∷ 0x01 ∷ 0x40 ∷ 0x00 ∷ 0x00 ∷ 0x00 ∷ 0x00 ∷ 0x00 ∷ 0x00 ∷ [])
    ≡ Ok (record {
      table = [];
      streams = record { begin = 4; items = item 64 7 0 ∷ [] };
      messages = record { begin = 9; items = [] };
      invoices = record { begin = 11; items = [] };
    })
unfolding judged
namespace_64 = refl

-- Refused books. The last of each kind shows what comes first: a bad table behind a cut end, and behind an extra byte.
abbrev behind : List ℕ → List ℕ
behind rows = rows ++ replicate 6 0

refused_books :
    let books : List (List ℕ × ℕ) =
    -- cut short: nothing at all, in a count, in a row, in a namespace's length, in a stream, in the last count
    ([], 70)
    ∷ (0x00 ∷ [], 70)
    ∷ (0x00 ∷ 0x01 ∷ replicate 31 0, 70)
    ∷ (0x00 ∷ 0x00 ∷ 0x00 ∷ 0x01 ∷ 0x00 ∷ 0x00 ∷ [], 70)
    ∷ (0x00 ∷ 0x00 ∷ 0x00 ∷ 0x01 ∷ 0x00 ∷ 0x00 ∷ 0x02 ∷ 0x01 ∷ [], 70)
    ∷ (replicate 7 0, 70)
    ∷ (counted (row 64 0 0 0 ∷ []) ++ replicate 5 0, 70)
    -- bytes after the end
    ∷ (replicate 9 0, 71)
    ∷ (counted (row 64 0 0 0 ∷ []) ++ replicate 7 0, 71)
    -- the table
    ∷ (behind (counted (row 64 0 0 0 ∷ [])), 61)
    ∷ (behind (counted (row 0 1 0 0 ∷ row 0 1 0 0 ∷ [])), 62)
    ∷ (behind (counted (row 0 1 2 3 ∷ [])), 63)
    ∷ [] in
    map (λ l. judged l.0) books ≡ map (λ l. Err (bare l.1)) books
unfolding judged to_digits
refused_books = refl

-- 257 rows, all zero: 60 comes before the rows are looked at; and 65,536 bytes, whatever they are
many_rows : judged (0x01 ∷ 0x01 ∷ replicate 8230 0) ≡ Err (bare 60)
unfolding judged
many_rows = refl

too_long : judged (replicate 65536 0) ≡ Err (bare 72)
unfolding judged
too_long = refl
