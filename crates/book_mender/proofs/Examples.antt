-- A mended book computed from the definitions. Assumes nothing.
use Rattle.std.specs.Prelude.{Ok, Err}
use mathlib.Core.List.{List, [], ◌∷◌, ◌++◌}
use mathlib.Core.Path.{◌≡◌, refl}
use Prim.Native.Nat.{ℕ}
use Rattle.answer.specs.Answer.{bare, ensure, fitting, ◌>>=◌}
use Rattle.bigsize.specs.BigSize.{shortest, peeked, peeking}
use Rattle.book.specs.Book.{number_at, numbers, table_in, item_at, items_at, section_at, behind_table, parting, judging}
use Rattle.laws.specs.Digits.{from_digits, to_digits}
use Rattle.laws.specs.Test.{pick}
use Rattle.mending.specs.Mender.{reading, without, kept, spelled, differing, respelled, spans, agrees, agreed, making}
use Rattle.piece.specs.Piece.{is_whole, same}
use Rattle.sorting.specs.Sorting.{put, puts}
use Rattle.stream_writer.specs.Writer.{record_of}
use Rattle.table.specs.Table.{allowed, not_below, rising, checking}
use Rattle.book_mender.specs.BookMender.{becoming, new_streams, mending_book}

-- A book without rows: types 2 and 1 in namespace 0; type 5 with two values in namespace 64; type 5 and a byte of a cut record; then a message of one byte.
abbrev pub old_book : List ℕ
old_book =
    0 ∷ 0 ∷ 0 ∷ 3 ∷ []
    ++ (0 ∷ 0 ∷ 4 ∷ 2 ∷ 0 ∷ 1 ∷ 0 ∷ [])
    ++ (64 ∷ 0 ∷ 6 ∷ 5 ∷ 1 ∷ 7 ∷ 5 ∷ 1 ∷ 8 ∷ [])
    ++ (0 ∷ 0 ∷ 3 ∷ 5 ∷ 0 ∷ 7 ∷ [])
    ++ (0 ∷ 1 ∷ 0 ∷ 1 ∷ 9 ∷ 0 ∷ 0 ∷ [])

-- The first is put in order, the second stays, and the third gets shorter.
abbrev pub mended_book : List ℕ
mended_book =
    0 ∷ 0 ∷ 0 ∷ 3 ∷ []
    ++ (0 ∷ 0 ∷ 4 ∷ 1 ∷ 0 ∷ 2 ∷ 0 ∷ [])
    ++ (64 ∷ 0 ∷ 6 ∷ 5 ∷ 1 ∷ 7 ∷ 5 ∷ 1 ∷ 8 ∷ [])
    ++ (0 ∷ 0 ∷ 2 ∷ 5 ∷ 0 ∷ [])
    ++ (0 ∷ 1 ∷ 0 ∷ 1 ∷ 9 ∷ 0 ∷ 0 ∷ [])

-- it takes 32 bytes, and there is nothing to mend in a book that is cut short
pub answers : (mending_book old_book 32 ≡ Ok mended_book) × (mending_book old_book 31 ≡ Err (bare 12)) × (mending_book (0 ∷ []) 32 ≡ Err (bare 70))
unfolding from_digits to_digits pick allowed not_below rising checking ensure fitting ◌>>=◌ number_at numbers table_in item_at items_at section_at behind_table parting judging shortest peeked peeking put puts record_of is_whole same reading without kept spelled differing respelled spans agrees agreed making becoming new_streams
answers = (refl, refl, refl)
