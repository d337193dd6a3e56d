-- Mended streams computed from the definitions. Assumes nothing.
use Rattle.std.specs.Prelude.{Ok, Err}
use mathlib.Core.List.{List, [], ◌∷◌, map}
use mathlib.Core.Path.{◌≡◌, refl}
use Prim.Native.Nat.{ℕ}
use Rattle.answer.specs.Answer.{Answer, refuse, bare, ensure, fitting, ◌>>=◌}
use Rattle.bigsize.specs.BigSize.{shortest, peeked, peeking}
use Rattle.laws.specs.Digits.{from_digits, to_digits}
use Rattle.laws.specs.Test.{pick}
use Rattle.piece.specs.Piece.{is_whole, same}
use Rattle.sorting.specs.Sorting.{put, puts}
use Rattle.stream_writer.specs.Writer.{record_of}
use Rattle.mending.specs.Mender.{reading, without, kept, spelled, differing, respelled, spans, Mended, agrees, agreed, making, mending}

-- what is written, and the four counts
abbrev pub done : (bytes : List ℕ) (moved dropped respelled cut : ℕ) → Answer Mended
done bs m d r c = Ok (record { bytes = bs; changes = record { moved = m; dropped = d; respelled = r; cut = c } })

-- a stream, the output's length and the answer
pub answers :
    let lines : List (List ℕ × ℕ × Answer Mended) =
    -- nothing
    ([], 0, done [] 0 0 0 0)
    -- types 3, 2 and 1: the one between keeps its number
    ∷ (3 ∷ 0 ∷ 2 ∷ 0 ∷ 1 ∷ 0 ∷ [], 6, done (1 ∷ 0 ∷ 2 ∷ 0 ∷ 3 ∷ 0 ∷ []) 2 0 0 0)
    -- a copy: none of the kept moves
    ∷ (1 ∷ 0 ∷ 1 ∷ 0 ∷ 2 ∷ 0 ∷ [], 6, done (1 ∷ 0 ∷ 2 ∷ 0 ∷ []) 0 1 0 0)
    -- a long type and a long length, and a copy with both
    ∷ (253 ∷ 0 ∷ 5 ∷ 253 ∷ 0 ∷ 1 ∷ 7 ∷ [], 3, done (5 ∷ 1 ∷ 7 ∷ []) 0 0 2 0)
    ∷ (5 ∷ 1 ∷ 7 ∷ 253 ∷ 0 ∷ 5 ∷ 253 ∷ 0 ∷ 1 ∷ 7 ∷ [], 3, done (5 ∷ 1 ∷ 7 ∷ []) 0 1 0 0)
    -- all at once: 5 with a long length, 2, 5 again, 1 with a long type, and 8 cut short
    ∷ (5 ∷ 253 ∷ 0 ∷ 1 ∷ 7 ∷ 2 ∷ 0 ∷ 5 ∷ 1 ∷ 7 ∷ 253 ∷ 0 ∷ 1 ∷ 1 ∷ 9 ∷ 8 ∷ 3 ∷ [], 11, done (1 ∷ 1 ∷ 9 ∷ 2 ∷ 0 ∷ 5 ∷ 1 ∷ 7 ∷ []) 2 1 2 2)
    -- a length of 2^64 - 1
    ∷ (5 ∷ 0 ∷ 5 ∷ 255 ∷ 255 ∷ 255 ∷ 255 ∷ 255 ∷ 255 ∷ 255 ∷ 255 ∷ 255 ∷ 7 ∷ [], 2, done (5 ∷ 0 ∷ []) 0 0 0 11)
    -- two values of one type, and again another one: the first that differs, in byte order, whatever the room
    ∷ (5 ∷ 1 ∷ 7 ∷ 5 ∷ 1 ∷ 8 ∷ [], 6, Err (refuse 80 3 5))
    ∷ (5 ∷ 1 ∷ 7 ∷ 2 ∷ 0 ∷ 5 ∷ 1 ∷ 8 ∷ 2 ∷ 1 ∷ 9 ∷ [], 0, Err (refuse 80 5 5))
    -- another value that is cut short, and one behind a cut
    ∷ (5 ∷ 1 ∷ 7 ∷ 5 ∷ 2 ∷ 8 ∷ [], 3, done (5 ∷ 1 ∷ 7 ∷ []) 0 0 0 3)
    ∷ (5 ∷ 1 ∷ 7 ∷ 3 ∷ 9 ∷ 5 ∷ 1 ∷ 8 ∷ [], 3, done (5 ∷ 1 ∷ 7 ∷ []) 0 0 0 5)
    -- no room
    ∷ (5 ∷ 1 ∷ 7 ∷ 5 ∷ 1 ∷ 7 ∷ [], 2, Err (bare 12))
    ∷ [] in
    map (λ l. mending l.0 l.1) lines ≡ map (λ l. l.2) lines
unfolding from_digits to_digits pick shortest peeked peeking ensure fitting ◌>>=◌ put puts record_of is_whole same reading without kept spelled differing respelled spans agrees agreed making
answers = refl
