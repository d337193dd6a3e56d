-- Lines about streams inside streams, which the sixteen lines of document 01 do not reach: one table with one proof. Assumes nothing.
use Rattle.std.specs.Prelude.{refl, List, [], ◌∷◌, ℕ, replicate}
use Rattle.stream.specs.Stream.{row}
use Rattle.lines.specs.Lines.{stream, rows, refusal, cut, answered, Line, ◌is◌, Hold}

-- Namespace 0 has a stream in itself (1), an integer (2), a stream in namespace 1 (5) and one in a namespace without rows (9); namespace 1 has two bytes
-- (1), items of two bytes (3) and a point (4).
unfoldable pub small : List ℕ
small =
    0 ∷ 1 ∷ 5 ∷ 0 ∷
    0 ∷ 2 ∷ 2 ∷ 8 ∷
    0 ∷ 5 ∷ 5 ∷ 1 ∷
    0 ∷ 9 ∷ 5 ∷ 63 ∷
    1 ∷ 1 ∷ 1 ∷ 2 ∷
    1 ∷ 3 ∷ 3 ∷ 2 ∷
    1 ∷ 4 ∷ 4 ∷ 0 ∷
    []

unfoldable pub nested_lines : List Line
nested_lines =
    -- accepted: the row of the outer record alone
    stream small 0 (0x05 ∷ 0x04 ∷ 0x01 ∷ 0x02 ∷ 0xaa ∷ 0xbb ∷ []) is rows (row 5 2 4 1 ∷ []) ∷
    -- an empty value is a stream of no records
    stream small 0 (0x05 ∷ 0x00 ∷ []) is rows (row 5 2 0 1 ∷ []) ∷
    -- types rise in each stream by itself: 1 inside 5, then 9 inside 5 with 7 behind it
    stream small 0 (0x02 ∷ 0x00 ∷ 0x05 ∷ 0x04 ∷ 0x01 ∷ 0x02 ∷ 0xaa ∷ 0xbb ∷ []) is rows (row 2 2 0 1 ∷ row 5 4 4 1 ∷ []) ∷
    stream small 0 (0x05 ∷ 0x02 ∷ 0x09 ∷ 0x00 ∷ 0x07 ∷ 0x00 ∷ []) is rows (row 5 2 2 1 ∷ row 7 6 0 0 ∷ []) ∷
    -- 1, 4 and 6 at the end of the value, though the outer stream goes on
    stream small 0 (0x05 ∷ 0x01 ∷ 0xfd ∷ 0x07 ∷ 0x00 ∷ []) is cut 1 2 0 2 ∷
    stream small 0 (0x05 ∷ 0x01 ∷ 0x03 ∷ 0x07 ∷ 0x00 ∷ []) is cut 4 2 3 1 ∷
    stream small 0 (0x05 ∷ 0x02 ∷ 0x03 ∷ 0x02 ∷ 0x07 ∷ 0x00 ∷ []) is cut 6 2 3 2 ∷
    -- 2 and 5: a type, a length that is not shortest
    stream small 0 (0x05 ∷ 0x04 ∷ 0xfd ∷ 0x00 ∷ 0x03 ∷ 0x00 ∷ []) is refusal 2 2 0 ∷
    stream small 0 (0x05 ∷ 0x04 ∷ 0x03 ∷ 0xfd ∷ 0x00 ∷ 0x00 ∷ []) is refusal 5 2 3 ∷
    -- 3: the same type again, and a lower one
    stream small 0 (0x05 ∷ 0x04 ∷ 0x03 ∷ 0x00 ∷ 0x03 ∷ 0x00 ∷ []) is refusal 3 4 3 ∷
    stream small 0 (0x05 ∷ 0x06 ∷ 0x03 ∷ 0x00 ∷ 0x01 ∷ 0x02 ∷ 0xaa ∷ 0xbb ∷ []) is refusal 3 4 1 ∷
    -- 7: namespace 0 has type 2, namespace 1 has not; type 0 may stand first; a namespace without rows knows nothing
    stream small 0 (0x05 ∷ 0x02 ∷ 0x02 ∷ 0x00 ∷ []) is refusal 7 2 2 ∷
    stream small 0 (0x05 ∷ 0x02 ∷ 0x00 ∷ 0x00 ∷ []) is refusal 7 2 0 ∷
    stream small 0 (0x09 ∷ 0x02 ∷ 0x04 ∷ 0x00 ∷ []) is refusal 7 2 4 ∷
    stream small 0 (0x09 ∷ 0x02 ∷ 0x01 ∷ 0x00 ∷ []) is rows (row 9 2 2 1 ∷ []) ∷
    -- 8: one byte where two are due; three where pairs are, behind an outer record of three bytes, which its place counts
    stream small 0 (0x05 ∷ 0x03 ∷ 0x01 ∷ 0x01 ∷ 0xaa ∷ []) is refusal 8 2 1 ∷
    stream small 0 (0x02 ∷ 0x01 ∷ 0x07 ∷ 0x05 ∷ 0x05 ∷ 0x03 ∷ 0x03 ∷ 0xaa ∷ 0xbb ∷ 0xcc ∷ []) is refusal 8 5 3 ∷
    -- 9: a leading zero, at level 2 and at level 3
    stream small 0 (0x01 ∷ 0x03 ∷ 0x02 ∷ 0x01 ∷ 0x00 ∷ []) is refusal 9 2 2 ∷
    stream small 0 (0x01 ∷ 0x05 ∷ 0x01 ∷ 0x03 ∷ 0x02 ∷ 0x01 ∷ 0x00 ∷ []) is refusal 9 4 2 ∷
    -- 10: a point that begins with 4; one that begins with 3 is accepted
    stream small 0 (0x05 ∷ 0x23 ∷ 0x04 ∷ 0x21 ∷ 0x04 ∷ replicate 32 0x00) is refusal 10 2 4 ∷
    stream small 0 (0x05 ∷ 0x23 ∷ 0x04 ∷ 0x21 ∷ 0x03 ∷ replicate 32 0x00) is rows (row 5 2 35 1 ∷ []) ∷
    -- 11: a record of form 5 in a level 4 stream, empty, and before its value is looked at
    stream small 0 (0x01 ∷ 0x06 ∷ 0x01 ∷ 0x04 ∷ 0x01 ∷ 0x02 ∷ 0x01 ∷ 0x00 ∷ []) is refusal 11 6 1 ∷
    stream small 0 (0x01 ∷ 0x07 ∷ 0x01 ∷ 0x05 ∷ 0x01 ∷ 0x03 ∷ 0x05 ∷ 0x01 ∷ 0xfd ∷ []) is refusal 11 6 5 ∷
    -- but 6 comes before 11
    stream small 0 (0x01 ∷ 0x06 ∷ 0x01 ∷ 0x04 ∷ 0x01 ∷ 0x02 ∷ 0x01 ∷ 0x01 ∷ []) is cut 6 6 1 1 ∷
    -- a level 4 stream of other records, and an empty one, are accepted: the namespace names itself
    stream small 0 (0x01 ∷ 0x06 ∷ 0x01 ∷ 0x04 ∷ 0x01 ∷ 0x02 ∷ 0x02 ∷ 0x00 ∷ []) is rows (row 1 2 6 1 ∷ []) ∷
    stream small 0 (0x01 ∷ 0x04 ∷ 0x01 ∷ 0x02 ∷ 0x01 ∷ 0x00 ∷ []) is rows (row 1 2 4 1 ∷ []) ∷
    -- byte order: a nested fault before the outer record behind it (3), and an outer record's own frame (6) before what is inside it
    stream small 0 (0x05 ∷ 0x02 ∷ 0x06 ∷ 0x00 ∷ 0x05 ∷ 0x00 ∷ []) is refusal 7 2 6 ∷
    stream small 0 (0x05 ∷ 0x03 ∷ 0x02 ∷ 0x00 ∷ []) is cut 6 0 5 1 ∷
    -- before all records, an asked namespace over 63; before that the table: not in fours, a namespace over 63, the same row again, a stream in a namespace
    -- over 63
    stream small 64 (0x05 ∷ 0x01 ∷ 0xfd ∷ []) is refusal 61 0 0 ∷
    stream (0 ∷ 1 ∷ 5 ∷ []) 64 [] is refusal 60 0 0 ∷
    stream (64 ∷ 1 ∷ 5 ∷ 0 ∷ []) 0 (0x00 ∷ 0x00 ∷ []) is refusal 61 0 0 ∷
    stream (0 ∷ 1 ∷ 5 ∷ 0 ∷ 0 ∷ 1 ∷ 5 ∷ 0 ∷ []) 64 [] is refusal 62 0 0 ∷
    stream (0 ∷ 1 ∷ 5 ∷ 64 ∷ []) 64 [] is refusal 63 0 0 ∷
    []

pub nested_lines_hold : Hold nested_lines
unfolding nested_lines small answered
nested_lines_hold = refl
