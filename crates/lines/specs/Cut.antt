-- Lines about what is cut short, and how much is missing from it: document 02, (v). One table with one proof. Assumes nothing.
use Rattle.std.specs.Prelude.{refl, List, [], ◌∷◌, replicate}
use Rattle.message.specs.Layout.{part, parts}
use Rattle.message.specs.Message.{told}
use Rattle.stream.specs.Stream.{row}
use Rattle.lines.specs.Lines.{big_size, stream, message, value, rows, tells, refusal, cut, answered, Line, ◌is◌, Hold}
use Rattle.lines.specs.Nested.{small}

unfoldable pub cut_lines : List Line
cut_lines =
    -- a BigSize of 3, 5 and 9 bytes, cut at every byte; nothing to read; one that is not shortest
    big_size [] is cut 13 0 0 1 ∷
    big_size (0xfd ∷ 0x01 ∷ []) is cut 1 0 0 1 ∷
    big_size (0xfd ∷ 0x01 ∷ 0x00 ∷ []) is value 256 ∷
    big_size (0xfe ∷ []) is cut 1 0 0 4 ∷
    big_size (0xfe ∷ 0x01 ∷ []) is cut 1 0 0 3 ∷
    big_size (0xfe ∷ 0x01 ∷ 0x00 ∷ []) is cut 1 0 0 2 ∷
    big_size (0xfe ∷ 0x01 ∷ 0x00 ∷ 0x00 ∷ []) is cut 1 0 0 1 ∷
    big_size (0xff ∷ []) is cut 1 0 0 8 ∷
    big_size (0xff ∷ 0x00 ∷ []) is cut 1 0 0 7 ∷
    big_size (0xff ∷ replicate 6 0x00) is cut 1 0 0 2 ∷
    big_size (0xff ∷ replicate 7 0x00) is cut 1 0 0 1 ∷
    big_size (0xff ∷ replicate 8 0x00) is refusal 2 0 0 ∷
    -- a stream of two records, 01012a and fd010103aabbcc, cut at every byte
    stream [] 0 [] is rows [] ∷
    stream [] 0 (0x01 ∷ []) is cut 4 0 1 1 ∷
    stream [] 0 (0x01 ∷ 0x01 ∷ []) is cut 6 0 1 1 ∷
    stream [] 0 (0x01 ∷ 0x01 ∷ 0x2a ∷ []) is rows (row 1 2 1 0 ∷ []) ∷
    stream [] 0 (0x01 ∷ 0x01 ∷ 0x2a ∷ 0xfd ∷ []) is cut 1 3 0 2 ∷
    stream [] 0 (0x01 ∷ 0x01 ∷ 0x2a ∷ 0xfd ∷ 0x01 ∷ []) is cut 1 3 0 1 ∷
    stream [] 0 (0x01 ∷ 0x01 ∷ 0x2a ∷ 0xfd ∷ 0x01 ∷ 0x01 ∷ []) is cut 4 3 257 1 ∷
    stream [] 0 (0x01 ∷ 0x01 ∷ 0x2a ∷ 0xfd ∷ 0x01 ∷ 0x01 ∷ 0x03 ∷ []) is cut 6 3 257 3 ∷
    stream [] 0 (0x01 ∷ 0x01 ∷ 0x2a ∷ 0xfd ∷ 0x01 ∷ 0x01 ∷ 0x03 ∷ 0xaa ∷ []) is cut 6 3 257 2 ∷
    stream [] 0 (0x01 ∷ 0x01 ∷ 0x2a ∷ 0xfd ∷ 0x01 ∷ 0x01 ∷ 0x03 ∷ 0xaa ∷ 0xbb ∷ []) is cut 6 3 257 1 ∷
    stream [] 0 (0x01 ∷ 0x01 ∷ 0x2a ∷ 0xfd ∷ 0x01 ∷ 0x01 ∷ 0x03 ∷ 0xaa ∷ 0xbb ∷ 0xcc ∷ []) is rows (row 1 2 1 0 ∷ row 257 7 3 0 ∷ []) ∷
    -- a length of 9 bytes, cut short; a value announced with 2^64 - 1 bytes, of which none and two are there
    stream [] 0 (0x01 ∷ 0xff ∷ []) is cut 4 0 1 8 ∷
    stream [] 0 (0x01 ∷ replicate 8 0xff) is cut 4 0 1 1 ∷
    stream [] 0 (0x01 ∷ replicate 9 0xff) is cut 6 0 1 18446744073709551615 ∷
    stream [] 0 (0x01 ∷ replicate 11 0xff) is cut 6 0 1 18446744073709551613 ∷
    -- refusals that have no number missing: 2, 3, 5 and 7, each with a cut behind it that is not met
    stream [] 0 (0xfd ∷ 0x00 ∷ 0x01 ∷ []) is refusal 2 0 0 ∷
    stream [] 0 (0x03 ∷ 0x00 ∷ 0x01 ∷ []) is refusal 3 2 1 ∷
    stream [] 0 (0x01 ∷ 0xfd ∷ 0x00 ∷ 0x01 ∷ []) is refusal 5 0 1 ∷
    stream [] 0 (0x02 ∷ 0x00 ∷ 0x03 ∷ []) is refusal 7 0 2 ∷
    -- inside a value it is counted to the value's end, wherever the outer stream ends: a type, a length not begun and one cut, a value, and one two levels down
    stream small 0 (0x05 ∷ 0x02 ∷ 0xfe ∷ 0x00 ∷ 0x07 ∷ 0x00 ∷ []) is cut 1 2 0 3 ∷
    stream small 0 (0x05 ∷ 0x01 ∷ 0x01 ∷ []) is cut 4 2 1 1 ∷
    stream small 0 (0x05 ∷ 0x02 ∷ 0x01 ∷ 0xfd ∷ 0x07 ∷ 0x00 ∷ []) is cut 4 2 1 2 ∷
    stream small 0 (0x05 ∷ 0x03 ∷ 0x03 ∷ 0x06 ∷ 0xaa ∷ 0x07 ∷ 0x00 ∷ []) is cut 6 2 3 5 ∷
    stream small 0 (0x01 ∷ 0x05 ∷ 0x01 ∷ 0x03 ∷ 0x02 ∷ 0x09 ∷ 0xaa ∷ 0x07 ∷ 0x00 ∷ []) is cut 6 4 2 8 ∷
    -- the same bytes in a value that is not entered are whole
    stream [] 0 (0x05 ∷ 0x02 ∷ 0xfe ∷ 0x00 ∷ 0x07 ∷ 0x00 ∷ []) is rows (row 5 2 2 0 ∷ row 7 6 0 0 ∷ []) ∷
    -- the extension of a pong, cut at every byte; a payload that is cut short is no record
    message (0x00 ∷ 0x13 ∷ 0x00 ∷ 0x00 ∷ 0x01 ∷ []) is cut 4 4 1 1 ∷
    message (0x00 ∷ 0x13 ∷ 0x00 ∷ 0x00 ∷ 0x01 ∷ 0x02 ∷ []) is cut 6 4 1 2 ∷
    message (0x00 ∷ 0x13 ∷ 0x00 ∷ 0x00 ∷ 0x01 ∷ 0x02 ∷ 0xaa ∷ []) is cut 6 4 1 1 ∷
    message (0x00 ∷ 0x13 ∷ 0x00 ∷ 0x00 ∷ 0x01 ∷ 0x02 ∷ 0xaa ∷ 0xbb ∷ []) is tells (told (parts 19 (part 0 0) (part 4 0) 0) (row 1 6 2 0 ∷ [])) ∷
    message (0x00 ∷ 0x13 ∷ 0x00 ∷ []) is refusal 20 0 19 ∷
    []

pub cut_lines_hold : Hold cut_lines
unfolding cut_lines small answered
cut_lines_hold = refl
