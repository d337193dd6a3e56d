-- Lines about values of form 6 in streams and in init, document 02, (iii), and about the two tables of init: each with one proof. Assumes nothing.
use Rattle.std.specs.Prelude.{◌≡◌, refl, List, [], ◌∷◌, ℕ, replicate}
use Rattle.answer.specs.Answer.{ensure, ◌>>=◌}
use Rattle.laws.specs.Test.{pick}
use Rattle.message.specs.Layout.{part, parts}
use Rattle.message.specs.Message.{built_in, told}
use Rattle.stream.specs.Stream.{row}
use Rattle.table.specs.Table.{allowed, not_below, rising, checking, lookup}
use Rattle.table_extension.specs.Extension.{known_as, first_missing, extension, extending}
use Rattle.table_extension.specs.declared.Comparison.TheVariants as Comparison
use Rattle.lines.specs.Lines.{stream, message, rows, tells, refusal, answered, Line, ◌is◌, Hold}

-- Namespace 0 has a stream in itself (1), which may hold an address (3).
unfoldable pub addressed : List ℕ
addressed =
    0 ∷ 1 ∷ 5 ∷ 0 ∷
    0 ∷ 3 ∷ 6 ∷ 0 ∷
    []

unfoldable pub address_lines : List Line
address_lines =
    -- the types 1 to 4 with the length of each, one byte less and one more
    stream addressed 0 (0x03 ∷ 0x07 ∷ 0x01 ∷ replicate 6 0x7f) is rows (row 3 2 7 1 ∷ []) ∷
    stream addressed 0 (0x03 ∷ 0x06 ∷ 0x01 ∷ replicate 5 0x7f) is refusal 8 0 3 ∷
    stream addressed 0 (0x03 ∷ 0x08 ∷ 0x01 ∷ replicate 7 0x7f) is refusal 8 0 3 ∷
    stream addressed 0 (0x03 ∷ 0x13 ∷ 0x02 ∷ replicate 18 0x7f) is rows (row 3 2 19 1 ∷ []) ∷
    stream addressed 0 (0x03 ∷ 0x12 ∷ 0x02 ∷ replicate 17 0x7f) is refusal 8 0 3 ∷
    stream addressed 0 (0x03 ∷ 0x14 ∷ 0x02 ∷ replicate 19 0x7f) is refusal 8 0 3 ∷
    stream addressed 0 (0x03 ∷ 0x0d ∷ 0x03 ∷ replicate 12 0x7f) is rows (row 3 2 13 1 ∷ []) ∷
    stream addressed 0 (0x03 ∷ 0x0c ∷ 0x03 ∷ replicate 11 0x7f) is refusal 8 0 3 ∷
    stream addressed 0 (0x03 ∷ 0x0e ∷ 0x03 ∷ replicate 13 0x7f) is refusal 8 0 3 ∷
    stream addressed 0 (0x03 ∷ 0x26 ∷ 0x04 ∷ replicate 37 0x7f) is rows (row 3 2 38 1 ∷ []) ∷
    stream addressed 0 (0x03 ∷ 0x25 ∷ 0x04 ∷ replicate 36 0x7f) is refusal 8 0 3 ∷
    stream addressed 0 (0x03 ∷ 0x27 ∷ 0x04 ∷ replicate 38 0x7f) is refusal 8 0 3 ∷
    -- the type 5: a name of one byte; no length byte, a length of 0 without and with a port, a name cut, a byte behind the port
    stream addressed 0 (0x03 ∷ 0x05 ∷ 0x05 ∷ 0x01 ∷ 0x61 ∷ 0x26 ∷ 0x07 ∷ []) is rows (row 3 2 5 1 ∷ []) ∷
    stream addressed 0 (0x03 ∷ 0x01 ∷ 0x05 ∷ []) is refusal 8 0 3 ∷
    stream addressed 0 (0x03 ∷ 0x02 ∷ 0x05 ∷ 0x00 ∷ []) is refusal 8 0 3 ∷
    stream addressed 0 (0x03 ∷ 0x04 ∷ 0x05 ∷ 0x00 ∷ 0x00 ∷ 0x00 ∷ []) is refusal 8 0 3 ∷
    stream addressed 0 (0x03 ∷ 0x05 ∷ 0x05 ∷ 0x02 ∷ 0x61 ∷ 0x26 ∷ 0x07 ∷ []) is refusal 8 0 3 ∷
    stream addressed 0 (0x03 ∷ 0x06 ∷ 0x05 ∷ 0x01 ∷ 0x61 ∷ 0x26 ∷ 0x07 ∷ 0x00 ∷ []) is refusal 8 0 3 ∷
    -- an unknown type is kept, and known: 0 and 6 without a rest, 255 with one; but no byte at all is refused
    stream addressed 0 (0x03 ∷ 0x01 ∷ 0x00 ∷ []) is rows (row 3 2 1 1 ∷ []) ∷
    stream addressed 0 (0x03 ∷ 0x01 ∷ 0x06 ∷ []) is rows (row 3 2 1 1 ∷ []) ∷
    stream addressed 0 (0x03 ∷ 0x03 ∷ 0xff ∷ 0x01 ∷ 0x02 ∷ []) is rows (row 3 2 3 1 ∷ []) ∷
    stream addressed 0 (0x03 ∷ 0x00 ∷ []) is refusal 8 0 3 ∷
    -- at level 4
    stream addressed 0 (0x01 ∷ 0x07 ∷ 0x01 ∷ 0x05 ∷ 0x01 ∷ 0x03 ∷ 0x03 ∷ 0x01 ∷ 0x09 ∷ []) is rows (row 1 2 7 1 ∷ []) ∷
    stream addressed 0 (0x01 ∷ 0x07 ∷ 0x01 ∷ 0x05 ∷ 0x01 ∷ 0x03 ∷ 0x03 ∷ 0x01 ∷ 0x01 ∷ []) is refusal 8 6 3 ∷
    -- 63: form 6 with the parameter 1, and form 7
    stream (0 ∷ 3 ∷ 6 ∷ 1 ∷ []) 0 [] is refusal 63 0 0 ∷
    stream (0 ∷ 3 ∷ 7 ∷ 0 ∷ []) 0 [] is refusal 63 0 0 ∷
    -- in init, and where it is no address: in a pong
    message (0x00 ∷ 0x10 ∷ 0x00 ∷ 0x00 ∷ 0x00 ∷ 0x00 ∷ 0x03 ∷ 0x07 ∷ 0x01 ∷ 0x7f ∷ 0x00 ∷ 0x00 ∷ 0x01 ∷ 0x26 ∷ 0x07 ∷ [])
    is tells (told (parts 16 (part 4 0) (part 6 0) 0) (row 3 8 7 1 ∷ [])) ∷
    message (0x00 ∷ 0x10 ∷ 0x00 ∷ 0x00 ∷ 0x00 ∷ 0x00 ∷ 0x03 ∷ 0x06 ∷ 0x01 ∷ 0x7f ∷ 0x00 ∷ 0x00 ∷ 0x01 ∷ 0x26 ∷ []) is refusal 8 6 3 ∷
    message (0x00 ∷ 0x13 ∷ 0x00 ∷ 0x00 ∷ 0x03 ∷ 0x00 ∷ []) is tells (told (parts 19 (part 0 0) (part 4 0) 0) (row 3 6 0 0 ∷ [])) ∷
    []

pub address_lines_hold : Hold address_lines
unfolding address_lines addressed answered
address_lines_hold = refl

-- Init's table as document 01 has it, with any bytes as remote_addr. It and the built-in one are not older and newer, in whichever order.
abbrev pub built_in_before : List ℕ
built_in_before = 0 ∷ 1 ∷ 3 ∷ 32 ∷ 0 ∷ 3 ∷ 0 ∷ 0 ∷ []

pub not_older_and_newer : (extending built_in_before built_in ≡ Comparison.Lacks 1) × (extending built_in built_in_before ≡ Comparison.Lacks 1)
unfolding extending extension first_missing known_as checking rising not_below allowed lookup ensure ◌>>=◌ pick
not_older_and_newer = (refl, refl)
