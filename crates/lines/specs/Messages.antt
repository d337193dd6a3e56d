-- Lines about messages: BOLT 1's Appendix C, each of the five, and what is refused or passed over: one table with one proof. Assumes nothing.
use Rattle.std.specs.Prelude.{refl, List, [], ◌∷◌, ◌++◌, replicate}
use Rattle.message.specs.Layout.{part, parts, nothing}
use Rattle.message.specs.Message.{told, passed_over}
use Rattle.stream.specs.Stream.{row}
use Rattle.lines.specs.Lines.{message, tells, refusal, cut, answered, Line, ◌is◌, Hold}

unfoldable pub message_lines : List Line
message_lines =
    -- Appendix C: no extension; two unknown odd records; a record cut short; an unknown even record; a type twice
    message (0x00 ∷ 0x10 ∷ 0x00 ∷ 0x00 ∷ 0x00 ∷ 0x00 ∷ []) is tells (told (parts 16 (part 4 0) (part 6 0) 0) []) ∷
    message (0x00 ∷ 0x10 ∷ 0x00 ∷ 0x00 ∷ 0x00 ∷ 0x00 ∷ 0xc9 ∷ 0x01 ∷ 0x2a ∷ 0xcb ∷ 0x01 ∷ 0x04 ∷ [])
    is tells (told (parts 16 (part 4 0) (part 6 0) 0) (row 201 8 1 0 ∷ row 203 11 1 0 ∷ [])) ∷
    message (0x00 ∷ 0x10 ∷ 0x00 ∷ 0x00 ∷ 0x00 ∷ 0x00 ∷ 0x01 ∷ []) is cut 4 6 1 1 ∷
    message (0x00 ∷ 0x10 ∷ 0x00 ∷ 0x00 ∷ 0x00 ∷ 0x00 ∷ 0xca ∷ 0x01 ∷ 0x2a ∷ []) is refusal 7 6 202 ∷
    message (0x00 ∷ 0x10 ∷ 0x00 ∷ 0x00 ∷ 0x00 ∷ 0x00 ∷ 0xc9 ∷ 0x01 ∷ 0x01 ∷ 0xc9 ∷ 0x01 ∷ 0x02 ∷ []) is refusal 3 9 201 ∷
    -- error, and a warning whose extension has a record of type 1, which only init's namespace knows
    message (0x00 ∷ 0x11 ∷ replicate 32 0 ++ (0x00 ∷ 0x01 ∷ 0x21 ∷ [])) is tells (told (parts 17 (part 2 32) (part 36 1) 0) []) ∷
    message (0x00 ∷ 0x01 ∷ replicate 32 0 ++ (0x00 ∷ 0x00 ∷ 0x01 ∷ 0x00 ∷ [])) is tells (told (parts 1 (part 2 32) (part 36 0) 0) (row 1 38 0 0 ∷ [])) ∷
    -- ping and pong
    message (0x00 ∷ 0x12 ∷ 0x01 ∷ 0x02 ∷ 0x00 ∷ 0x01 ∷ 0x00 ∷ []) is tells (told (parts 18 nothing (part 6 1) 258) []) ∷
    message (0x00 ∷ 0x13 ∷ 0x00 ∷ 0x02 ∷ 0x00 ∷ 0x00 ∷ []) is tells (told (parts 19 nothing (part 4 2) 0) []) ∷
    -- an unknown odd and an unknown even type
    message (0x00 ∷ 0x15 ∷ []) is tells (passed_over 21) ∷
    message (0x00 ∷ 0x16 ∷ []) is refusal 22 0 22 ∷
    -- cut short: without a type, in a length, behind it, and a channel of 31 bytes
    message (0x00 ∷ []) is refusal 20 0 0 ∷
    message (0x00 ∷ 0x12 ∷ 0x00 ∷ 0x00 ∷ 0x00 ∷ []) is refusal 20 0 18 ∷
    message (0x00 ∷ 0x10 ∷ 0x00 ∷ 0x01 ∷ []) is refusal 20 0 16 ∷
    message (0x00 ∷ 0x11 ∷ replicate 31 0) is refusal 20 0 17 ∷
    []

pub message_lines_hold : Hold message_lines
unfolding message_lines answered
message_lines_hold = refl
