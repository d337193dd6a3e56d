-- A pong without an extension, as the reader tells it. Assumes nothing.
use Rattle.std.specs.Prelude.{List, [], ◌≡◌, ℕ, ◌+◌, replicate, Ok}
use Rattle.message.specs.Layout.{part, parts, nothing}
use Rattle.message.specs.Message.{extension, judging, reading, answer_of}
use Rattle.message.specs.declared.Message.{Message}
use Rattle.message_writer.specs.Parts.{bytes_at}

-- the reader's answer: a pong with so many bytes of filler, and an empty extension
abbrev pub pong_of : (count : ℕ) → Message
pong_of count = Message.Accepted (parts 19 nothing (part 4 count) 0) (extension (4 + count) 0 [])

-- A message that is read as such a pong, with an index of any length, and judged so without one; the filler is zero bytes.
pub record ReadAsPong (count : ℕ) (message : List ℕ) : Type 0 where
  pub read : (room : ℕ) → answer_of message (reading message room) ≡ Ok (pong_of count)
  pub judged : answer_of message (judging message) ≡ Ok (pong_of count)
  pub filler : bytes_at (part 4 count) message ≡ replicate count 0
