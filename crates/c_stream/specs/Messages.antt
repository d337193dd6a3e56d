-- The answers about a message as structs. Assumes nothing.
use Rattle.std.specs.Prelude.{ℕ, Ok, Err, Option, None, Some}
use Rattle.message.specs.Layout.{part}
use Rattle.message.specs.declared.Extension.{Extension}
use Rattle.message.specs.declared.Message.{Message as Answered}
use Rattle.message.specs.declared.layout.Payload.{Payload}
use Rattle.answer.specs.Answer.{Answer}
use Rattle.answer.specs.declared.Refusal.{Refusal}
use Rattle.c_answer.specs.Results.{nothing, yes, no, none}
use Rattle.c_stream.specs.declared.messages.Message.{Message}
use Rattle.c_stream.specs.declared.messages.Reply.{Reply}

-- an accepted message by its parts
abbrev pub whole : Payload → Extension → Message
whole p e =
    record {
      refusal = nothing;
      outcome = yes;
      kind = p.kind;
      first = p.first;
      last = p.last;
      wanted = p.wanted;
      extension = part e.start e.size;
      records = e.records;
      known = e.known;
    }

-- a message of which nothing but its type is told
abbrev pub unread : (outcome kind : ℕ) → Refusal → Message
unread outcome kind r =
    record {
      refusal = r;
      outcome = outcome;
      kind = kind;
      first = part 0 0;
      last = part 0 0;
      wanted = 0;
      extension = part 0 0;
      records = 0;
      known = 0;
    }

-- What the reader answers.
abbrev pub message_of : Answer Answered → Message
message_of (Ok (Answered.Accepted payload e)) = whole payload e
message_of (Ok (Answered.PassedOver kind)) = unread none kind nothing
message_of (Err r) = unread no 0 r

-- a pong of so many bytes, no pong, or a refusal
abbrev pub reply_of : Answer (Option ℕ) → Reply
reply_of (Ok (Some n)) = record { refusal = nothing; outcome = yes; size = n }
reply_of (Ok None) = record { refusal = nothing; outcome = none; size = 0 }
reply_of (Err r) = record { refusal = r; outcome = no; size = 0 }
