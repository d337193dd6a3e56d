-- The five messages, each by its type: document 01, "Messages". Assumes nothing.
use Rattle.std.specs.Prelude.{ℕ, ◌+◌, eqb, Ok, Err}
use Rattle.laws.specs.Test.{pick}
use Rattle.answer.specs.Answer.{Answer, refuse}
use Rattle.answer.specs.declared.Part.{Part}
use Rattle.message.specs.declared.layout.Payload.{Payload}
use Rattle.message.specs.declared.layout.Front.{Front}
use Rattle.message.specs.declared.layout.Shape.{Shape}

-- A part of a message, and where it ends.
abbrev pub part : (start size : ℕ) → Part
part start size = record { start = start; size = size }

abbrev pub end : Part → ℕ
end p = p.start + p.size

-- A payload by its parts, as the writer takes them; what its type has no part for is 0.
abbrev pub parts : (kind : ℕ) (first last : Part) (wanted : ℕ) → Payload
parts kind first last wanted = record { kind = kind; first = first; last = last; wanted = wanted }

abbrev pub nothing : Part
nothing = part 0 0

-- Behind its type a message has a front, a last part behind its length of two bytes, and an extension in a namespace.
-- Its payload is told by the part in front, the last part, and the number in front.
pub record Layout : Type 0 where
  pub front : Front
  pub namespace : ℕ
  pub payload : (first last : Part) (wanted : ℕ) → Payload

abbrev layout : Front → (namespace : ℕ) → ((first last : Part) (wanted : ℕ) → Payload) → Layout
layout front namespace payload = record { front = front; namespace = namespace; payload = payload }

-- Namespace 0 is init's, and the other messages' is empty.

-- init 16: length, globalfeatures, length, features
abbrev pub init : Layout
init = layout Front.Sized 0 (λ globalfeatures features _. parts 16 globalfeatures features 0)

-- error 17 and warning 1: 32-byte channel, length, data
abbrev pub error : Layout
error = layout Front.Channel 1 (λ channel content _. parts 17 channel content 0)

abbrev pub warning : Layout
warning = layout Front.Channel 1 (λ channel content _. parts 1 channel content 0)

-- ping 18: wanted pong bytes, length, filler
abbrev pub ping : Layout
ping = layout Front.Number 1 (λ _ filler wanted. parts 18 nothing filler wanted)

-- pong 19: length, filler
abbrev pub pong : Layout
pong = layout Front.Empty 1 (λ _ filler _. parts 19 nothing filler 0)

-- The layout of a type: 22 where it is none of the five.
unfoldable pub layout_of : (kind : ℕ) → Answer Layout
layout_of kind =
    pick (eqb kind 16) (Ok init)
    (pick (eqb kind 17) (Ok error)
    (pick (eqb kind 1) (Ok warning)
    (pick (eqb kind 18) (Ok ping)
    (pick (eqb kind 19) (Ok pong)
    (Err (refuse 22 0 kind))))))

-- what the code's `layout_of` answers of it
abbrev pub shaped : (front : Front) (namespace : ℕ) → Shape
shaped front namespace = record { front = front; namespace = namespace }

abbrev pub shape_of : Layout → Shape
shape_of l = shaped l.front l.namespace

-- where a payload ends, and the extension begins
abbrev pub extension_at : Payload → ℕ
extension_at p = end p.last
