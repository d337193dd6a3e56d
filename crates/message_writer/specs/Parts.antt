-- What the writer is given and what the reader answers, compared. Assumes nothing.
use Rattle.std.specs.Prelude.{List, ◌≡◌, ℕ, ◌≤◌, ◌<◌, length, take, drop, Ok}
use Rattle.answer.specs.declared.Part.{Part}
use Rattle.message.specs.Layout.{end, Layout, layout_of}
use Rattle.message.specs.declared.layout.Payload.{Payload}
use Rattle.message.specs.declared.layout.Front.{Front}
use Rattle.message_writer.specs.Writer.{Draft, draft}

-- the bytes of a part of a message
abbrev pub bytes_at : Part → List ℕ → List ℕ
bytes_at p m = take p.size (drop p.start m)

-- what the writer is given to write parts of a message again, with the triples of its extension
abbrev pub draft_of : Payload → (message triples : List ℕ) → Draft
draft_of p m triples = draft p.kind (bytes_at p.first m) (bytes_at p.last m) p.wanted triples m

-- A payload's parts lie in the message, and ping's count is one of two bytes.
abbrev pub PartsIn : (message : List ℕ) → Payload → Type 0
PartsIn m p = (end p.first ≤ length m) × (end p.last ≤ length m) × (p.wanted < 65536)

-- What the writer is given and what stands in front of the last part: the same. What the type has no part for is left open.
abbrev pub SameFront : Front → Draft → Payload → (message : List ℕ) → Type 0
SameFront Front.Sized d p m = bytes_at p.first m ≡ d.first
SameFront Front.Channel d p m = bytes_at p.first m ≡ d.first
SameFront Front.Number d p m = p.wanted ≡ d.wanted
SameFront Front.Empty d p m = Unit {0}

-- What the writer is given and the payload in a message: the same type and the same parts.
pub record SameParts (d : Draft) (p : Payload) (message : List ℕ) : Type 0 where
  pub type : d.kind ≡ p.kind
  pub front : (l : Layout) → layout_of d.kind ≡ Ok l → SameFront l.front d p message
  pub ending : bytes_at p.last message ≡ d.last
