-- The message writer: document 01, "Messages" and "The refusal list". Assumes nothing.
use Rattle.std.specs.Prelude.{List, [], ◌++◌, ◌≡◌, ℕ, leb, eqb, length, Ok}
use Rattle.laws.specs.Digits.{to_bytes}
use Rattle.answer.specs.Answer.{Answer, refuse, bare, mapped, ensure, fitting, filled, ◌>>=◌}
use Rattle.stream_writer.specs.Writer.{composing as composingStream}
use Rattle.message.specs.Layout.{layout_of}
use Rattle.message.specs.Message.{built_in}
use Rattle.message.specs.declared.layout.Front.{Front}

-- a part behind its length of two bytes
abbrev pub sized_bytes : List ℕ → List ℕ
sized_bytes v = to_bytes 2 (length v) ++ v

-- What stands between the type and the last part: 20 for a channel that has not 32 bytes. A type does not look at what it has no part for.
abbrev pub front_bytes : Front → (kind : ℕ) (first : List ℕ) (wanted : ℕ) → Answer (List ℕ)
front_bytes Front.Sized kind first wanted = Ok (sized_bytes first)
front_bytes Front.Channel kind first wanted = ensure (eqb (length first) 32) (refuse 20 0 kind) >>= λ _. Ok first
front_bytes Front.Number kind first wanted = Ok (to_bytes 2 wanted)
front_bytes Front.Empty kind first wanted = Ok []

-- The payload: the two type bytes, what stands in front, and the last part behind its length: features, data or filler.
unfoldable pub payload : Front → (kind : ℕ) (first last : List ℕ) (wanted : ℕ) → Answer (List ℕ)
payload front kind first last wanted = do
  bytes ← front_bytes front kind first wanted
  Ok (to_bytes 2 kind ++ (bytes ++ sized_bytes last))

-- What the writer is given: the type, its parts, and the extension's triples over their source. The first part is init's globalfeatures or the channel, the
-- last one the features, the data or the filler, the number how many pong bytes a ping wants.
pub record Draft : Type 0 where
  pub kind : ℕ
  pub first : List ℕ
  pub last : List ℕ
  pub wanted : ℕ
  pub triples : List ℕ
  pub source : List ℕ

abbrev pub draft : (kind : ℕ) (first last : List ℕ) (wanted : ℕ) (triples source : List ℕ) → Draft
draft kind first last wanted triples source = record { kind = kind; first = first; last = last; wanted = wanted; triples = triples; source = source }

-- A whole message: 22, 20, the stream's refusals but 12, then 21; the extension stands straight behind the payload.
unfoldable pub composing : Draft → Answer (List ℕ)
composing d = do
  l ← layout_of d.kind
  bytes ← payload l.front d.kind d.first d.last d.wanted
  extension ← composingStream built_in l.namespace d.triples d.source
  _ ← ensure (leb (length (bytes ++ extension)) 65535) (bare 21)
  Ok (bytes ++ extension)

-- Written into an output of that length: 12 comes last.
abbrev pub writing : Draft → (room : ℕ) → Answer (List ℕ)
writing d room = fitting length room (composing d)

-- What the writer does: how much it answers that it wrote, and what an output holds before and afterwards.
abbrev pub Writes : Draft → (answer : Answer ℕ) (out left : List ℕ) → Type 0
Writes d answer out left = (answer ≡ mapped length (writing d (length out))) × (left ≡ filled (writing d (length out)) out)
