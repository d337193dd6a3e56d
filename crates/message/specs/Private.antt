-- What the private functions promise each other: no public contract cites it. Assumes nothing.
use Rattle.std.specs.Prelude.{List, ◌≡◌, ℕ, ◌≤◌, ◌<◌, length, Ok, Err}
use Rattle.answer.specs.Answer.{Answer, mapped, ◌>>=◌}
use Rattle.stream.specs.Stream.{Row, judging_from}
use Rattle.message.specs.Layout.{end, parts, nothing, layout_of, shaped, shape_of, extension_at}
use Rattle.message.specs.Message.{built_in, number_at, fixed, front_at, by_type, Outcome, passed_over, told, address_in}
use Rattle.answer.specs.declared.Part.{Part}
use Rattle.message.specs.declared.layout.Front.{Front}
use Rattle.message.specs.declared.layout.Payload.{Payload}
use Rattle.message.specs.declared.parts.Before.{Before}
use Rattle.message.specs.declared.parts.Typed.{Typed}
use Rattle.message.specs.declared.parts.Parsed.{Parsed}

-- a payload by what stands in front
abbrev pub by_front : Front → (kind : ℕ) (first last : Part) (number : ℕ) → Payload
by_front Front.Sized kind first last number = parts kind first last 0
by_front Front.Channel kind first last number = parts kind first last 0
by_front Front.Number kind first last number = parts kind nothing last number
by_front Front.Empty kind first last number = parts kind nothing last 0

-- the number behind the type, where it is not cut short
pub record Second (n : ℕ) (m : List ℕ) : Type 0 where
  pub is : 4 ≤ length m → n ≡ number_at 2 m
  pub bound : n < 65536

-- what stands before the last part: where it lies, where it ends, and how the payload tells it
pub record Stands (front : Front) (before : Before) (m : List ℕ) : Type 0 where
  pub lies : Part
  pub is : (kind : ℕ) → front_at front kind m ≡ fixed kind lies.start lies.size m
  pub ends : before.end ≡ end lies
  pub tells : before.end ≤ length m → (kind : ℕ) (last : Part) → by_front front kind lies last (number_at lies.start m) ≡ parts kind before.first last before.wanted

-- the answer about a message, by what its extension's rows are answered
abbrev pub extending : Payload → Answer (List Row) → Answer Outcome
extending payload x = x >>= λ rows. Ok (told payload rows)

-- where the address lies, likewise
abbrev pub address_behind : Payload → Answer (List Row) → Answer Part
address_behind payload x = extending payload x >>= address_in

-- what is left to ask of a message whose type was told
abbrev pub typed : Answer Typed → List ℕ → Answer Outcome
typed (Ok (Typed.Known kind front namespace second)) m = by_type kind (layout_of kind) m
typed (Ok (Typed.PassedOver kind)) m = Ok (passed_over kind)
typed (Err r) m = Err r

-- one of the five is told by its layout, and by the number behind it
abbrev pub Told : Answer Typed → List ℕ → Type 0
Told (Ok (Typed.Known kind front namespace second)) m = (mapped shape_of (layout_of kind) ≡ Ok (shaped front namespace)) × (kind < 65536) × Second second m
Told (Ok (Typed.PassedOver kind)) m = Unit {0}
Told (Err r) m = Unit {0}

-- what is left to ask of a message whose payload was parsed: its extension
abbrev pub extended : Answer Parsed → (namespace : ℕ) → List ℕ → Answer Outcome
extended (Ok p) namespace m = extending p.payload (judging_from p.begin built_in namespace m)
extended (Err r) namespace m = Err r

-- so it is parsed of a type with that front, whatever namespace the type's layout gives
abbrev pub ParsedBy : (kind : ℕ) → Front → Answer Parsed → List ℕ → Type 0
ParsedBy kind front r m =
    (namespace : ℕ) → mapped shape_of (layout_of kind) ≡ Ok (shaped front namespace) → by_type kind (layout_of kind) m ≡ extended r namespace m

-- a payload that was parsed ends in the message
abbrev pub EndsIn : Answer Parsed → List ℕ → Type 0
EndsIn (Ok p) m = (p.begin ≡ extension_at p.payload) × (p.begin ≤ length m)
EndsIn (Err r) m = Unit {0}
