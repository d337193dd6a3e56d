-- Address descriptors, as init's record 3 holds one: document 02, (iii). Assumes nothing.
use Rattle.std.specs.Prelude.{Bool, true, false, ◌&&◌, List, [], ◌∷◌, ℕ, suc, ◌+◌, leb, eqb, length, Ok, Err}
use Rattle.laws.specs.Test.{pick}
use Rattle.answer.specs.Answer.{Answer, bare, ensure, fits, ◌>>=◌}
use Rattle.address.specs.declared.Described.{Described}

-- One type byte, then the rest: 6 bytes for 1 (IPv4), 18 for 2 (IPv6), 12 for 3 (Tor v2), 37 for 4 (Tor v3).
abbrev pub lengths : List (ℕ × ℕ)
lengths = (1, 6) ∷ (2, 18) ∷ (3, 12) ∷ (4, 37) ∷ []

-- For 5 (a DNS name) a length byte of at least 1, that many name bytes and 2 port bytes.
unfoldable pub is_name : List ℕ → Bool
is_name [] = false
is_name (n ∷ behind) = leb 1 n && eqb (length behind) (n + 2)

-- A rest by a table of lengths; `otherwise` for a type that is not in it.
unfoldable pub by_length : List (ℕ × ℕ) → (kind : ℕ) (rest : List ℕ) (otherwise : Bool) → Bool
by_length [] kind rest otherwise = otherwise
by_length (l ∷ more) kind rest otherwise = pick (eqb kind l.0) (eqb (length rest) l.1) (by_length more kind rest otherwise)

-- Whether a rest is one of its type. An unknown type is kept as bytes, whatever they are.
unfoldable pub is_rest : (kind : ℕ) → List ℕ → Bool
is_rest kind rest = by_length lengths kind rest (pick (eqb kind 5) (is_name rest) true)

-- A value that is a descriptor: not empty, and its rest is one of its type.
unfoldable pub is_descriptor : List ℕ → Bool
is_descriptor [] = false
is_descriptor (kind ∷ rest) = is_rest kind rest

-- a descriptor by its type and its rest
pub record Descriptor : Type 0 where
  pub kind : ℕ
  pub rest : List ℕ

abbrev pub descriptor : (kind : ℕ) (rest : List ℕ) → Descriptor
descriptor kind rest = record { kind = kind; rest = rest }

-- A value read: 8 where it is no descriptor.
unfoldable pub reading : List ℕ → Answer Descriptor
reading [] = Err (bare 8)
reading (kind ∷ rest) = do
  _ ← ensure (is_rest kind rest) (bare 8)
  Ok (descriptor kind rest)

-- A descriptor written into an output of that length: 8 where the rest is not one of the type, then 12.
unfoldable pub writing : Descriptor → (room : ℕ) → Answer (List ℕ)
writing d room = do
  _ ← ensure (is_rest d.kind d.rest) (bare 8)
  _ ← fits (suc (length d.rest)) room
  Ok (d.kind ∷ d.rest)

-- What the code answers: the type, and the part of the value behind its first byte.
abbrev pub described_of : Descriptor → Described
described_of d = record { kind = d.kind; rest = record { start = 1; size = length d.rest } }

-- the rest as bytes; none of a value that is refused
abbrev pub rest_of : Answer Descriptor → List ℕ
rest_of (Ok d) = d.rest
rest_of (Err r) = []

-- Where the rest lies in memory, by where the value does, since it is a part of the caller's own bytes: behind the first byte; of a value that is refused it
-- is an empty part at the first byte. A place in memory is a block and an offset in it.
abbrev pub rest_at : ℕ × ℕ → Answer Descriptor → ℕ × ℕ
rest_at v (Ok d) = (v.0, v.1 + 1)
rest_at v (Err r) = v
