-- A tagged field of an invoice, made from its type and its content: document 01, "Invoices". Assumes nothing.
use Rattle.std.specs.Prelude.{ℕ, List, [], ◌∷◌, ◌++◌, leb, eqb, length, Ok}
use Rattle.bech32.specs.Groups.{digits, groups_of}
use Rattle.laws.specs.Test.{pick}
use Rattle.answer.specs.Answer.{Answer, bare, ensure, ◌>>=◌, fitting}

-- A field is a type group, two length groups (high first), and its groups.
abbrev pub tagged : (kind : ℕ) (content : List ℕ) → List ℕ
tagged kind content = kind ∷ digits 2 (length content) ++ content

-- groups without the zero groups at their front
unfoldable pub stripped : (groups : List ℕ) → List ℕ
stripped [] = []
stripped (g ∷ gs) = pick (eqb g 0) (stripped gs) (g ∷ gs)

-- The groups of a number of 64 bits, as few as hold it: of its 13 groups, those from the first one that is not 0 on. So 0 has none.
abbrev pub shortest : (n : ℕ) → List ℕ
shortest n = stripped (digits 13 n)

-- The field of a type and a content, written at the front of an output of that length. 34: a type above 31, which is no group. 38: a content of more than `most`
-- groups. 12: an output too short.
unfoldable pub making : (most kind : ℕ) (content : List ℕ) (room : ℕ) → Answer (List ℕ)
making most kind content room = do
  _ ← ensure (leb kind 31) (bare 34)
  _ ← ensure (leb (length content) most) (bare 38)
  fitting length room (Ok (tagged kind content))

-- A field of bytes, as p, h, n, d and r are: two length groups count up to 1,023 groups.
abbrev pub making_bytes : (kind : ℕ) (bytes : List ℕ) (room : ℕ) → Answer (List ℕ)
making_bytes kind bytes room = making 1023 kind (groups_of bytes) room

-- A field of a number, as x and c are: no usable one has more than 12 groups.
abbrev pub making_number : (kind n room : ℕ) → Answer (List ℕ)
making_number kind n room = making 12 kind (shortest n) room
