-- The search for a type's row by the order of the rows: document 02, (ii). One look is a row's namespace and type being read. Total for any run of
-- numbers. Assumes nothing.
use Rattle.std.specs.Prelude.{List, [], ◌∷◌, ℕ, zero, suc, ◌+◌, ◌*◌, ◌-◌, ◌/◌, ◌≤◌, ◌<◌, ltb, eqb, length, get_or, Option, None}
use Rattle.laws.specs.Test.{pick}
use Rattle.table.specs.Table.{known}
use Rattle.table.specs.declared.Known.{Known}
use Rattle.table.specs.declared.Search.{Search}
use Rattle.table.specs.declared.Side.{Side}

-- A table's rows: how many there are, and the four numbers of one.
abbrev pub rows_of : List ℕ → ℕ
rows_of table = length table / 4

abbrev pub namespace_at : List ℕ → (row : ℕ) → ℕ
namespace_at table row = get_or table (row * 4) 0

abbrev pub kind_at : List ℕ → (row : ℕ) → ℕ
kind_at table row = get_or table (row * 4 + 1) 0

abbrev pub known_at : List ℕ → (row : ℕ) → Option Known
known_at table row = known (get_or table (row * 4 + 2) 0) (get_or table (row * 4 + 3) 0)

-- What a search comes to: what is found, the row from which to search on for a higher type, and the rows looked at, one after the other; a row that is
-- looked at again stands there again.
pub record Searched : Type 0 where
  pub found : Option Known
  pub next : ℕ
  pub looked : List ℕ

-- it ends without a further look
abbrev pub ending : Option Known → (next : ℕ) → Searched
ending found next = record { found = found; next = next; looked = [] }

-- it goes on behind a look at a row
abbrev pub behind_look : (row : ℕ) → Searched → Searched
behind_look row s = record { found = s.found; next = s.next; looked = row ∷ s.looked }

-- What one look shows, by namespace, then type: the row comes before the type, comes behind it, or is its row.
unfoldable pub side_of : (ns k namespace kind : ℕ) → Side
side_of ns k namespace kind =
    pick (eqb ns namespace)
    (pick (ltb k kind) Side.Before (pick (ltb kind k) Side.Behind Side.Here))
    (pick (ltb ns namespace) Side.Before Side.Behind)

abbrev pub seen : List ℕ → (row namespace kind : ℕ) → Side
seen table row namespace kind = side_of (namespace_at table row) (kind_at table row) namespace kind

-- A look at a row, and how the search goes on where the row comes before the type, and where it comes behind it.
unfoldable pub turned : Side → (here before behind : Searched) → Searched
turned Side.Here here before behind = here
turned Side.Before here before behind = before
turned Side.Behind here before behind = behind

abbrev pub looking : List ℕ → (row namespace kind : ℕ) → (before behind : Searched) → Searched
looking table row namespace kind before behind = behind_look row (turned (seen table row namespace kind) (ending (known_at table row) (row + 1)) before behind)

abbrev pub middle : (low high : ℕ) → ℕ
middle low high = low + (high - low) / 2

-- Halving of the rows from `low` up to `high`: a look at the middle one, then the half on the type's side. Each look leaves fewer rows, so that as many as
-- there are rows are all; the count makes the definition end.
unfoldable pub halving : List ℕ → (namespace kind count low high : ℕ) → Searched
halving table namespace kind zero low high = ending None low
halving table namespace kind (suc n) low high =
    pick (ltb low high)
    (looking table (middle low high) namespace kind
    (halving table namespace kind n (middle low high + 1) high)
    (halving table namespace kind n low (middle low high)))
    (ending None low)

abbrev pub halving_behind : List ℕ → (row namespace kind : ℕ) → Searched
halving_behind table row namespace kind = halving table namespace kind (rows_of table) (row + 1) (rows_of table)

-- The search from a row on: a look at that row, which is often the type's, and halving of those behind it.
unfoldable pub searching : List ℕ → (from namespace kind : ℕ) → Searched
searching table from namespace kind =
    pick (ltb from (rows_of table))
    (looking table from namespace kind (halving_behind table from namespace kind) (ending None from))
    (ending None from)

-- A row from which to search for types from `kind` on: the rows before it come before them, by namespace, then type.
abbrev pub Cursor : List ℕ → (namespace kind from : ℕ) → Type 0
Cursor table namespace kind from =
    (row : ℕ) → row < from → row < rows_of table →
    (namespace_at table row ≤ namespace) × (namespace ≤ namespace_at table row → kind_at table row < kind)

-- What the code answers: of the rows looked at, how many they are.
abbrev pub counted : Searched → Search
counted s = record { found = s.found; next = s.next; looks = length s.looked }
