-- The table of known types: document 01, "The table of known types" and "The refusal list"; document 02, (iii). Assumes nothing.
use Rattle.std.specs.Prelude.{Bool, false, ◌&&◌, ◌||◌, List, [], ◌∷◌, ◌⊎◌, ◌≡◌, ℕ, suc, ◌%◌, ltb, leb, eqb, length, Ok, Option, Some, None}
use Rattle.laws.specs.Test.{pick}
use Rattle.answer.specs.Answer.{Answer, bare, ensure, ◌>>=◌}
use Rattle.table.specs.declared.Known.{Known}

-- The forms, each with its parameters.
unfoldable pub allowed : (form parameter : ℕ) → Bool
allowed f p =
    pick (eqb f 0) (eqb p 0)
    (pick (eqb f 1) (leb p 65535)
    (pick (eqb f 2) (eqb p 2 || (eqb p 4 || eqb p 8))
    (pick (eqb f 3) (leb 1 p && leb p 65535)
    (pick (eqb f 4) (leb p 65502)
    (pick (eqb f 5) (leb p 63)
    (pick (eqb f 6) (eqb p 0)
    false))))))

-- A row comes no earlier than another, by namespace, then type.
unfoldable pub not_below : (namespace kind ns k : ℕ) → Bool
not_below namespace kind ns k = ltb namespace ns || (eqb namespace ns && leb kind k)

-- Rows, each of namespace, type, form and parameter, from a least row on: 61, 62, 63, row by row. What follows a row is above it, from its type + 1 on.
unfoldable pub rising : (namespace kind : ℕ) → List ℕ → Answer (Unit {0})
rising namespace kind (ns ∷ k ∷ f ∷ p ∷ rows) = do
  _ ← ensure (leb ns 63) (bare 61)
  _ ← ensure (not_below namespace kind ns k) (bare 62)
  _ ← ensure (allowed f p) (bare 63)
  rising ns (suc k) rows
rising namespace kind [] = Ok tt
rising namespace kind (_ ∷ []) = Ok tt
rising namespace kind (_ ∷ _ ∷ []) = Ok tt
rising namespace kind (_ ∷ _ ∷ _ ∷ []) = Ok tt

-- A whole table: 60 where it is not in fours or has over 256 rows, then its rows.
unfoldable pub checking : List ℕ → Answer (Unit {0})
checking table = do
  _ ← ensure (eqb (length table % 4) 0 && leb (length table) 1024) (bare 60)
  rising 0 0 table

-- What a table knows of a type in a namespace: its form and parameter, or nothing.
abbrev pub known : (form parameter : ℕ) → Option Known
known f p = Some (record { form = f; parameter = p })

unfoldable pub lookup : List ℕ → (namespace kind : ℕ) → Option Known
lookup (ns ∷ k ∷ f ∷ p ∷ rows) namespace kind = pick (eqb ns namespace && eqb k kind) (known f p) (lookup rows namespace kind)
lookup [] namespace kind = None
lookup (_ ∷ []) namespace kind = None
lookup (_ ∷ _ ∷ []) namespace kind = None
lookup (_ ∷ _ ∷ _ ∷ []) namespace kind = None

-- The row (namespace, type, form, parameter) is one of a table's.
unfoldable pub HasRow : (namespace kind form parameter : ℕ) → List ℕ → Type 0
HasRow namespace kind form parameter (ns ∷ k ∷ f ∷ p ∷ rows) =
    ((ns ≡ namespace) × (k ≡ kind) × (f ≡ form) × (p ≡ parameter)) ⊎ HasRow namespace kind form parameter rows
HasRow namespace kind form parameter [] = ⊥
HasRow namespace kind form parameter (_ ∷ []) = ⊥
HasRow namespace kind form parameter (_ ∷ _ ∷ []) = ⊥
HasRow namespace kind form parameter (_ ∷ _ ∷ _ ∷ []) = ⊥
