-- Searches computed from the definition: what is found, the next row, and the rows looked at. Assumes nothing.
use Rattle.std.specs.Prelude.{Option, None}
use mathlib.Core.List.{List, [], ◌∷◌, map}
use mathlib.Core.Path.{◌≡◌, refl}
use Prim.Native.Nat.{ℕ, zero, suc, ◌+◌}
use Rattle.laws.specs.Test.{pick}
use Rattle.table.specs.Search.{Searched, side_of, turned, halving, searching}
use Rattle.table.specs.Table.{known}
use Rattle.table.specs.declared.Known.{Known}

-- so many rows of a namespace, each type two above the last
pub even : (count namespace kind : ℕ) → List ℕ
even zero ns k = []
even (suc n) ns k = ns ∷ k ∷ 1 ∷ k ∷ even n ns (k + 2)

abbrev pub searched : Option Known → (next : ℕ) → List ℕ → Searched
searched f n l = record { found = f; next = n; looked = l }

-- 16 rows, the types 0 to 30 of namespace 5, so five looks at most: from a row on, a namespace and a type
pub searches :
    let lines : List (ℕ × ℕ × ℕ × Searched) =
    -- at the row itself, and between it and the one before
    (3, 5, 6, searched (known 1 6) 4 (3 ∷ []))
    ∷ (3, 5, 5, searched None 3 (3 ∷ []))
    -- the last row, and a type behind it
    ∷ (0, 5, 30, searched (known 1 30) 16 (0 ∷ 8 ∷ 12 ∷ 14 ∷ 15 ∷ []))
    ∷ (0, 5, 31, searched None 16 (0 ∷ 8 ∷ 12 ∷ 14 ∷ 15 ∷ []))
    -- the row behind the first, and a type between the two
    ∷ (0, 5, 2, searched (known 1 2) 2 (0 ∷ 8 ∷ 4 ∷ 2 ∷ 1 ∷ []))
    ∷ (0, 5, 1, searched None 1 (0 ∷ 8 ∷ 4 ∷ 2 ∷ 1 ∷ []))
    -- the middle one of the rows behind row 7
    ∷ (7, 5, 24, searched (known 1 24) 13 (7 ∷ 12 ∷ []))
    -- a lower namespace, and a higher one
    ∷ (0, 4, 30, searched None 0 (0 ∷ []))
    ∷ (0, 6, 0, searched None 16 (0 ∷ 8 ∷ 12 ∷ 14 ∷ 15 ∷ []))
    -- behind all rows
    ∷ (16, 5, 30, searched None 16 [])
    ∷ [] in
    map (λ l. searching (even 16 5 0) l.0 l.1 l.2) lines ≡ map (λ l. l.3) lines
unfolding pick side_of turned halving searching even
searches = refl

-- no rows at all
pub nothing : searching [] 0 0 0 ≡ searched None 0 []
unfolding pick searching
nothing = refl

-- rows that do not rise, which no table has: what halving finds there
pub unsorted : searching (0 ∷ 9 ∷ 0 ∷ 0 ∷ 0 ∷ 3 ∷ 0 ∷ 0 ∷ []) 0 0 3 ≡ searched None 0 (0 ∷ [])
unfolding pick side_of turned searching
unsorted = refl
