-- A search looks at nine rows at most, and finds what an accepted table knows: document 02, (ii). Assumes nothing.
use Rattle.std.specs.Prelude.{Ok}
use mathlib.Core.Path.{◌≡◌}
use mathlib.Core.List.{List}
use Prim.Native.Nat.{ℕ, zero, suc, ◌+◌, ◌*◌, ◌-◌, ◌^◌, ◌≤◌, ◌<◌}
use native.Mathlib.Nat.{pow-suc}
use native.Mathlib.Omega.{arith}
use borrow.Author.Tests.{ltb-true}
use lib.ListN.{length}
use lib.Pow.{pow_pos}
use Rattle.laws.proofs.Test.{pick_all}
use Rattle.table.specs.Search.{rows_of, Searched, behind_look, middle, halving, searching, Cursor}
use Rattle.table.specs.Table.{checking, lookup}
use Rattle.table.proofs.Cursor.{cursor_start, cursor_found, cursor_next}
use Rattle.table.proofs.Searching.{turned_all}

abbrev looks_of : Searched → ℕ
looks_of s = length s.looked

-- fewer than 2^n rows are halved in n looks
halving_looks : (t : List ℕ) (namespace kind n count low high : ℕ) → high - low < 2 ^ n → looks_of (halving t namespace kind count low high) ≤ n
unfolding halving
halving_looks t namespace kind n zero low high h = omega arith
halving_looks t namespace kind zero (suc c) low high h =
    pick_all {A = Searched} (λ s. looks_of s ≤ 0) _ _ _ (λ yes. absurd (omega (arith, ltb-true low high yes))) (λ _. omega arith)
halving_looks t namespace kind (suc n) (suc c) low high h =
    let two : 2 ^ suc n ≡ 2 ^ n * 2 = pow-suc 2 n in
    pick_all {A = Searched} (λ s. looks_of s ≤ suc n) _ _ _
    (λ yes.
    let less = ltb-true low high yes in
    turned_all (λ s. looks_of (behind_look (middle low high) s) ≤ suc n) _ _ _ _
    (λ _. omega arith)
    (λ _. omega (arith, halving_looks t namespace kind n c (middle low high + 1) high (omega arith)))
    (λ _. omega (arith, halving_looks t namespace kind n c low (middle low high) (omega arith))))
    (λ _. omega arith)

-- Among 2^n rows a search looks at n + 1 at most, from whichever row on and for whichever type.
pub few_looks : (t : List ℕ) (n : ℕ) → rows_of t ≤ 2 ^ n → (from namespace kind : ℕ) → length (searching t from namespace kind).looked ≤ suc n
unfolding searching
few_looks t n h from namespace kind =
    pick_all {A = Searched} (λ s. looks_of s ≤ suc n) _ _ _
    (λ _.
    turned_all (λ s. looks_of (behind_look from s) ≤ suc n) _ _ _ _
    (λ _. omega arith)
    (λ _. omega (arith, halving_looks t namespace kind n (rows_of t) (from + 1) (rows_of t) (omega (arith, pow_pos n))))
    (λ _. omega arith))
    (λ _. omega arith)

-- Among 256 rows, the most that a table has, it looks at nine at most.
pub nine_looks : (t : List ℕ) → rows_of t ≤ 256 → (from namespace kind : ℕ) → length (searching t from namespace kind).looked ≤ 9
nine_looks t h = few_looks t 8 h

-- In an accepted table a search from the first row on finds what the table knows.
pub found_first : (t : List ℕ) → checking t ≡ Ok tt → (namespace kind : ℕ) → (searching t 0 namespace kind).found ≡ lookup t namespace kind
found_first t fine namespace kind = cursor_found t namespace 0 0 (cursor_start t namespace) kind (omega arith) fine

-- So does one from any row on before which all rows come before the type.
pub found_from : (t : List ℕ) → checking t ≡ Ok tt → (from namespace kind : ℕ) → Cursor t namespace kind from →
    (searching t from namespace kind).found ≡ lookup t namespace kind
found_from t fine from namespace kind at = cursor_found t namespace kind from at kind (omega arith) fine

-- The row that it tells is one from which to search for every higher type.
pub next_from : (t : List ℕ) → checking t ≡ Ok tt → (from namespace kind : ℕ) → Cursor t namespace kind from →
    Cursor t namespace (suc kind) (searching t from namespace kind).next
next_from t fine from namespace kind at = cursor_next t namespace kind from at kind (omega arith) fine
