-- The sum of a column over one row more. Assumes nothing.
use Rattle.std.proofs.Common.{◌≡◌, ℕ, zero, suc, ◌+◌, ◌*◌, ◌%◌, ◌^◌, List, get_or, drop, ap, ◌∙◌, add-one, arith, get_or-drop}
use native.Mathlib.Nat.{mod-add-mod}
use Rattle.month_end.specs.Program.{column}

pub column_more : (place i : ℕ) (l : List ℕ) → column place (suc i) l ≡ column place i l + get_or l (i * 7 + place) 0
unfolding column
column_more place zero l = omega (arith, ap (λ (k : ℕ). get_or l k 0) (let e : 0 * 7 + place ≡ place = omega arith in e))
column_more place (suc i) l =
    let next : get_or (drop 7 l) (i * 7 + place) 0 ≡ get_or l (suc i * 7 + place) 0 =
    get_or-drop 7 l (i * 7 + place) 0 ∙ ap (λ (k : ℕ). get_or l k 0) (omega arith) in
    omega (arith, column_more place i (drop 7 l), next)

-- a sum of 64 bits with one row more
pub sum_more : (place i sum : ℕ) (l : List ℕ) → sum ≡ column place i l % 2 ^ 64 →
    (sum + get_or l (i * 7 + place) 0) % 2 ^ 64 ≡ column place (i + 1) l % 2 ^ 64
sum_more place i sum l h =
    rw (h, add-one, column_more place i l) (mod-add-mod (column place i l) (2 ^ 64) (get_or l (i * 7 + place) 0))
