-- No byte is above 31 where all are groups, and there alone. Assumes nothing.
use mathlib.Core.List.{List, [], ◌∷◌}
use Prim.Native.Nat.{ℕ, zero, suc, ◌≤◌, ◌<◌}
use mathlib.Core.Bool.{false}
use mathlib.Core.Path.{◌≡◌}
use native.Mathlib.Nat.{le_of_suc-le-suc, not-suc-le-zero}
use lib.Dec.{lit<}
use lib.ListN.{length, get_or}
use borrow.Author.Tests.{leb-false, lt-leb}
use Rattle.bech32.specs.Groups.{AreGroups}
use Rattle.invoice_text.specs.Text.{first_where, has, is_above31}
use Rattle.invoice_text.proofs.FirstWhere.{has_none}
use Rattle.laws.proofs.Test.{pick_all}

-- where no element is above 31, neither the first nor one behind it is
next_group : (g : ℕ) (s : List ℕ) → length (g ∷ s) ≤ first_where is_above31 (g ∷ s) → (g < 32) × (length s ≤ first_where is_above31 s)
unfolding first_where
next_group g s =
    pick_all (λ (n : ℕ). suc (length s) ≤ n → (g < 32) × (length s ≤ first_where is_above31 s)) (is_above31 g) 0 (suc (first_where is_above31 s))
    (λ _ h. absurd (not-suc-le-zero h))
    (λ t h. (leb-false 32 g t, le_of_suc-le-suc h))

-- so all are groups
pub all_groups : (s : List ℕ) → length s ≤ first_where is_above31 s → AreGroups s
all_groups [] h k = lit< tt
all_groups (g ∷ s) h zero = (next_group g s h).0
all_groups (g ∷ s) h (suc k) = all_groups s (next_group g s h).1 k

-- and of groups none is above
pub none_above : (s : List ℕ) → AreGroups s → has is_above31 s ≡ false
none_above s h = has_none is_above31 s 0 (λ k _. lt-leb 32 (get_or s k 0) (h k))
