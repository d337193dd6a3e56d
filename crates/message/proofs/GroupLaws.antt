-- The group of a message type: an equation for each range. Assumes nothing.
use mathlib.Core.Path.{◌≡◌, ◌∙◌}
use Prim.Native.Nat.{ℕ, ◌≤◌, ◌<◌}
use native.Mathlib.Omega.{arith}
use borrow.Author.Tests.{le-leb, lt-leb}
use Rattle.laws.proofs.Test.{pick_yes, pick_no}
use Rattle.message.specs.Groups.{type_group}

module _ (k : ℕ) where
  pub group_1 : k ≤ 31 → type_group k ≡ 1
  unfolding type_group
  group_1 h = pick_yes _ _ _ (le-leb k 31 h)

  pub group_2 : 31 < k → k ≤ 127 → type_group k ≡ 2
  unfolding type_group
  group_2 l h = pick_no _ _ _ (lt-leb k 31 l) ∙ pick_yes _ _ _ (le-leb k 127 h)

  pub group_3 : 127 < k → k ≤ 255 → type_group k ≡ 3
  unfolding type_group
  group_3 l h = pick_no _ _ _ (lt-leb k 31 (omega arith)) ∙ pick_no _ _ _ (lt-leb k 127 l) ∙ pick_yes _ _ _ (le-leb k 255 h)

  pub group_4 : 255 < k → k ≤ 511 → type_group k ≡ 4
  unfolding type_group
  group_4 l h =
      pick_no _ _ _ (lt-leb k 31 (omega arith)) ∙ pick_no _ _ _ (lt-leb k 127 (omega arith)) ∙ pick_no _ _ _ (lt-leb k 255 l)
      ∙ pick_yes _ _ _ (le-leb k 511 h)

  pub group_5 : 32768 ≤ k → type_group k ≡ 5
  unfolding type_group
  group_5 h =
      pick_no _ _ _ (lt-leb k 31 (omega arith)) ∙ pick_no _ _ _ (lt-leb k 127 (omega arith)) ∙ pick_no _ _ _ (lt-leb k 255 (omega arith))
      ∙ pick_no _ _ _ (lt-leb k 511 (omega arith)) ∙ pick_yes _ _ _ (le-leb 32768 k h)

  pub group_0 : 511 < k → k < 32768 → type_group k ≡ 0
  unfolding type_group
  group_0 l h =
      pick_no _ _ _ (lt-leb k 31 (omega arith)) ∙ pick_no _ _ _ (lt-leb k 127 (omega arith)) ∙ pick_no _ _ _ (lt-leb k 255 (omega arith))
      ∙ pick_no _ _ _ (lt-leb k 511 l) ∙ pick_no _ _ _ (lt-leb 32768 k h)
