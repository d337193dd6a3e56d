-- What is entered in rows is kept: a sum over rows with records entered is that over the rows and that over the records. Assumes nothing.
use Rattle.std.proofs.Common.{◌≡◌, ℕ, ◌+◌, ◌^◌, ◌<◌, ◌≤◌, Bool, true, false, eqb, List, [], ◌∷◌, sym, refl, ◌∙◌, add-zero, mod-eq_of_lt, zero-add, arith}
use Rattle.laws.specs.Test.{pick}
use Rattle.pairs.specs.declared.Row.{Row}
use Rattle.pairs.specs.Rows.{pair_of, plus, joined, entering, enters}
use Rattle.month.specs.Run.{sum_of, of_pair, bytes_of}
use Rattle.pairs.proofs.Entering.{enter_none, enter_past, enter_same, enter_before, enters_none, enters_next}
use Rattle.pairs.proofs.Order.{by_pair}

pub plus_fits : (a b : ℕ) → a + b < 2 ^ 64 → plus a b ≡ a + b
plus_fits a b h = mod-eq_of_lt h

-- A number of a row that adds up where two rows of a pair are joined.
module _ (f : Row → ℕ) (adds : (r m : Row) → pair_of r ≡ pair_of m → f r + f m < 2 ^ 64 → f (joined r m) ≡ f r + f m) where
  enter_sum : (m : Row) (rs : List Row) → sum_of f rs + f m < 2 ^ 64 → sum_of f (entering m rs) ≡ sum_of f rs + f m
  unfolding sum_of
  enter_sum m [] h = rw (enter_none m, sum_of) (omega arith)
  enter_sum m (r ∷ rs) h =
      by_pair (pair_of r) (pair_of m)
      (λ l. rw (enter_past m r rs l, sum_of, enter_sum m rs (omega arith)) (omega arith))
      (λ e. rw (enter_same m r rs e, sum_of, adds r m e (omega arith)) (omega arith))
      (λ l. rw (enter_before m r rs l, sum_of) (omega arith))

  pub enters_sum : (ms rs : List Row) → sum_of f rs + sum_of f ms < 2 ^ 64 → sum_of f (enters rs ms) ≡ sum_of f rs + sum_of f ms
  unfolding sum_of
  enters_sum [] rs h = rw (enters_none rs) (sym (add-zero (sum_of f rs)))
  enters_sum (m ∷ ms) rs h =
      let e = enter_sum m rs (omega arith) in
      rw (enters_next rs m ms) (enters_sum ms (entering m rs) (rw e (omega arith)) ∙ rw e (omega arith))

-- all bytes of a row are such a number
pub bytes_add : (r m : Row) → pair_of r ≡ pair_of m → bytes_of r + bytes_of m < 2 ^ 64 → bytes_of (joined r m) ≡ bytes_of r + bytes_of m
bytes_add r m same h =
    rw (plus_fits r.kept m.kept (omega arith), plus_fits r.skipped m.skipped (omega arith), plus_fits r.frame m.frame (omega arith)) (omega arith)

-- The numbers of one pair, where no record has more of them than bytes.
unfoldable pub AreFramed : List Row → Type 0
AreFramed [] = Unit {0}
AreFramed (m ∷ ms) = (m.known + m.passed ≤ m.frame) × AreFramed ms

pick_adds : (b : Bool) (x y z : ℕ) → (y + z < 2 ^ 64 → x ≡ y + z) → pick b y 0 + pick b z 0 < 2 ^ 64 → pick b x 0 ≡ pick b y 0 + pick b z 0
unfolding pick
pick_adds true x y z adds h = adds h
pick_adds false x y z adds h = refl

pick_most : (b : Bool) (x y : ℕ) → x ≤ y → pick b x 0 ≤ y
unfolding pick
pick_most true x y h = h
pick_most false x y h = omega arith

module _ (ms : List Row) (framed : AreFramed ms) (fits : sum_of bytes_of ms < 2 ^ 64) (f : Row → ℕ)
    (adds : (r m : Row) → f r + f m < 2 ^ 64 → f (joined r m) ≡ f r + f m) (most : (m : Row) → m.known + m.passed ≤ m.frame → f m ≤ bytes_of m)
    (pair : ℕ) where
  abbrev mine : Row → ℕ
  mine r = pick (eqb (pair_of r) pair) (f r) 0

  mine_adds : (r m : Row) → pair_of r ≡ pair_of m → mine r + mine m < 2 ^ 64 → mine (joined r m) ≡ mine r + mine m
  mine_adds r m same h =
      rw (← same) (pick_adds (eqb (pair_of r) pair) (f (joined r m)) (f r) (f m) (adds r m) (rw (← same) at h))

  sum_most : (xs : List Row) → AreFramed xs → sum_of mine xs ≤ sum_of bytes_of xs
  unfolding sum_of AreFramed
  sum_most [] h = omega arith
  sum_most (x ∷ xs) h = omega (arith, pick_most (eqb (pair_of x) pair) (f x) (bytes_of x) (most x h.0), sum_most xs h.1)

  pub pair_exact : of_pair f pair (enters [] ms) ≡ of_pair f pair ms
  unfolding sum_of
  pair_exact = enters_sum mine mine_adds ms [] (omega (arith, sum_most ms framed)) ∙ zero-add (sum_of mine ms)
