-- What the code uses of the definition of a search: an equation for each way that a look goes. Assumes nothing.
use Rattle.std.specs.Prelude.{Option, None}
use mathlib.Core.Path.{◌≡◌, refl, ap, ◌∙◌}
use mathlib.Core.List.{List}
use Prim.Native.Nat.{ℕ, zero, suc, ◌+◌, ◌-◌, ◌≤◌, ◌<◌}
use native.Mathlib.Omega.{arith}
use lib.ListN.{length}
use borrow.Author.Tests.{lt-ltb, le-ltb}
use Rattle.laws.proofs.Test.{pick_yes, pick_no}
use Rattle.table.specs.Search.{rows_of, known_at, seen, Searched, ending, behind_look, turned, middle, halving, halving_behind, searching, counted}
use Rattle.table.specs.declared.Search.{Search}
use Rattle.table.specs.declared.Known.{Known}
use Rattle.table.specs.declared.Side.{Side}

-- what holds each way that a look goes
pub turned_all : (G : Searched → Type 0) (side : Side) (here before behind : Searched) →
    (side ≡ Side.Here → G here) → (side ≡ Side.Before → G before) → (side ≡ Side.Behind → G behind) → G (turned side here before behind)
unfolding turned
turned_all G Side.Here here before behind f g h = f refl
turned_all G Side.Before here before behind f g h = g refl
turned_all G Side.Behind here before behind f g h = h refl

-- The first look.
module _ (t : List ℕ) (from namespace kind : ℕ) where
  pub searching_none : rows_of t ≤ from → searching t from namespace kind ≡ ending None from
  unfolding searching
  searching_none h = pick_no _ _ _ (le-ltb _ _ h)

  pub searching_look : (side : Side) → from < rows_of t → seen t from namespace kind ≡ side →
      searching t from namespace kind ≡
      behind_look from (turned side (ending (known_at t from) (from + 1)) (halving_behind t from namespace kind) (ending None from))
  unfolding searching
  searching_look side h e = pick_yes _ _ _ (lt-ltb _ _ h) ∙ rw e

-- what is told of a search, and of one behind so many looks
abbrev pub told : Option Known → (next looks : ℕ) → Search
told found next looks = record { found = found; next = next; looks = looks }

abbrev pub after : (looks : ℕ) → Searched → Search
after looks s = told s.found s.next (looks + length s.looked)

-- The halving.
module _ (t : List ℕ) (namespace kind : ℕ) where
  halving_none : (n low high : ℕ) → high ≤ low → halving t namespace kind n low high ≡ ending None low
  unfolding halving
  halving_none zero low high h = refl
  halving_none (suc n) low high h = pick_no _ _ _ (le-ltb _ _ h)

  -- Behind so many looks the halving is left of the rows from `low` up to `high`.
  pub record Left (whole : Search) (looks low high : ℕ) : Type 0 where
    pub count : ℕ
    pub enough : high - low ≤ count
    pub same : whole ≡ after looks (halving t namespace kind count low high)

  pub left_all : (from : ℕ) → Left (counted (behind_look from (halving_behind t from namespace kind))) 1 (from + 1) (rows_of t)
  left_all from = record { count = rows_of t; enough = omega arith; same = ap (told _ _) (omega arith) }

  pub left_none : {whole : Search} {looks low high : ℕ} → Left whole looks low high → high ≤ low → whole ≡ told None low looks
  left_none {whole} {looks} {low} {high} l h = l.same ∙ rw (halving_none l.count low high h) (ap (told _ _) (omega arith))

  module _ {whole : Search} {looks low high : ℕ} (l : Left whole looks low high) (more : low < high) where
    -- how it goes on behind a look at the middle row
    abbrev on : Side → (count : ℕ) → Searched
    on side n =
        turned side (ending (known_at t (middle low high)) (middle low high + 1)) (halving t namespace kind n (middle low high + 1) high)
        (halving t namespace kind n low (middle low high))

    looked : (side : Side) → seen t (middle low high) namespace kind ≡ side → (n : ℕ) × (high - low ≤ suc n) × (whole ≡ after (looks + 1) (on side n))
    unfolding halving
    looked side e = of l.count l.enough l.same
      where
        of : (count : ℕ) → high - low ≤ count → whole ≡ after looks (halving t namespace kind count low high) →
            (n : ℕ) × (high - low ≤ suc n) × (whole ≡ after (looks + 1) (on side n))
        of zero few same = absurd (omega arith)
        of (suc n) few same = (n, few, same ∙ rw (pick_yes _ _ _ (lt-ltb _ _ more), e) (ap (told _ _) (omega arith)))

    pub left_here : seen t (middle low high) namespace kind ≡ Side.Here → whole ≡ told (known_at t (middle low high)) (middle low high + 1) (looks + 1)
    unfolding turned
    left_here e = (looked Side.Here e).2 ∙ ap (told _ _) (omega arith)

    pub left_before : seen t (middle low high) namespace kind ≡ Side.Before → Left whole (looks + 1) (middle low high + 1) high
    unfolding turned
    left_before e = let x = looked Side.Before e in record { count = x.0; enough = omega (arith, x.1); same = x.2 }

    pub left_behind : seen t (middle low high) namespace kind ≡ Side.Behind → Left whole (looks + 1) low (middle low high)
    unfolding turned
    left_behind e = let x = looked Side.Behind e in record { count = x.0; enough = omega (arith, x.1); same = x.2 }
