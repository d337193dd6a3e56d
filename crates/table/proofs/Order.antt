-- The rows of an accepted table in their order, by their numbers: each is one of the table's, each of the table's is one of them, and they rise. Assumes nothing.
use Rattle.std.specs.Prelude.{Ok}
use mathlib.Core.Path.{◌≡◌, refl, ◌∙◌}
use mathlib.Core.List.{List, ◌∷◌}
use mathlib.Core.Logic.{inl, inr}
use Prim.Native.Nat.{ℕ, zero, suc, ◌+◌, ◌*◌, ◌≤◌, ◌<◌}
use native.Mathlib.Omega.{arith}
use borrow.Author.Tests.{ltb-true, ltb-false, eqb-true, eqb-false}
use lib.ListN.{get_or}
use Rattle.laws.proofs.Test.{pick_all}
use Rattle.table.specs.Search.{rows_of, namespace_at, kind_at, side_of}
use Rattle.table.specs.Table.{HasRow, rising}
use Rattle.table.specs.declared.Side.{Side}
use Rattle.table.proofs.Rows.{Rows, few, more, no_row, accepted_row, first}

-- What a look shows, in numbers.
abbrev pub Stands : (ns k namespace kind : ℕ) → Side → Type 0
Stands ns k namespace kind Side.Before = (ns ≤ namespace) × (namespace ≤ ns → k < kind)
Stands ns k namespace kind Side.Behind = (namespace ≤ ns) × (ns ≤ namespace → kind < k)
Stands ns k namespace kind Side.Here = (ns ≡ namespace) × (k ≡ kind)

pub stands : (ns k namespace kind : ℕ) (side : Side) → side_of ns k namespace kind ≡ side → Stands ns k namespace kind side
unfolding side_of
stands ns k namespace kind side e =
    let S = Stands ns k namespace kind in
    rw (← e)
    (pick_all S _ _ _
    (λ same.
    let here = eqb-true ns namespace same in
    pick_all S _ _ _ (λ a. (omega arith, λ _. ltb-true k kind a)) λ a.
    pick_all S _ _ _ (λ b. (omega arith, λ _. ltb-true kind k b)) λ b.
    (here, omega (arith, ltb-false k kind a, ltb-false kind k b)))
    (λ other.
    let apart = eqb-false ns namespace other in
    pick_all S _ _ _ (λ a. let lower = ltb-true ns namespace a in (omega arith, λ same. absurd (omega arith)))
    (λ a. (ltb-false ns namespace a, λ same. absurd (apart (omega (arith, ltb-false ns namespace a)))))))

-- a number of a row behind the first one
behind_first : (ns k f p : ℕ) (t : List ℕ) (a b : ℕ) → a ≡ suc (suc (suc (suc b))) → get_or (ns ∷ k ∷ f ∷ p ∷ t) a 0 ≡ get_or t b 0
behind_first ns k f p t a b e = rw e

-- a row is one of the table's by its numbers
same_row : {ns k f p ns' k' f' p' : ℕ} (t : List ℕ) → ns ≡ ns' → k ≡ k' → f ≡ f' → p ≡ p' → HasRow ns' k' f' p' t → HasRow ns k f p t
same_row t a b c d h = rw (a, b, c, d) h

pub in_table : {t : List ℕ} → Rows t → (row : ℕ) → row < rows_of t →
    HasRow (namespace_at t row) (kind_at t row) (get_or t (row * 4 + 2) 0) (get_or t (row * 4 + 3) 0) t
unfolding HasRow
in_table (few t h) row less = absurd (omega arith)
in_table (more ns k f p t rows) zero less = inl (refl, refl, refl, refl)
in_table (more ns k f p t rows) (suc row) less =
    inr
    (same_row _
    (behind_first ns k f p t (suc row * 4) (row * 4) (omega arith))
    (behind_first ns k f p t (suc row * 4 + 1) (row * 4 + 1) (omega arith))
    (behind_first ns k f p t (suc row * 4 + 2) (row * 4 + 2) (omega arith))
    (behind_first ns k f p t (suc row * 4 + 3) (row * 4 + 3) (omega arith))
    (in_table rows row (omega arith)))

-- where a row of the table's stands
pub record At (t : List ℕ) (namespace kind : ℕ) : Type 0 where
  pub row : ℕ
  pub less : row < rows_of t
  pub ns : namespace_at t row ≡ namespace
  pub k : kind_at t row ≡ kind

pub at_row : (namespace kind form parameter : ℕ) {t : List ℕ} → Rows t → HasRow namespace kind form parameter t → At t namespace kind
unfolding HasRow
at_row namespace kind form parameter (few t h) here = absurd (no_row namespace kind form parameter t h here)
at_row namespace kind form parameter (more ns k f p t rows) (inl here) = record { row = 0; less = omega arith; ns = here.0; k = here.1 }
at_row namespace kind form parameter (more ns k f p t rows) (inr later) =
    let a = at_row namespace kind form parameter rows later in
    record {
      row = suc a.row;
      less = omega (arith, a.less);
      ns = behind_first ns k f p t (suc a.row * 4) (a.row * 4) (omega arith) ∙ a.ns;
      k = behind_first ns k f p t (suc a.row * 4 + 1) (a.row * 4 + 1) (omega arith) ∙ a.k;
    }

-- Each row comes before those behind it.
pub rise : (least from : ℕ) {t : List ℕ} → Rows t → rising least from t ≡ Ok tt → (i j : ℕ) → i < j → j < rows_of t →
    Stands (namespace_at t i) (kind_at t i) (namespace_at t j) (kind_at t j) Side.Before
rise least from (few t h) up i j less end = absurd (omega arith)
rise least from (more ns k f p t rows) up i zero less end = absurd (omega arith)
rise least from (more ns k f p t rows) up zero (suc j) less end =
    let a = accepted_row _ _ _ _ ns (suc k) rows (first least from ns k f p t up).rest (in_table rows j (omega arith)) in
    rw (behind_first ns k f p t (suc j * 4) (j * 4) (omega arith), behind_first ns k f p t (suc j * 4 + 1) (j * 4 + 1) (omega arith)) (a.high, a.above)
rise least from (more ns k f p t rows) up (suc i) (suc j) less end =
    rw (
      behind_first ns k f p t (suc j * 4) (j * 4) (omega arith),
      behind_first ns k f p t (suc j * 4 + 1) (j * 4 + 1) (omega arith),
      behind_first ns k f p t (suc i * 4) (i * 4) (omega arith),
      behind_first ns k f p t (suc i * 4 + 1) (i * 4 + 1) (omega arith),
    )
    (rise ns (suc k) rows (first least from ns k f p t up).rest i j (omega arith) (omega arith))
