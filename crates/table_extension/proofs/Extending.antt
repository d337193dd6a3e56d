-- What an accepted table knows, and an older table in a newer one. Assumes nothing.
use Rattle.std.specs.Prelude.{Ok, Err, Some, Option, None}
use mathlib.Core.Path.{◌≡◌, refl, ◌∙◌}
use mathlib.Core.Bool.{true}
use mathlib.Core.List.{List}
use mathlib.Core.Logic.{◌↔◌}
use Prim.Native.Nat.{ℕ}
use native.Mathlib.Omega.{arith}
use Rattle.answer.specs.Answer.{Answer}
use Rattle.table.specs.Table.{HasRow, allowed, checking, known, lookup}
use Rattle.table.proofs.Rows.{in_rows, known_row, Accepted, accepted_row, rising_of}
use Rattle.table_extension.specs.Extension.{Holds, first_missing, extension, extending}
use Rattle.table_extension.specs.declared.Comparison.TheVariants as Comparison
use Rattle.table_extension.proofs.Laws.{both_accepted, all_known, none_missing}

module _ (t : List ℕ) (fine : checking t ≡ Ok tt) (namespace kind form parameter : ℕ) where
  -- one of its rows
  row : HasRow namespace kind form parameter t → Accepted namespace kind form parameter 0 0 t
  row h = accepted_row namespace kind form parameter 0 0 (in_rows t) (rising_of t fine) h

  -- A namespace and type has one row.
  pub rows_once : HasRow namespace kind form parameter t → lookup t namespace kind ≡ known form parameter
  rows_once h = (row h).once

  -- A known form is one of the list, with a parameter that it allows.
  pub known_allowed : lookup t namespace kind ≡ known form parameter → allowed form parameter ≡ true
  known_allowed h = (row (known_row namespace kind form parameter (in_rows t) h)).good

-- What an older table knows, an accepted newer table that holds its rows knows too.
pub extends_agrees : (older newer : List ℕ) → checking newer ≡ Ok tt → Holds newer older →
    (namespace kind form parameter : ℕ) → lookup older namespace kind ≡ known form parameter → lookup newer namespace kind ≡ known form parameter
unfolding Holds
extends_agrees older newer fine holds ns k f p h = rows_once newer fine ns k f p (holds ns k f p (known_row ns k f p (in_rows older) h))

-- the answer is yes where both tables are accepted and no row is missing
yes : (older newer : Answer (Unit {0})) (missing : Option ℕ) → extension older newer missing ≡ Comparison.Extends →
    (older ≡ Ok tt) × (newer ≡ Ok tt) × (missing ≡ None)
unfolding extension
yes (Err r) newer missing h = absurd (let z : ◌≡◌ {A = ℕ} 0 1 = cc in omega arith)
yes (Ok _) (Err r) missing h = absurd (let z : ◌≡◌ {A = ℕ} 0 1 = cc in omega arith)
yes (Ok _) (Ok _) (Some i) h = absurd (let z : ◌≡◌ {A = ℕ} 0 1 = cc in omega arith)
yes (Ok _) (Ok _) None h = (refl, refl, refl)

-- The answer of `extends` is yes just where both tables are accepted and the newer holds the older's rows.
pub extends_holds : (older newer : List ℕ) →
    (extending older newer ≡ Comparison.Extends) ↔ ((checking older ≡ Ok tt) × (checking newer ≡ Ok tt) × Holds newer older)
unfolding extending extension Holds
extends_holds older newer = (
  λ h.
      let a = yes (checking older) (checking newer) (first_missing newer 0 older) h in
      (a.0, a.1, λ ns k f p here. known_row ns k f p (in_rows newer) (all_known newer 0 (in_rows older) a.2 ns k f p here)),
  λ h.
      both_accepted older newer h.0 h.1
      ∙ rw (none_missing newer 0 (in_rows older) (λ ns k f p here. rows_once newer h.1 ns k f p (h.2 ns k f p here))),
)
