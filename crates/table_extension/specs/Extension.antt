-- An older and a newer table: whether the newer holds every row of the older unchanged (demand 3). Assumes nothing.
use Rattle.std.specs.Prelude.{Bool, false, ◌&&◌, List, [], ◌∷◌, ℕ, suc, eqb, Ok, Err, Option, None, Some}
use Rattle.laws.specs.Test.{pick}
use Rattle.answer.specs.Answer.{Answer}
use Rattle.table.specs.Table.{HasRow, checking, lookup}
use Rattle.table.specs.declared.Known.{Known}
use Rattle.table_extension.specs.declared.Comparison.{Comparison}

-- The newer table holds every row of the older unchanged.
unfoldable pub Holds : (newer older : List ℕ) → Type 0
Holds newer older = (namespace kind form parameter : ℕ) → HasRow namespace kind form parameter older → HasRow namespace kind form parameter newer

-- a table's row for a type has that form and parameter
unfoldable pub known_as : (form parameter : ℕ) → Option Known → Bool
known_as form parameter (Some k) = eqb k.form form && eqb k.parameter parameter
known_as form parameter None = false

-- The first of some rows, counted on from i, that a table lacks or has otherwise.
unfoldable pub first_missing : (newer : List ℕ) (i : ℕ) → List ℕ → Option ℕ
first_missing newer i (ns ∷ k ∷ f ∷ p ∷ rows) = pick (known_as f p (lookup newer ns k)) (first_missing newer (suc i) rows) (Some i)
first_missing newer i [] = None
first_missing newer i (_ ∷ []) = None
first_missing newer i (_ ∷ _ ∷ []) = None
first_missing newer i (_ ∷ _ ∷ _ ∷ []) = None

-- The answer of `extends`: the older table's refusal, the newer's, the older's first missing row, or yes.
unfoldable pub extension : Answer (Unit {0}) → Answer (Unit {0}) → Option ℕ → Comparison
extension (Err r) newer missing = Comparison.OlderRefused r
extension (Ok _) (Err r) missing = Comparison.NewerRefused r
extension (Ok _) (Ok _) (Some i) = Comparison.Lacks i
extension (Ok _) (Ok _) None = Comparison.Extends

unfoldable pub extending : (older newer : List ℕ) → Comparison
extending older newer = extension (checking older) (checking newer) (first_missing newer 0 older)
