-- What the code and the theorems use of the definitions of an older and a newer table: an equation for each case. Assumes nothing.
use Rattle.std.specs.Prelude.{Ok, Err, Option, None, Some}
use mathlib.Core.Path.{◌≡◌, refl, ◌∙◌}
use mathlib.Core.Bool.{true, false, and-eq-true_iff}
use mathlib.Core.List.{List, [], ◌∷◌}
use mathlib.Core.Logic.{inl, inr, ⊎_elim}
use Prim.Native.Nat.{ℕ, suc, ◌<◌}
use native.Mathlib.Omega.{arith}
use lib.Dec.{eqb}
use lib.ListN.{length}
use borrow.Author.Tests.{eq-eqb, eqb-true}
use Rattle.laws.proofs.Test.{pick_yes, pick_no, split}
use Rattle.answer.specs.declared.Refusal.{Refusal}
use Rattle.table.specs.Table.{HasRow, checking, known, lookup}
use Rattle.table.specs.declared.Known.{Known}
use Rattle.table.proofs.Rows.{Rows, few, more, no_row}
use Rattle.table_extension.specs.Extension.{known_as, first_missing, extension, extending}
use Rattle.table_extension.specs.declared.Comparison.TheVariants as Comparison

-- A known row against the one that is asked for.
pub known_as_means : (form parameter : ℕ) (x : Option Known) → known_as form parameter x ≡ true → x ≡ known form parameter
unfolding known_as
known_as_means form parameter (Some k) h =
    let both = (and-eq-true_iff (eqb k.form form) (eqb k.parameter parameter)).0 h in
    rw (← (eqb-true k.form form both.0), ← (eqb-true k.parameter parameter both.1))
known_as_means form parameter None h = absurd (let z : ◌≡◌ {A = ℕ} 0 1 = cc in omega arith)

pub as_known : (form parameter : ℕ) (x : Option Known) → x ≡ known form parameter → known_as form parameter x ≡ true
unfolding known_as
as_known form parameter x h = rw (h, eq-eqb form form refl, eq-eqb parameter parameter refl)

-- The older table's rows in a newer one.
module _ (newer : List ℕ) (i ns k f p : ℕ) (rows : List ℕ) where
  pub missing_here : known_as f p (lookup newer ns k) ≡ false → first_missing newer i (ns ∷ k ∷ f ∷ p ∷ rows) ≡ Some i
  unfolding first_missing
  missing_here h = pick_no _ _ _ h

  pub missing_later : known_as f p (lookup newer ns k) ≡ true → first_missing newer i (ns ∷ k ∷ f ∷ p ∷ rows) ≡ first_missing newer (suc i) rows
  unfolding first_missing
  missing_later h = pick_yes _ _ _ h

pub missing_few : (newer : List ℕ) (i : ℕ) (t : List ℕ) → length t < 4 → first_missing newer i t ≡ None
unfolding first_missing
missing_few newer i [] h = refl
missing_few newer i (_ ∷ []) h = refl
missing_few newer i (_ ∷ _ ∷ []) h = refl
missing_few newer i (_ ∷ _ ∷ _ ∷ []) h = refl
missing_few newer i (_ ∷ _ ∷ _ ∷ _ ∷ rows) h = absurd (omega arith)

-- where no row is missing, each is known
pub all_known : (newer : List ℕ) (i : ℕ) {older : List ℕ} → Rows older → first_missing newer i older ≡ None →
    (ns k f p : ℕ) → HasRow ns k f p older → lookup newer ns k ≡ known f p
unfolding HasRow first_missing
all_known newer i (few t h) e ns k f p here = absurd (no_row ns k f p t h here)
all_known newer i (more m j g q t rows) e ns k f p here =
    split (known_as g q (lookup newer m j)) _ _ _ e
    (λ is rest. ⊎_elim (λ w. rw (← w.0, ← w.1, ← w.2, ← w.3) (known_as_means g q (lookup newer m j) is)) (all_known newer (suc i) rows rest ns k f p) here)
    (λ _ lacks. absurd (let z : ◌≡◌ {A = ℕ} 0 1 = cc in omega arith))

-- where each row is known, none is missing
pub none_missing : (newer : List ℕ) (i : ℕ) {older : List ℕ} → Rows older →
    ((ns k f p : ℕ) → HasRow ns k f p older → lookup newer ns k ≡ known f p) → first_missing newer i older ≡ None
unfolding HasRow
none_missing newer i (few t h) is = missing_few newer i t h
none_missing newer i (more ns k f p t rows) is =
    missing_later newer i ns k f p t (as_known f p _ (is ns k f p (inl (refl, refl, refl, refl))))
    ∙ none_missing newer (suc i) rows (λ m j g q h. is m j g q (inr h))

-- Both tables, by what their checks answer.
module _ (older newer : List ℕ) where
  pub older_refused : (r : Refusal) → checking older ≡ Err r → extending older newer ≡ Comparison.OlderRefused r
  unfolding extending extension
  older_refused r e = rw e

  pub newer_refused : (r : Refusal) → checking older ≡ Ok tt → checking newer ≡ Err r → extending older newer ≡ Comparison.NewerRefused r
  unfolding extending extension
  newer_refused r e d = rw (e, d)

  pub both_accepted : checking older ≡ Ok tt → checking newer ≡ Ok tt →
      extending older newer ≡ extension (Ok tt) (Ok tt) (first_missing newer 0 older)
  unfolding extending
  both_accepted e d = rw (e, d)
