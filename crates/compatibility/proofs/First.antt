-- The records of a list with a property, and the first of them. Assumes nothing.
use mathlib.Core.List.Memᴰ
use mathlib.Core.List.{List, [], ◌∷◌, ◌++◌, append_assoc}
use mathlib.Core.Logic.{⊎_elim}
use mathlib.Core.Path.{refl, sym, ap, subst, ◌∙◌}
use Rattle.stream.specs.Stream.{Record}
use Rattle.compatibility.specs.Demand.{Some, First}

-- no record of a list
abbrev pub None : (Record → Type 0) → List Record → Type 0
None P l = Some P l → ⊥

module _ (P : Record → Type 0) where
  -- none of an empty list, of one record, of two lists
  pub none_empty : None P []
  none_empty s = Memᴰ.not-nil s.1

  pub none_one : (e : Record) → (P e → ⊥) → None P (e ∷ [])
  none_one e h s = h (subst P (Memᴰ.eq_of_singleton s.1) s.2)

  pub none_append : (a b : List Record) → None P a → None P b → None P (a ++ b)
  none_append a b left right s = ⊎_elim (λ m. left (s.0, m, s.2)) (λ m. right (s.0, m, s.2)) (Memᴰ.append_cases a s.1)

  -- the first record: at the front, in the left list, or in the right behind none
  pub first_here : (e : Record) (l : List Record) → P e → First P (e ∷ l) e
  first_here e l h = record { before = []; after = l; split = refl; none = none_empty; has = h }

  pub first_left : (a b : List Record) (e : Record) → First P a e → First P (a ++ b) e
  first_left a b e f =
      record { before = f.before; after = f.after ++ b; split = rw f.split (append_assoc f.before (e ∷ f.after) b); none = f.none; has = f.has }

  pub first_right : (a b : List Record) (e : Record) → None P a → First P b e → First P (a ++ b) e
  first_right a b e h f =
      record {
        before = a ++ f.before;
        after = f.after;
        split = ap {B = List Record} (λ (l : List Record). a ++ l) f.split ∙ sym (append_assoc a f.before (e ∷ f.after));
        none = none_append a f.before h f.none;
        has = f.has;
      }

  pub first_some : (l : List Record) (e : Record) → First P l e → Some P l
  first_some l e f = (e, rw f.split (Memᴰ.append_right f.before (Memᴰ.head refl)), f.has)
