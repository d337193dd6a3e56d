-- An earlier one stays.
use Rattle.std.specs.Prelude.{is_some, not, Some, None}
use Rattle.std.proofs.Common.{◌≡◌, ℕ, List, [], ◌∷◌, ◌++◌, false, true, Option, refl, sym, ap, ◌∙◌}
use Rattle.field.specs.Fields.{first_of}
use Rattle.field.specs.declared.Field.{Field}
use Rattle.field.specs.declared.First.{First}
use Rattle.field.proofs.SurveyLaws.{first_stays, first_here, first_still}
use Rattle.field.proofs.first_of.Goals as goal
use Rattle.field.proofs.first_of.Goals.{else-is_none-via-then-is_none+else-is_usable, else-is_none-via-else-is_none}

nothing : (o : Option First) → is_some o ≡ false → o ≡ None
nothing None h = refl
nothing (Some x) h = cc

stays : (kind : ℕ) (fs : List Field) (f : Field) (o : Option First) → is_some o ≡ true → o ≡ first_of kind fs → o ≡ first_of kind (fs ++ (f ∷ []))
stays kind fs f None h e = cc
stays kind fs f (Some x) h e = sym (first_stays kind fs (f ∷ []) x (sym e))

pub returns-then-is_usable : goal.returns-then-is_usable
returns-then-is_usable c fields row h =
    rw row (sym (first_here c.args.kind fields c.args.f (sym h ∙ nothing _ (c.is_none.ensures ∙ ap not c.if-is_none.true)) (sym c.is_usable.ensures ∙ c.if-is_usable.true)))

pub returns : goal.returns
returns c fields row h =
    elim c.else-is_none.branch [
      | else-is_none-via-then-is_none+else-is_usable w ↦ h ∙ sym (first_still c.args.kind fields c.args.f (sym w.is_usable.ensures ∙ w.if-is_usable.false))
      | else-is_none-via-else-is_none w ↦ stays c.args.kind fields c.args.f _ (c.is_none.ensures ∙ ap not w.if-is_none.false) h
    ]
