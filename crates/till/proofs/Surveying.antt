-- A survey of the fields under way. Assumes nothing.
use Rattle.std.specs.Prelude.{Ok, Err}
use mathlib.Core.Bool.{Bool}
use mathlib.Core.List.{List, [], ◌∷◌, ◌++◌}
use mathlib.Core.Path.{◌≡◌, sym, ap, ◌∙◌}
use Prim.Native.Nat.{ℕ, ◌+◌, ◌*◌, ◌≤◌, ◌<◌}
use native.Mathlib.Nat.{add-zero}
use native.Mathlib.Omega.{arith}
use lib.ListN.{length, get_or, set, drop, replicate, length-append}
use lib.Seq.{get_or-drop}
use Rattle.answer.specs.declared.Refusal.{Refusal}
use Rattle.answer.proofs.Answer.{ensured}
use Rattle.bech32.specs.Groups.{AreGroups}
use Rattle.field.specs.Fields.{field, field_at, fields_in}
use Rattle.field.specs.declared.Field.{Field}
use Rattle.field.proofs.SurveyLaws.{Met, met_none, met_all, met_refused, met_next}
use Rattle.laws.specs.Test.{pick}
use Rattle.till.specs.Private.{is_unclean, Counts}
use Rattle.till.specs.Till.{is_judged}
use Rattle.till.proofs.Counting.{judged_own, unclean_own, counts_none, counts_next, counts_most}

-- the type of a field is its first group
first_group : (at : ℕ) (gs : List ℕ) (f : Field) → field_at at gs ≡ Ok f → f.kind ≡ get_or gs 0 0
unfolding field_at
first_group at [] f h = absurd (let z : ◌≡◌ {A = ℕ} 0 1 = cc in omega arith)
first_group at (_ ∷ []) f h = absurd (let z : ◌≡◌ {A = ℕ} 0 1 = cc in omega arith)
first_group at (_ ∷ _ ∷ []) f h = absurd (let z : ◌≡◌ {A = ℕ} 0 1 = cc in omega arith)
first_group at (kind ∷ high ∷ low ∷ gs) f h =
    let is : f ≡ field kind (at + 3) (high * 32 + low) = cc (ensured _ _ _ f h).rest in
    ap (λ (x : Field). x.kind) is

pub type_low : (s : List ℕ) (at : ℕ) (f : Field) → AreGroups s → field_at (7 + at) (drop at s) ≡ Ok f → f.kind < 32
type_low s at f are e = omega (arith, are at, first_group (7 + at) (drop at s) f e ∙ get_or-drop at s 0 0 ∙ ap (λ (k : ℕ). get_or s k 0) (add-zero at))

-- a count for each type, with one more field of a type
abbrev pub entered : (test : ℕ → Field → Bool) → Field → List ℕ → List ℕ
entered test f counts = set counts f.kind (get_or counts f.kind 0 + pick (test f.kind f) 1 0)

-- The fields that were met, and the counts of them.
pub record Underway (groups middle : List ℕ) (at : ℕ) (judged unclean : List ℕ) : Type 0 where
  pub met : List Field
  pub all : Met middle met at
  pub few : length met ≤ at
  pub speaks : Counts is_judged met judged
  pub unclear : Counts (is_unclean groups) met unclean

module _ (groups middle : List ℕ) where
  pub survey_begun : Underway groups middle 0 (replicate 32 0) (replicate 32 0)
  survey_begun =
      record {
        met = [];
        all = met_none middle;
        few = omega arith;
        speaks = counts_none is_judged judged_own;
        unclear = counts_none (is_unclean groups) (unclean_own groups);
      }

  module _ (at : ℕ) (judged unclean : List ℕ) (u : Underway groups middle at judged unclean) where
    -- at the end they are all
    pub survey_all : length middle ≤ at → (fields : List Field) → fields_in middle ≡ Ok fields → Counts is_judged fields judged × Counts (is_unclean groups) fields unclean
    survey_all h fields e =
        let is : u.met ≡ fields = cc (sym (met_all middle u.met at u.all h) ∙ e) in
        rw (← is) (u.speaks, u.unclear)

    module _ (more : at < length middle) where
      pub survey_refused : (r : Refusal) → field_at (7 + at) (drop at middle) ≡ Err r → (fields : List Field) → fields_in middle ≡ Ok fields → ⊥
      survey_refused r e fields a =
          let z : ◌≡◌ {A = ℕ} 0 1 = cc (sym (met_refused middle u.met at u.all more r e) ∙ a) in
          absurd (omega arith)

      -- with the field at this place
      module _ (f : Field) (e : field_at (7 + at) (drop at middle) ≡ Ok f) (low : f.kind < 32) where
        pub survey_next : Underway groups middle (at + (3 + f.size)) (entered is_judged f judged) (entered (is_unclean groups) f unclean)
        survey_next =
            record {
              met = u.met ++ f ∷ [];
              all = met_next middle u.met at u.all more f e;
              few = omega (arith, u.few, length-append u.met (f ∷ []));
              speaks = counts_next is_judged judged_own u.met judged u.speaks f low;
              unclear = counts_next (is_unclean groups) (unclean_own groups) u.met unclean u.unclear f low;
            }

        -- there is room for one more
        pub survey_room : (get_or judged f.kind 0 ≤ at) × (get_or unclean f.kind 0 ≤ at)
        survey_room = (
          omega (arith, u.few, counts_most is_judged judged_own u.met judged u.speaks f low),
          omega (arith, u.few, counts_most (is_unclean groups) (unclean_own groups) u.met unclean u.unclear f low),
        )
