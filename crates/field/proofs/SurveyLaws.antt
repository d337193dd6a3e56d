-- A survey of the fields: those that were met, and the first usable one of a type among them. Assumes nothing.
use Rattle.std.specs.Prelude.{Option, Some, None, option_map, Ok, Err}
use mathlib.Core.Bool.{Bool, true, false}
use mathlib.Core.List.{List, [], ◌∷◌, ◌++◌, append_assoc, append-nil}
use mathlib.Core.Path.{◌≡◌, refl, sym, ap, ◌∙◌}
use Prim.Native.Nat.{ℕ, suc, ◌+◌, ◌-◌, ◌*◌, ◌%◌, ◌<◌, ◌≤◌}
use native.Mathlib.Nat.{add-zero, zero-add, suc-add}
use native.Mathlib.Omega.{arith}
use lib.Dec.{eqb}
use lib.ListN.{length, get_or, drop, drop_of_length-le}
use lib.Seq.{drop-cons}
use borrow.Author.Tests.{eqb-true, eq-eqb, ne_eqb, le-leb, lt-leb, lt-ltb, le-ltb}
use Rattle.laws.proofs.Test.{pick_yes, pick_no, split}
use Rattle.answer.specs.Answer.{Answer, bare, mapped, ◌>>=◌}
use Rattle.answer.proofs.Answer.{then_accepted, then_refused, both, ensure_yes, ensure_no, ensured}
use Rattle.answer.specs.declared.Refusal.{Refusal}
use Rattle.field.specs.Fields.{field_at, fields_in, payment_hash, expiry, delta, is_usable, first_usable, recovery_of, fielding, first_of}
use Rattle.field.specs.declared.Field.{Field}
use Rattle.field.specs.declared.First.{First}
use Rattle.laws.specs.Digits.{from_digits}
use Rattle.invoice_text.specs.Text.{first_where, has}
use Rattle.invoice_text.proofs.FirstWhere.{first_yes}
use Rattle.field.proofs.FieldLaws.{left, left_end, left_refused, left_field}

-- The fields that were met, with those from a place on.
abbrev pub Met : (s : List ℕ) (met : List Field) (at : ℕ) → Type 0
Met s met at = fields_in s ≡ mapped (λ rest. met ++ rest) (left s at)

same_answer : (x : Answer (List Field)) → x ≡ mapped (λ rest. [] ++ rest) x
same_answer (Ok fs) = refl
same_answer (Err r) = refl

-- at the beginning none
pub met_none : (s : List ℕ) → Met s [] 0
met_none s = same_answer (fields_in s)

one_more : (met : List Field) (f : Field) (x : Answer (List Field)) →
    mapped (λ rest. met ++ rest) (x >>= λ rest. Ok (f ∷ rest)) ≡ mapped (λ rest. met ++ (f ∷ []) ++ rest) x
unfolding ◌>>=◌
one_more met f (Err r) = refl
one_more met f (Ok fs) = ap Ok (sym (append_assoc met (f ∷ []) fs))

module _ (s : List ℕ) (met : List Field) (at : ℕ) (all : Met s met at) where
  -- at the end all
  pub met_all : length s ≤ at → fields_in s ≡ Ok met
  met_all h = all ∙ rw (left_end s at h) (ap Ok (append-nil met))

  module _ (more : at < length s) where
    pub met_refused : (r : Refusal) → field_at (7 + at) (drop at s) ≡ Err r → fields_in s ≡ Err r
    met_refused r e = all ∙ rw (left_refused s at more r e) refl

    pub met_next : (f : Field) → field_at (7 + at) (drop at s) ≡ Ok f → Met s (met ++ (f ∷ [])) (at + (3 + f.size))
    met_next f e = all ∙ ap (mapped (λ rest. met ++ rest)) (left_field s at more f e) ∙ one_more met f (left s (at + (3 + f.size)))

-- The first element of which a test holds, in two lists: in the first one, or behind it.
module _ {A : Type 0} (test : A → Bool) where
  first_front : (xs ys : List A) → first_where test xs < length xs → first_where test (xs ++ ys) ≡ first_where test xs
  unfolding first_where
  first_front [] ys h = absurd (omega arith)
  first_front (x ∷ xs) ys h =
      split (test x) 0 (suc (first_where test xs)) (first_where test (x ∷ xs)) refl (λ yes e. pick_yes _ _ _ yes ∙ e)
      λ no e. pick_no _ _ _ no ∙ ap suc (first_front xs ys (omega (arith, e))) ∙ e

  first_behind : (xs ys : List A) → length xs ≤ first_where test xs → first_where test (xs ++ ys) ≡ length xs + first_where test ys
  unfolding first_where
  first_behind [] ys h = sym (zero-add (first_where test ys))
  first_behind (x ∷ xs) ys h =
      split (test x) 0 (suc (first_where test xs)) (first_where test (x ∷ xs)) refl (λ yes e. absurd (omega (arith, e)))
      λ no e. pick_no _ _ _ no ∙ ap suc (first_behind xs ys (omega (arith, e))) ∙ sym (suc-add (length xs) (first_where test ys))

-- The first usable field of a type.
module _ (kind : ℕ) where
  found_or_not : (row : ℕ) (o : Option Field) (x : First) → option_map (λ f. record { row = row; field = f }) o ≡ Some x → (o ≡ Some x.field) × (row ≡ x.row)
  found_or_not row None x h = absurd (let z : ◌≡◌ {A = ℕ} 0 1 = cc in omega arith)
  found_or_not row (Some f) x h = let e : record { row = row; field = f } ≡ x = cc in (ap (λ (y : First). Some y.field) e, ap (λ (y : First). y.row) e)

  none_found : (row : ℕ) (o : Option Field) → option_map {U = First} (λ f. record { row = row; field = f }) o ≡ None → o ≡ None
  none_found row None h = refl
  none_found row (Some f) h = absurd (let z : ◌≡◌ {A = ℕ} 0 1 = cc in omega arith)

  usable_place : (fs : List Field) (f : Field) → first_usable kind fs ≡ Some f → first_where (is_usable kind) fs < length fs
  unfolding first_usable first_where
  usable_place [] f h = absurd (let z : ◌≡◌ {A = ℕ} 0 1 = cc in omega arith)
  usable_place (g ∷ fs) f h =
      split (is_usable kind g) (Some g) (first_usable kind fs) (Some f) h (λ yes _. rw (pick_yes {A = ℕ} _ _ _ yes) (omega arith))
      λ no e. rw (pick_no {A = ℕ} _ _ _ no) (omega (arith, usable_place fs f e))

  usable_nowhere : (fs : List Field) → first_usable kind fs ≡ None → length fs ≤ first_where (is_usable kind) fs
  unfolding first_usable first_where
  usable_nowhere [] h = omega arith
  usable_nowhere (g ∷ fs) h =
      split (is_usable kind g) (Some g) (first_usable kind fs) None h (λ yes e. absurd (let z : ◌≡◌ {A = ℕ} 0 1 = cc e in omega arith))
      λ no e. rw (pick_no {A = ℕ} _ _ _ no) (omega (arith, usable_nowhere fs e))

  -- whether there is one
  pub has_first : (fs : List Field) (x : First) → first_of kind fs ≡ Some x → has (is_usable kind) fs ≡ true
  has_first fs x h = lt-ltb _ _ (usable_place fs x.field (found_or_not _ _ x h).0)

  pub has_no_first : (fs : List Field) → first_of kind fs ≡ None → has (is_usable kind) fs ≡ false
  has_no_first fs h = le-ltb _ _ (usable_nowhere fs (none_found _ _ h))

  -- its row
  pub first_row : (fs : List Field) (x : First) → first_of kind fs ≡ Some x → first_where (is_usable kind) fs ≡ x.row
  first_row fs x h = (found_or_not _ _ x h).1

  usable_front : (fs gs : List Field) (f : Field) → first_usable kind fs ≡ Some f → first_usable kind (fs ++ gs) ≡ Some f
  unfolding first_usable
  usable_front [] gs f h = let z : ◌≡◌ {A = ℕ} 0 1 = cc in absurd (omega arith)
  usable_front (g ∷ fs) gs f h =
      split (is_usable kind g) (Some g) (first_usable kind fs) (Some f) h
      (λ yes e. pick_yes _ _ _ yes ∙ e)
      λ no e. pick_no _ _ _ no ∙ usable_front fs gs f e

  usable_behind : (fs gs : List Field) → first_usable kind fs ≡ None → first_usable kind (fs ++ gs) ≡ first_usable kind gs
  unfolding first_usable
  usable_behind [] gs h = refl
  usable_behind (g ∷ fs) gs h =
      split (is_usable kind g) (Some g) (first_usable kind fs) None h
      (λ yes e. let z : ◌≡◌ {A = ℕ} 0 1 = cc e in absurd (omega arith))
      λ no e. pick_no _ _ _ no ∙ usable_behind fs gs e

  -- With more fields behind the others, an earlier one stays.
  pub first_stays : (fs gs : List Field) (x : First) → first_of kind fs ≡ Some x → first_of kind (fs ++ gs) ≡ Some x
  first_stays fs gs x h =
      let k = found_or_not _ _ x h in
      rw (usable_front fs gs x.field k.0, first_front (is_usable kind) fs gs (usable_place fs x.field k.0), k.1)

  module _ (fs : List Field) (f : Field) where
    -- one that is usable where there was none
    pub first_here : first_of kind fs ≡ None → is_usable kind f ≡ true → first_of kind (fs ++ (f ∷ [])) ≡ Some (record { row = length fs; field = f })
    unfolding first_usable
    first_here h is =
        let k = none_found _ _ h in
        rw (
          usable_behind fs (f ∷ []) k,
          pick_yes {A = Option Field} (is_usable kind f) (Some f) None is,
          first_behind (is_usable kind) fs (f ∷ []) (usable_nowhere fs k),
          first_yes (is_usable kind) f [] is,
          add-zero,
        )

    -- one that is not
    pub first_still : is_usable kind f ≡ false → first_of kind (fs ++ (f ∷ [])) ≡ first_of kind fs
    unfolding first_usable
    first_still not = by_found (first_of kind fs) refl where
      by_found : (o : Option First) → first_of kind fs ≡ o → first_of kind (fs ++ (f ∷ [])) ≡ first_of kind fs
      by_found None e = rw (e, usable_behind fs (f ∷ []) (none_found _ _ e), pick_no {A = Option Field} (is_usable kind f) (Some f) None not)
      by_found (Some x) e = first_stays fs (f ∷ []) x e ∙ sym e

    -- one of another type
    pub first_other : (f.kind ≡ kind → ⊥) → first_of kind (fs ++ (f ∷ [])) ≡ first_of kind fs
    first_other other = first_still (rw (ne_eqb f.kind kind other))

-- A survey under way: the fields that were met, and what was found among them.
pub record Underway (s : List ℕ) (at count : ℕ) (p x c : Option First) : Type 0 where
  pub met : List Field
  pub all : Met s met at
  pub counted : count ≡ length met
  pub payments : p ≡ first_of payment_hash met
  pub expiries : x ≡ first_of expiry met
  pub deltas : c ≡ first_of delta met

pub survey_begun : (s : List ℕ) → Underway s 0 0 None None None
unfolding first_usable
survey_begun s = record { met = []; all = met_none s; counted = refl; payments = refl; expiries = refl; deltas = refl }

-- the recovery byte of a signature of 104 groups, by the last two of them
pub recovery_two : (s : List ℕ) → length s ≡ 104 → recovery_of s ≡ (get_or s 102 0 * 32 + get_or s 103 0) % 256
unfolding from_digits
recovery_two s h =
    let two : length s - 2 ≡ 102 = omega arith in
    let end : drop 104 s ≡ [] = drop_of_length-le s {i = 104} (omega arith) in
    ap (λ (n : ℕ). n % 256) (rw (two, drop-cons s 102 0 (omega arith), drop-cons s 103 0 (omega arith), end) (omega arith))

-- The fields and the signature, by what a survey of the fields says.
module _ (middle signature : List ℕ) where
  pub signature_short : (length signature ≡ 104 → ⊥) → fielding middle signature ≡ Err (bare 38)
  unfolding fielding
  signature_short h = ensure_no _ _ _ (ne_eqb (length signature) 104 h)

  module _ (whole : length signature ≡ 104) where
    first_question : eqb (length signature) 104 ≡ true
    first_question = eq-eqb (length signature) 104 whole

    pub fielding_refused : (r : Refusal) → fields_in middle ≡ Err r → fielding middle signature ≡ Err r
    unfolding fielding
    fielding_refused r e = ensure_yes _ _ _ first_question ∙ then_refused r _ _ e

    module _ (fs : List Field) (e : fields_in middle ≡ Ok fs) where
      pub fielding_recovery : 3 < recovery_of signature → fielding middle signature ≡ Err (bare 39)
      unfolding fielding
      fielding_recovery k = ensure_yes _ _ _ first_question ∙ then_accepted fs _ _ e ∙ ensure_no _ _ _ (lt-leb (recovery_of signature) 3 k)

      module _ (low : recovery_of signature ≤ 3) where
        pub fielding_none : has (is_usable payment_hash) fs ≡ false → fielding middle signature ≡ Err (bare 40)
        unfolding fielding
        fielding_none k =
            ensure_yes _ _ _ first_question ∙ then_accepted fs _ _ e ∙ ensure_yes _ _ _ (le-leb (recovery_of signature) 3 low) ∙ ensure_no _ _ _ k

        pub fielding_fine : has (is_usable payment_hash) fs ≡ true → fielding middle signature ≡ Ok fs
        unfolding fielding
        fielding_fine k =
            ensure_yes _ _ _ first_question ∙ then_accepted fs _ _ e ∙ ensure_yes _ _ _ (le-leb (recovery_of signature) 3 low) ∙ ensure_yes _ _ _ k

  -- an accepted answer has a whole signature
  pub fielding_signature : (fs : List Field) → fielding middle signature ≡ Ok fs → length signature ≡ 104
  unfolding fielding
  fielding_signature fs e = eqb-true (length signature) 104 (ensured _ _ _ fs e).holds

  -- an accepted answer's fields are all that there are
  pub fielding_fields : (fs : List Field) → fielding middle signature ≡ Ok fs → fields_in middle ≡ Ok fs
  unfolding fielding
  fielding_fields fs e =
      let a = ensured _ _ _ fs e in
      let b = both _ _ fs a.rest in
      let c = ensured _ _ _ fs b.second in
      let d = ensured _ _ _ fs c.rest in
      let is : b.is ≡ fs = cc d.rest in
      b.first ∙ ap Ok is
