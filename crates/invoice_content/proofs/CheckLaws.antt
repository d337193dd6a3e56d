-- The questions 16 and 34: an equation for each answer. Assumes nothing.
use Rattle.std.specs.Prelude.{Ok, Err}
use mathlib.Core.Bool.{not}
use mathlib.Core.List.{List}
use mathlib.Core.Path.{◌≡◌, sym, ap, ◌∙◌}
use Prim.Native.Nat.{ℕ, ◌+◌, ◌≤◌, ◌<◌}
use native.Mathlib.Omega.{arith}
use lib.ListN.{length}
use borrow.Author.Tests.{lt-ltb, le-ltb, le-leb, lt-leb}
use Rattle.bech32.specs.Groups.{AreGroups}
use Rattle.invoice_text.specs.Text.{first_where, is_above31}
use Rattle.laws.proofs.Lists.{length_part}
use Rattle.laws.proofs.Test.{by_order}
use Rattle.answer.proofs.Answer.{mapped_accepted, holds, fails, ensure_yes, ensure_no}
use Rattle.answer.specs.Answer.{Answer, refuse, bare, mapped}
use Rattle.answer.specs.declared.Refusal.{Refusal}
use Rattle.invoice_content.specs.Content.{groups_at, checking}
use Rattle.invoice_text.proofs.GroupTest.{all_groups}

never : (r : Refusal) → ◌≡◌ {A = Answer (Unit {0})} (Err r) (Ok tt) → ⊥
never r e = let z : ◌≡◌ {A = ℕ} 0 1 = cc in omega arith

module _ (groups : List ℕ) (start size : ℕ) where
  pub checking_outside : length groups < start + size → checking groups start size ≡ Err (bare 16)
  unfolding checking
  checking_outside h = ensure_no _ _ _ (lt-leb (start + size) (length groups) h)

  module _ (inside : start + size ≤ length groups) where
    pub checking_above : first_where is_above31 (groups_at groups start size) < size →
        checking groups start size ≡ Err (refuse 34 (start + first_where is_above31 (groups_at groups start size)) 0)
    unfolding checking
    checking_above h =
        let n = first_where is_above31 (groups_at groups start size) in
        ensure_yes _ _ _ (le-leb (start + size) (length groups) inside)
        ∙ fails _ _ (ap not (lt-ltb n (length (groups_at groups start size)) (rw (length_part groups start size inside) h)))

    pub checking_sound : size ≤ first_where is_above31 (groups_at groups start size) → checking groups start size ≡ Ok tt
    unfolding checking
    checking_sound h =
        let n = first_where is_above31 (groups_at groups start size) in
        ensure_yes _ _ _ (le-leb (start + size) (length groups) inside)
        ∙ holds _ _ (ap not (le-ltb n (length (groups_at groups start size)) (rw (length_part groups start size inside) h)))

  -- what an accepted check tells
  pub record Sound : Type 0 where
    pub inside : start + size ≤ length groups
    pub are : AreGroups (groups_at groups start size)

  pub sound : checking groups start size ≡ Ok tt → Sound
  sound e =
      by_order (length groups) (start + size) (λ outside. absurd (never (bare 16) (sym (checking_outside outside) ∙ e)))
      (λ inside.
      let n = first_where is_above31 (groups_at groups start size) in
      by_order n size (λ above. absurd (never (refuse 34 (start + n) 0) (sym (checking_above inside above) ∙ e)))
      (λ none. record { inside = inside; are = all_groups (groups_at groups start size) (rw (length_part groups start size inside) none) }))

  -- the same of an answer with the groups in it
  pub record Parted (part : List ℕ) : Type 0 where
    pub checked : checking groups start size ≡ Ok tt
    pub is : part ≡ groups_at groups start size
    pub inside : start + size ≤ length groups
    pub are : AreGroups part

  pub parted : (part : List ℕ) → mapped (λ _. groups_at groups start size) (checking groups start size) ≡ Ok part → Parted part
  parted part h =
      let a = mapped_accepted (λ _. groups_at groups start size) _ part h in
      let s = sound a.1 in
      record { checked = a.1; is = sym a.2; inside = s.inside; are = rw (← a.2) s.are }
