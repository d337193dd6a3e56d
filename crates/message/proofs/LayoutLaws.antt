-- The five messages: the layout of each, and what holds of all. Assumes nothing.
use Rattle.std.specs.Prelude.{Ok, Err}
use mathlib.Core.Bool.{true}
use mathlib.Core.Path.{◌≡◌, refl, ap, ◌∙◌}
use Prim.Native.Nat.{ℕ, ◌≤◌}
use native.Mathlib.Omega.{arith}
use lib.Dec.{eqb}
use borrow.Author.Tests.{eqb-true, ne_eqb}
use Rattle.laws.specs.Test.{pick}
use Rattle.laws.proofs.Test.{pick_no, split}
use Rattle.answer.specs.Answer.{Answer, mapped, refuse}
use Rattle.answer.specs.declared.Part.{Part}
use Rattle.message.specs.Layout.{Layout, init, error, warning, ping, pong, layout_of, shaped, shape_of}
use Rattle.message.specs.Private.{by_front}
use Rattle.message.specs.declared.layout.Front.{Front}
use Rattle.message.specs.declared.layout.Shape.{Shape}

-- each of the five
pub layouts : (layout_of 16 ≡ Ok init) × (layout_of 17 ≡ Ok error) × (layout_of 1 ≡ Ok warning) × (layout_of 18 ≡ Ok ping)
    × (layout_of 19 ≡ Ok pong)
unfolding layout_of pick
layouts = (refl, refl, refl, refl, refl)

pub layout_unknown : (kind : ℕ) → (kind ≡ 16 → ⊥) → (kind ≡ 17 → ⊥) → (kind ≡ 1 → ⊥) → (kind ≡ 18 → ⊥) → (kind ≡ 19 → ⊥) →
    layout_of kind ≡ Err (refuse 22 0 kind)
unfolding layout_of
layout_unknown kind a b c d e =
    pick_no _ _ _ (ne_eqb _ _ a) ∙ pick_no _ _ _ (ne_eqb _ _ b) ∙ pick_no _ _ _ (ne_eqb _ _ c) ∙ pick_no _ _ _ (ne_eqb _ _ d) ∙ pick_no _ _ _ (ne_eqb _ _ e)

-- what holds of the five holds of every type that has a layout
module _ {ℓ} (G : ℕ → Layout → Type ℓ) (kind : ℕ) (l : Layout) where
  here : (n : ℕ) (x : Layout) → G n x → eqb kind n ≡ true → ◌≡◌ {A = Answer Layout} (Ok x) (Ok l) → G kind l
  here n x g k h =
      let same : x ≡ l = cc h in
      rw (eqb-true kind n k, ← same) g

  pub each : G 16 init → G 17 error → G 1 warning → G 18 ping → G 19 pong → layout_of kind ≡ Ok l → G kind l
  unfolding layout_of
  each i e w p q h =
      split _ _ _ _ h (here 16 init i) λ _ h.
      split _ _ _ _ h (here 17 error e) λ _ h.
      split _ _ _ _ h (here 1 warning w) λ _ h.
      split _ _ _ _ h (here 18 ping p) λ _ h.
      split _ _ _ _ h (here 19 pong q) λ _ h.
      absurd (let z : ◌≡◌ {A = ℕ} 0 1 = cc in omega arith)

-- a payload is told by what stands in front
pub told_by : (first last : Part) (number kind : ℕ) (l : Layout) → layout_of kind ≡ Ok l → l.payload first last number ≡ by_front l.front kind first last number
told_by first last number kind l =
    each (λ kind l. l.payload first last number ≡ by_front l.front kind first last number) kind l refl refl refl refl refl

-- its last part is the one it was told by
pub last_is : (kind : ℕ) (l : Layout) → layout_of kind ≡ Ok l → (first last : Part) (wanted : ℕ) → (l.payload first last wanted).last ≡ last
last_is kind l =
    each (λ kind l. (first last : Part) (wanted : ℕ) → (l.payload first last wanted).last ≡ last) kind l
    (λ _ _ _. refl) (λ _ _ _. refl) (λ _ _ _. refl) (λ _ _ _. refl) (λ _ _ _. refl)

-- What the code's `layout_of` answers.
pub shape_layout : (x : Answer Layout) (front : Front) (namespace : ℕ) → mapped shape_of x ≡ Ok (shaped front namespace) →
    (l : Layout) × (x ≡ Ok l) × (l.front ≡ front) × (l.namespace ≡ namespace)
shape_layout (Ok l) front namespace h =
    let is : shaped l.front l.namespace ≡ shaped front namespace = cc in
    (l, refl, ap (λ (s : Shape). s.front) is, ap (λ (s : Shape). s.namespace) is)
shape_layout (Err r) front namespace h = absurd (let z : ◌≡◌ {A = ℕ} 0 1 = cc in omega arith)

-- the namespace of its extension is one that a table can have
pub namespace_le : (kind : ℕ) (front : Front) (namespace : ℕ) → mapped shape_of (layout_of kind) ≡ Ok (shaped front namespace) → namespace ≤ 63
namespace_le kind front namespace h =
    let l = shape_layout (layout_of kind) front namespace h in
    rw (← l.3) (each (λ _ l. l.namespace ≤ 63) kind l.0 (omega arith) (omega arith) (omega arith) (omega arith) (omega arith) l.1)
