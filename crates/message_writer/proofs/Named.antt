-- The parts of a payload are those that it was named by, as far as its type has them. Assumes nothing.
use Rattle.std.specs.Prelude.{Ok}
use mathlib.Core.List.{List}
use mathlib.Core.Path.{◌≡◌, refl}
use Prim.Native.Nat.{ℕ, ◌≤◌, ◌<◌}
use native.Mathlib.Omega.{arith}
use lib.ListN.{length}
use Rattle.answer.specs.declared.Part.{Part}
use Rattle.message.specs.Layout.{end, Layout, layout_of, parts}
use Rattle.message.specs.declared.layout.Payload.{Payload}
use Rattle.message.specs.declared.layout.Front.{Front}
use Rattle.message.proofs.LayoutLaws.{each}
use Rattle.message_writer.specs.Parts.{draft_of, PartsIn, SameFront, SameParts}
use Rattle.message_writer.specs.Writer.{Draft}

module _ (kind : ℕ) (l : Layout) (laid : layout_of kind ≡ Ok l) where
  -- its number takes two bytes
  pub kind_small : kind < 65536
  kind_small = each (λ k _. k < 65536) kind l (omega arith) (omega arith) (omega arith) (omega arith) (omega arith) laid

  module _ (a b : Part) (wanted : ℕ) where
    pub kind_is : kind ≡ (l.payload a b wanted).kind
    kind_is = each (λ k l. k ≡ (l.payload a b wanted).kind) kind l refl refl refl refl refl laid

    pub named_in : (m : List ℕ) → end a ≤ length m → end b ≤ length m → wanted < 65536 → PartsIn m (l.payload a b wanted)
    named_in m first last small =
        each (λ _ l. PartsIn m (l.payload a b wanted)) kind l
        (first, last, omega arith) (first, last, omega arith) (first, last, omega arith) (omega arith, last, small) (omega arith, last, omega arith) laid

    module _ (d : Draft) (m : List ℕ) where
      pub front_as : SameFront l.front d (l.payload a b wanted) m → SameFront l.front d (parts kind a b wanted) m
      front_as =
          each (λ k l. SameFront l.front d (l.payload a b wanted) m → SameFront l.front d (parts k a b wanted) m) kind l
          (λ s. s) (λ s. s) (λ s. s) (λ s. s) (λ s. s) laid

-- a payload's own parts are its parts
own_front : (front : Front) (p : Payload) (m triples : List ℕ) → SameFront front (draft_of p m triples) p m
own_front Front.Sized p m triples = refl
own_front Front.Channel p m triples = refl
own_front Front.Number p m triples = refl
own_front Front.Empty p m triples = tt

pub own_parts : (p : Payload) (m triples : List ℕ) → SameParts (draft_of p m triples) p m
own_parts p m triples = record { type = refl; front = λ l _. own_front l.front p m triples; ending = refl }
