-- Where the address of an init lies, by the rows of its extension. Assumes nothing.
use Rattle.std.specs.Prelude.{Ok, Err}
use mathlib.Core.List.{List, [], ◌∷◌}
use mathlib.Core.Path.{◌≡◌, refl}
use Prim.Native.Nat.{ℕ}
use native.Mathlib.Omega.{arith}
use lib.Dec.{eqb}
use borrow.Author.Tests.{eq-eqb, ne_eqb}
use Rattle.answer.specs.Answer.{Answer, refuse, ◌>>=◌}
use Rattle.answer.specs.declared.Part.{Part}
use Rattle.answer.specs.declared.Refusal.{Refusal}
use Rattle.laws.proofs.Test.{pick_yes, pick_no, pick_all, split}
use Rattle.stream.specs.Stream.{Row}
use Rattle.stream_index.specs.Index.{find, sought}
use Rattle.message.specs.Message.{address_in}
use Rattle.message.specs.Private.{address_behind}
use Rattle.message.specs.declared.layout.Payload.{Payload}

-- a type that is not found is refused with 15
pub find_none : (kind : ℕ) (rows : List Row) (r : Refusal) → find kind rows ≡ Err r → r ≡ refuse 15 0 kind
unfolding find
find_none kind [] r h = cc
find_none kind (w ∷ rows) r h =
    split (eqb w.kind kind) _ (find kind rows) (Err r) h
    (λ _ e. absurd (let z : ◌≡◌ {A = ℕ} 0 1 = cc in omega arith))
    (λ _ e. find_none kind rows r e)

module _ (p : Payload) where
  -- in an init it is the record of its type
  pub address_init : (x : Answer (List Row)) → p.kind ≡ 16 → address_behind p x ≡ sought 3 x
  unfolding address_in ◌>>=◌
  address_init (Ok rows) init = pick_yes _ _ _ (eq-eqb p.kind 16 init)
  address_init (Err r) init = refl

  -- in another message there is none, whatever record has the type
  pub address_other : (x : Answer (List Row)) → (p.kind ≡ 16 → ⊥) → (part : Part) → sought 3 x ≡ Ok part → address_behind p x ≡ Err (refuse 15 0 3)
  unfolding address_in ◌>>=◌
  address_other (Ok rows) other part e = pick_no _ _ _ (ne_eqb p.kind 16 other)
  address_other (Err r) other part e = absurd (let z : ◌≡◌ {A = ℕ} 0 1 = cc in omega arith)

  -- the extension's refusal, or that no record has the type
  pub address_refused : (x : Answer (List Row)) (r : Refusal) → sought 3 x ≡ Err r → address_behind p x ≡ Err r
  unfolding address_in ◌>>=◌
  address_refused (Ok rows) r e =
      let absent = find_none 3 rows r e in
      pick_all (λ a. a ≡ Err r) (eqb p.kind 16) (find 3 rows) (Err (refuse 15 0 3)) (λ _. e) (λ _. rw absent refl)
  address_refused (Err q) r e = e
