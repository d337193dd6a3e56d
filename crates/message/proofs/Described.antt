-- The address that an accepted init has is an address descriptor. Assumes nothing.
use Rattle.std.specs.Prelude.{Ok}
use mathlib.Core.Bool.{true}
use mathlib.Core.List.{List}
use mathlib.Core.Path.{◌≡◌, refl, ◌∙◌}
use Prim.Native.Nat.{ℕ, ◌+◌, ◌≤◌}
use native.Mathlib.Omega.{arith}
use lib.Dec.{eqb}
use lib.ListN.{length}
use borrow.Author.Tests.{eqb-true}
use Rattle.address.specs.Address.{is_descriptor}
use Rattle.answer.specs.declared.Part.{Part}
use Rattle.answer.proofs.Answer.{both, then_accepted, ensured}
use Rattle.form.specs.Form.{address, plain}
use Rattle.laws.specs.Test.{pick}
use Rattle.laws.proofs.Test.{split}
use Rattle.stream.specs.Stream.{Row, own, judged}
use Rattle.stream_index.specs.Index.{find, part_of, locating_from}
use Rattle.stream_index.proofs.Seeking.{Found, located_found}
use Rattle.table.specs.Table.{lookup}
use Rattle.message.specs.Layout.{Layout, layout_of, end}
use Rattle.message.specs.Message.{built_in, Outcome, passed_over, told, judging, address_in, addressing}
use Rattle.message.specs.declared.layout.Payload.{Payload}
use Rattle.message.proofs.LayoutLaws.{each}
use Rattle.message.proofs.MessageLaws.{Read, read_is}

-- an init's extension has the namespace 0
init_namespace : (kind : ℕ) (l : Layout) → layout_of kind ≡ Ok l → (first last : Part) (wanted : ℕ) → (l.payload first last wanted).kind ≡ 16 →
    l.namespace ≡ 0
init_namespace kind l =
    each (λ kind l. (first last : Part) (wanted : ℕ) → (l.payload first last wanted).kind ≡ 16 → l.namespace ≡ 0) kind l
    (λ _ _ _ _. refl)
    (λ _ _ _ e. absurd (omega arith))
    (λ _ _ _ e. absurd (omega arith))
    (λ _ _ _ e. absurd (omega arith))
    (λ _ _ _ e. absurd (omega arith))

-- the address by what is told of the message
pub record Addressed (m : List ℕ) (x : Part) : Type 0 where
  pub payload : Payload
  pub rows : List Row
  pub is : judging m ≡ Ok (told payload rows)
  pub read : Read m payload rows
  pub found : Found built_in 0 m 3 x

addressed_in : (m : List ℕ) (x : Part) (o : Outcome) → judging m ≡ Ok o → address_in o ≡ Ok x → Addressed m x
unfolding address_in locating_from
addressed_in m x (passed_over kind) e h = absurd (let z : ◌≡◌ {A = ℕ} 0 1 = cc in omega arith)
addressed_in m x (told p rows) e h =
    split (eqb p.kind 16) (find 3 rows) _ (Ok x) h
    (λ init there.
    let r = read_is m p rows e in
    let none = init_namespace _ r.layout r.laid r.first r.last _ (rw r.is at (eqb-true p.kind 16 init)) in
    record {
      payload = p;
      rows = rows;
      is = e;
      read = r;
      found = located_found built_in 0 m 3 x (end r.last) (then_accepted rows (find 3) _ (rw none at r.extended) ∙ there);
    })
    (λ _ absent. absurd (let z : ◌≡◌ {A = ℕ} 0 1 = cc in omega arith))

pub addressed : (m : List ℕ) (x : Part) → addressing m ≡ Ok x → Addressed m x
addressed m x h =
    let a = both (judging m) address_in x h in
    addressed_in m x a.is a.first a.second

-- it lies in the message
pub address_within : (m : List ℕ) (x : Part) → addressing m ≡ Ok x → x.start + x.size ≤ length m
address_within m x h = (addressed m x h).found.within

-- Where a message has an address, its bytes are a descriptor: to read them as one is never refused.
pub address_described : (m : List ℕ) (x : Part) → addressing m ≡ Ok x → is_descriptor (part_of m (Ok x)) ≡ true
unfolding lookup pick judged own plain address
address_described m x h =
    let f = (addressed m x h).found in
    (ensured _ _ _ f.mark f.right).holds
