-- `message::parts::front_at` meets its contract: by what stands there. Assumes nothing.
use borrow.Author.Rules.{rules}
use native.Mathlib.Omega.{arith}
use mathlib.Core.List.{List}
use mathlib.Core.Path.{◌≡◌, refl, sym, ap, ◌∙◌}
use Prim.Native.Nat.{ℕ}
use lib.ListN.{length}
use Rattle.laws.proofs.Test.{by_order}
use Rattle.message.specs.Layout.{part, parts, nothing}
use Rattle.message.specs.Message.{fixed, sized}
use Rattle.message.specs.Private.{Second}
use Rattle.message.proofs.PartLaws.{fixed_fits, fixed_cut, sized_then, sized_refused}
use Rattle.message.proofs.parts.front_at.Statement.{statement}
use Rattle.message.proofs.parts.front_at.Tie as tie

-- the part behind the length that stands behind the type; where that is cut short, so is the part
second_part : (n : ℕ) (m : List ℕ) → Second n m → (kind : ℕ) → sized kind 2 m ≡ fixed kind 4 n m
second_part n m second kind =
    by_order (length m) 4
    (λ few. sized_refused kind 2 m _ (fixed_cut kind 2 m 2 few) ∙ sym (fixed_cut kind 4 m n (omega (arith, few))))
    (λ long. rw (second.is long) (sized_then kind 2 m _ (fixed_fits kind 2 m 2 long)))

returns : tie.Need-returns-in-Sized
returns c = (
  λ m second. rw c.in-Sized.is record {
    lies = part 4 _;
    is = second_part _ m second;
    ends = refl;
    tells = λ _ _ _. refl;
  },
  omega (arith, c.requires),
)

returns-2 : tie.Need-returns-in-Channel
returns-2 c = (λ _ _. rw c.in-Channel.is record { lies = part 2 32; is = λ _. refl; ends = refl; tells = λ _ _ _. refl }, omega arith)

returns-3 : tie.Need-returns-in-Number
returns-3 c = (
  λ _ second. rw c.in-Number.is record {
    lies = part 2 2;
    is = λ _. refl;
    ends = refl;
    tells = λ long kind last. ap (parts kind nothing last) (sym (second.is long));
  },
  omega arith,
)

returns-4 : tie.Need-returns-in-Empty
returns-4 c = (λ _ _. rw c.in-Empty.is record { lies = part 2 0; is = λ _. refl; ends = refl; tells = λ _ _ _. refl }, omega arith)

pub front_at_spec : {M : Type 1} → statement M
front_at_spec =
    tie.close
    (tie.spec (search rules) (search rules) (search rules) (search rules) (search rules) returns returns-2 returns-3 returns-4)
