-- The questions whose refusals are of nothing that is cut short. Assumes nothing.
use Rattle.std.specs.Prelude.{Err}
use mathlib.Core.Bool.{Bool}
use mathlib.Core.List.{List, [], ◌∷◌}
use mathlib.Core.Logic.{⊎_elim}
use mathlib.Core.Path.{◌≡◌, refl}
use Prim.Native.Nat.{ℕ}
use Rattle.answer.specs.Answer.{Answer, Refusing, accepting, refusing, ensure, ◌>>=◌}
use Rattle.answer.specs.Missing.{CutShort, Counted}
use Rattle.answer.specs.declared.Refusal.{Refusal}
use Rattle.answer.proofs.Answer.{then_refuses, refusing_is, refusing_less, refusing_then, refusing_ensure}
use Rattle.answer.proofs.Missing.{Whole, whole_uncut, whole_counted}
use Rattle.laws.proofs.Test.{pick_all}
use Rattle.message.specs.Layout.{layout_of}
use Rattle.message.specs.Message.{fixed, sized, front_at}
use Rattle.message.specs.declared.layout.Front.{Front}
use Rattle.message_writer.specs.Writer.{front_bytes, payload}
use Rattle.stream.specs.Stream.{Row}
use Rattle.stream_index.specs.Index.{find}
use Rattle.stream_writer.specs.Writer.{row_placed}
use Rattle.table.specs.Table.{rising, checking}

pub uncut : {A : Type 0} {x : Answer A} {r : Refusal} → Refusing Whole x → x ≡ Err r → CutShort r → ⊥
uncut {r = r} h e cut = whole_uncut r (refusing_is h e) cut

-- so something that is cut short is so behind it
pub behind_whole : {A B : Type 0} {x : Answer A} → Refusing Whole x → (f : A → Answer B) (r : Refusal) → (x >>= f) ≡ Err r → CutShort r → (a : A) × (f a ≡ Err r)
behind_whole {x = x} h f r e cut = ⊎_elim (λ k. absurd (uncut h k cut)) (λ g. (g.0, g.2)) (then_refuses x f r e)

pub counted : {A : Type 0} {x : Answer A} → Refusing Whole x → Refusing Counted x
counted h = refusing_less whole_counted h

-- a test
pub ensure_whole : (c : Bool) (r : Refusal) → Whole r → Refusing Whole (ensure c r)
ensure_whole = refusing_ensure Whole

-- the table
rising_whole : (namespace kind : ℕ) (table : List ℕ) → Refusing Whole (rising namespace kind table)
unfolding rising
rising_whole namespace kind (ns ∷ k ∷ f ∷ p ∷ rows) =
    refusing_then _ (ensure_whole _ _ (refl, refl)) λ _ _.
    refusing_then _ (ensure_whole _ _ (refl, refl)) λ _ _.
    refusing_then _ (ensure_whole _ _ (refl, refl)) λ _ _. rising_whole ns _ rows
rising_whole namespace kind [] = accepting tt
rising_whole namespace kind (_ ∷ []) = accepting tt
rising_whole namespace kind (_ ∷ _ ∷ []) = accepting tt
rising_whole namespace kind (_ ∷ _ ∷ _ ∷ []) = accepting tt

pub checking_whole : (table : List ℕ) → Refusing Whole (checking table)
unfolding checking
checking_whole table = refusing_then _ (ensure_whole _ _ (refl, refl)) λ _ _. rising_whole 0 0 table

-- a type that is looked for
pub find_whole : (kind : ℕ) (rows : List Row) → Refusing Whole (find kind rows)
unfolding find
find_whole kind [] = refusing (refl, refl)
find_whole kind (r ∷ rows) = pick_all (Refusing Whole) _ _ _ (λ _. accepting _) (λ _. find_whole kind rows)

-- a message's layout and its payload
pub layout_whole : (kind : ℕ) → Refusing Whole (layout_of kind)
unfolding layout_of
layout_whole kind =
    pick_all (Refusing Whole) _ _ _ (λ _. accepting _) λ _.
    pick_all (Refusing Whole) _ _ _ (λ _. accepting _) λ _.
    pick_all (Refusing Whole) _ _ _ (λ _. accepting _) λ _.
    pick_all (Refusing Whole) _ _ _ (λ _. accepting _) λ _.
    pick_all (Refusing Whole) _ _ _ (λ _. accepting _) λ _. refusing (refl, refl)

fixed_whole : (kind at n : ℕ) (m : List ℕ) → Refusing Whole (fixed kind at n m)
unfolding fixed
fixed_whole kind at n m = refusing_then _ (ensure_whole _ _ (refl, refl)) λ _ _. accepting _

pub sized_whole : (kind at : ℕ) (m : List ℕ) → Refusing Whole (sized kind at m)
unfolding sized
sized_whole kind at m = refusing_then _ (fixed_whole kind at 2 m) λ _ _. fixed_whole kind _ _ m

pub front_whole : (front : Front) (kind : ℕ) (m : List ℕ) → Refusing Whole (front_at front kind m)
front_whole Front.Sized kind m = sized_whole kind 2 m
front_whole Front.Channel kind m = fixed_whole kind 2 32 m
front_whole Front.Number kind m = fixed_whole kind 2 2 m
front_whole Front.Empty kind m = fixed_whole kind 2 0 m

-- the same of the writers
pub placed_whole : (source : List ℕ) (r low kind start size : ℕ) → Refusing Whole (row_placed source r low kind start size)
unfolding row_placed
placed_whole source r low kind start size = refusing_then _ (ensure_whole _ _ (refl, refl)) λ _ _. ensure_whole _ _ (refl, refl)

bytes_whole : (front : Front) (kind : ℕ) (first : List ℕ) (wanted : ℕ) → Refusing Whole (front_bytes front kind first wanted)
bytes_whole Front.Sized kind first wanted = accepting _
bytes_whole Front.Channel kind first wanted = refusing_then _ (ensure_whole _ _ (refl, refl)) λ _ _. accepting _
bytes_whole Front.Number kind first wanted = accepting _
bytes_whole Front.Empty kind first wanted = accepting _

pub payload_whole : (front : Front) (kind : ℕ) (first last : List ℕ) (wanted : ℕ) → Refusing Whole (payload front kind first last wanted)
unfolding payload
payload_whole front kind first last wanted = refusing_then _ (bytes_whole front kind first wanted) λ _ _. accepting _
