-- The walk without its count, and what holds of all that is met. Assumes nothing.
use Rattle.std.specs.Prelude.{Ok, Err, Option, None, Some}
use mathlib.Core.List.{List, [], ◌∷◌, ◌++◌}
use mathlib.Core.Path.{◌≡◌, refl, ap}
use Prim.Native.Nat.{ℕ, zero, suc, ◌+◌, ◌≤◌, ◌<◌}
use native.Mathlib.Omega.{arith}
use lib.Dec.{eqb}
use lib.ListN.{length, length-drop}
use Rattle.answer.specs.Answer.{Answer}
use Rattle.answer.specs.declared.Refusal.{Refusal}
use Rattle.frame.specs.Frame.{Frame, framing, value_in, behind}
use Rattle.frame.proofs.Laws.{framed}
use Rattle.laws.proofs.Test.{pick_all}
use Rattle.table.specs.Table.{lookup}
use Rattle.table.specs.declared.Known.{Known}
use Rattle.stream.specs.Stream.{record_at, Item, met, broken, Enter, inside, where_framed, walk, entering, met_in}

-- the same behind the same frame
framed_same : (a : Answer Frame) (f g : Frame → List Item) → ((x : Frame) → a ≡ Ok x → f x ≡ g x) → where_framed a f ≡ where_framed a g
unfolding where_framed
framed_same (Ok x) f g h = h x refl
framed_same (Err q) f g h = refl

module _ (enter : Enter) (table : List ℕ) (ns l : ℕ) where
  -- a record, what is inside it, and what is behind
  abbrev pub met_at : (place : ℕ) → List ℕ → Frame → List Item → List Item
  met_at place bs x rest = met (record_at ns l place bs x) ∷ (inside enter (lookup table ns x.kind) (place + x.head) (value_in x bs) ++ rest)

  -- more of the count than there are bytes changes nothing
  enough : (f g place low : ℕ) (bs : List ℕ) → length bs ≤ f → length bs ≤ g → walk enter table ns l f place low bs ≡ walk enter table ns l g place low bs
  unfolding walk
  enough zero zero place low [] hf hg = refl
  enough zero (suc g) place low [] hf hg = refl
  enough (suc f) zero place low [] hf hg = refl
  enough (suc f) (suc g) place low [] hf hg = refl
  enough zero g place low (b ∷ bs) hf hg = absurd (omega arith)
  enough (suc f) zero place low (b ∷ bs) hf hg = absurd (omega arith)
  enough (suc f) (suc g) place low (b ∷ bs) hf hg =
      framed_same (framing low place (b ∷ bs)) _ _ λ x ex.
      let w = framed low place (b ∷ bs) x ex in
      let s : length (behind x (b ∷ bs)) ≤ length bs = omega (arith, length-drop (x.head + x.size) (b ∷ bs)) in
      ap (met_at place (b ∷ bs) x) (enough f g (place + (x.head + x.size)) (suc x.kind) (behind x (b ∷ bs)) (omega arith) (omega arith))

  -- all that is met in some bytes
  abbrev pub walked : (place low : ℕ) → List ℕ → List Item
  walked place low bs = walk enter table ns l (length bs) place low bs

  -- The first record, and those behind it.
  pub walk_next : (place low : ℕ) (bs : List ℕ) → 0 < length bs →
      walked place low bs ≡
      where_framed (framing low place bs) λ x. met_at place bs x (walked (place + (x.head + x.size)) (suc x.kind) (behind x bs))
  unfolding walk
  walk_next place low [] some = absurd (omega arith)
  walk_next place low (b ∷ bs) some =
      framed_same (framing low place (b ∷ bs)) _ _ λ x ex.
      let w = framed low place (b ∷ bs) x ex in
      let s : length (behind x (b ∷ bs)) ≤ length bs = omega (arith, length-drop (x.head + x.size) (b ∷ bs)) in
      ap (met_at place (b ∷ bs) x)
      (enough (length bs) (length (behind x (b ∷ bs))) (place + (x.head + x.size)) (suc x.kind) (behind x (b ∷ bs)) s (omega arith))

  pub walk_end : (place low : ℕ) (bs : List ℕ) → length bs ≡ 0 → walked place low bs ≡ []
  unfolding walk
  walk_end place low [] e = refl
  walk_end place low (b ∷ bs) e = absurd (omega arith)

-- Q of each that is met
unfoldable pub All : (Item → Type 0) → List Item → Type 0
All Q [] = Unit {0}
All Q (i ∷ items) = Q i × All Q items

-- It follows from R of each stream, by its levels, its place and its bytes: from a stream to its first record, to what is behind it and to the stream inside.
module _ (table : List ℕ) (Q : Item → Type 0) (R : (levels place : ℕ) → List ℕ → Type 0) where
  none : All Q []
  unfolding All
  none = tt

  all_record : (i : Item) (a b : List Item) → Q i → All Q a → All Q b → All Q (i ∷ (a ++ b))
  unfolding All
  all_record i [] b q h k = (q, k)
  all_record i (j ∷ a) b q h k = (q, all_record j a b h.0 h.1 k)

  all_framed : (a : Answer Frame) (f : Frame → List Item) → ((x : Frame) → a ≡ Ok x → All Q (f x)) → ((q : Refusal) → a ≡ Err q → Q (broken q)) →
      All Q (where_framed a f)
  unfolding where_framed All
  all_framed (Ok x) f h k = h x refl
  all_framed (Err q) f h k = (k q refl, tt)

  module _
      (firsts : (ns l place low : ℕ) (bs : List ℕ) (x : Frame) → R l place bs → framing low place bs ≡ Ok x →
      Q (met (record_at ns l place bs x)) × R l (place + (x.head + x.size)) (behind x bs))
      (faults : (l place low : ℕ) (bs : List ℕ) (q : Refusal) → 0 < length bs → R l place bs → framing low place bs ≡ Err q → Q (broken q))
      (enters : (ns l : ℕ) (place : ℕ) (bs : List ℕ) (x : Frame) → Q (met (record_at ns (suc l) place bs x)) → R l (place + x.head) (value_in x bs)) where
    -- inside a value, which may be a stream
    abbrev Inside : (levels : ℕ) → Type 0
    Inside l = (k : Option Known) (start : ℕ) (v : List ℕ) → ((m : ℕ) → l ≡ suc m → R m start v) → All Q (inside (entering table l) k start v)

    abbrev Entered : (levels : ℕ) → Type 0
    Entered l = (n start : ℕ) (v : List ℕ) → ((m : ℕ) → l ≡ suc m → R m start v) → All Q (entering table l n start v)

    by_form : (l : ℕ) → Entered l → Inside l
    unfolding inside
    by_form l h None start v r = none
    by_form l h (Some k) start v r = pick_all (All Q) (eqb k.form 5) _ _ (λ _. h k.parameter start v r) (λ _. none)

    walk_by : (ns l : ℕ) → Inside l → (c place low : ℕ) (bs : List ℕ) → R l place bs → All Q (walk (entering table l) table ns l c place low bs)
    unfolding walk
    walk_by ns l h zero place low bs r = none
    walk_by ns l h (suc c) place low [] r = none
    walk_by ns l h (suc c) place low (b ∷ bs) r =
        all_framed (framing low place (b ∷ bs)) _
        (λ x is.
        let q = firsts ns l place low (b ∷ bs) x r is in
        all_record (met (record_at ns l place (b ∷ bs) x)) _ _ q.0
        (h (lookup table ns x.kind) (place + x.head) (value_in x (b ∷ bs)) (λ m e. enters ns m place (b ∷ bs) x (rw e at q.0)))
        (walk_by ns l h c (place + (x.head + x.size)) (suc x.kind) (behind x (b ∷ bs)) q.1))
        (λ q is. faults l place low (b ∷ bs) q (omega arith) r is)

    all_entered : (l : ℕ) → Entered l
    unfolding entering
    all_entered zero n start v r = none
    all_entered (suc l) n start v r = walk_by n l (by_form l (all_entered l)) (length v) start 0 v (r l refl)

    pub all_inside : (l : ℕ) → Inside l
    all_inside l = by_form l (all_entered l)

    -- all that is met in a stream
    pub all_met : (ns l place low : ℕ) (bs : List ℕ) → R l place bs → All Q (met_in table ns l place low bs)
    all_met ns l place low bs r = walk_by ns l (all_inside l) (length bs) place low bs r
