-- The judgement of a value does not hang on where it lies, and its refusal lies at its record or inside it. Assumes nothing.
use Rattle.std.specs.Prelude.{Option, None, Some}
use mathlib.Core.Bool.{Bool, true, false}
use mathlib.Core.List.{List, [], ◌∷◌, ◌++◌}
use mathlib.Core.Path.{◌≡◌, refl}
use Prim.Native.Nat.{ℕ, zero, suc, ◌+◌, ◌≤◌, ◌<◌}
use native.Mathlib.Omega.{arith}
use lib.Dec.{eqb}
use lib.ListN.{length, drop, length-drop}
use borrow.Author.Tests.{leb-true}
use Rattle.bigsize.specs.BigSize.{reading}
use Rattle.form.specs.Form.{exactly, integer, items, point, address, plain}
use Rattle.frame.specs.Frame.{sized, framing, value_in, behind}
use Rattle.laws.proofs.Lists.{length_part}
use Rattle.answer.specs.Answer.{lacking, refuse, ensure}
use Rattle.answer.specs.declared.Refusal.{Refusal}
use Rattle.table.specs.Table.{lookup}
use Rattle.table.specs.declared.Known.{Known}
use Rattle.laws.specs.Test.{pick}
use Rattle.stream.specs.Stream.{Record, record_at, knows, Item, met, inside, walk, entering, own, answering, judged, mark_of}
use Rattle.stream.proofs.Items.{answering_framed, answering_record}
use Rattle.stream_writer.specs.Alike.{Alike, accepts}
use Rattle.stream_writer.proofs.Alike.{Never, Any, alike_then, alike_any, alike_less, alike_ensure, alike_pick, alike_retold}

-- a refusal of a record's value: at the record's place and of its type, or inside the value
pub data InRecord (place kind start : ℕ) (v : List ℕ) (r : Refusal) : Type 0 where
  at_record : r.place ≡ place → r.kind ≡ kind → InRecord place kind start v r
  inside_it : start ≤ r.place → r.place < start + length v → InRecord place kind start v r

-- a refusal between two places
abbrev Between : (from to : ℕ) → Refusal → Type 0
Between from to r = (from ≤ r.place) × (r.place < to)

-- one fault told at two places; of the second more is said
abbrev pub Same : (Refusal → Type 0) → Refusal → Refusal → Type 0
Same P q r = (q ≡ lacking r.number q.place r.kind r.missing) × P r

-- In what follows p and q are two places, s and t where the value starts.

-- a record's frame, read at two places
alike_framing : (low p q : ℕ) (bs : List ℕ) →
    Alike Never (Same (λ r. r.place ≡ q)) (λ x y. (x ≡ y) × (y.head + y.size ≤ length bs)) (framing low p bs) (framing low q bs)
unfolding framing sized
alike_framing low p q bs =
    alike_then (alike_retold _ _ (reading bs) (λ _. (refl, refl))) λ t u is.
    rw is
    (alike_then (alike_ensure _ _ _ (refl, refl)) λ _ _ _.
    alike_then (alike_retold _ _ (reading (drop u.width bs)) (λ _. (refl, refl))) λ n m is.
    rw is
    (alike_then (alike_ensure _ _ _ (refl, refl)) λ _ _ whole.
    accepts (refl, leb-true _ _ whole)))

module _ (p q kind s t : ℕ) (v : List ℕ) where
  -- a fault of the record itself
  alike_own : (c : Bool) (number : ℕ) → Alike Never (Same (InRecord q kind t v)) Any (ensure c (refuse number p kind)) (ensure c (refuse number q kind))
  alike_own c number = alike_any (alike_ensure c _ _ (refl, at_record refl refl))

  alike_plain : (form n : ℕ) → Alike Never (Same (InRecord q kind t v)) Any (plain form n p kind v) (plain form n q kind v)
  unfolding plain exactly integer items point address
  alike_plain form n =
      alike_pick _ (alike_own _ 8)
      (alike_pick _ (alike_then (alike_own _ 8) λ _ _ _. alike_own _ 9)
      (alike_pick _ (alike_own _ 8)
      (alike_pick _ (alike_then (alike_own _ 8) λ _ _ _. alike_own _ 10)
      (alike_pick _ (alike_own _ 8)
      (accepts tt)))))

  -- whatever the table knows of its type
  alike_fault : (k : Option Known) (l : ℕ) → Alike Never (Same (InRecord q kind t v)) Any (own k l p kind v) (own k l q kind v)
  unfolding own
  alike_fault None l = alike_own _ 7
  alike_fault (Some k) l = alike_pick (eqb k.form 5) (alike_own _ 11) (alike_plain k.form k.parameter)

-- a refusal of a value lies where its record lies
lies_in : {place kind start : ℕ} {v : List ℕ} {r : Refusal} (to : ℕ) → InRecord place kind start v r → place ≤ start → place < to → start + length v ≤ to →
    Between place to r
lies_in to (at_record at of) behind before whole = omega arith
lies_in to (inside_it low high) behind before whole = omega arith

module _ (table : List ℕ) where
  -- a value read as a stream, and what is inside one, each at two places
  abbrev AlikeEntered : (levels : ℕ) → Type 0
  AlikeEntered l = (n s t : ℕ) (v : List ℕ) → Alike Never (Same (Between t (t + length v))) Any (answering table (entering table l n s v)) (answering table (entering table l n t v))

  abbrev AlikeInside : (levels : ℕ) → Type 0
  AlikeInside l = (k : Option Known) (s t : ℕ) (v : List ℕ) →
      Alike Never (Same (Between t (t + length v))) Any (answering table (inside (entering table l) k s v)) (answering table (inside (entering table l) k t v))

  alike_form : (Q : Refusal → Refusal → Type 0) (c : Bool) (a b : List Item) → Alike Never Q Any (answering table a) (answering table b) →
      Alike Never Q Any (answering table (pick c a [])) (answering table (pick c b []))
  unfolding pick answering
  alike_form Q true a b h = h
  alike_form Q false a b h = accepts tt

  alike_inside : (l : ℕ) → AlikeEntered l → AlikeInside l
  unfolding inside answering
  alike_inside l h None s t v = accepts tt
  alike_inside l h (Some k) s t v = alike_form _ (eqb k.form 5) _ _ (h k.parameter s t v)

  -- a record, what is inside it and what is behind it
  alike_record : {Q : Refusal → Refusal → Type 0} (r s : Record) (a b u w : List Item) →
      Alike Never Q Any (own (knows table r) r.levels r.place r.kind r.value) (own (knows table s) s.levels s.place s.kind s.value) →
      Alike Never Q Any (answering table a) (answering table b) → Alike Never Q Any (answering table u) (answering table w) →
      Alike Never Q Any (answering table (met r ∷ (a ++ u))) (answering table (met s ∷ (b ++ w)))
  alike_record r s a b u w fault within rest =
      rw (answering_record table r a u, answering_record table s b w)
      (alike_then fault λ _ _ _. alike_then within λ _ _ _. alike_then rest λ _ _ _. accepts tt)

  alike_walk : (l : ℕ) → AlikeInside l → (ns c p q low : ℕ) (bs : List ℕ) →
      Alike Never (Same (Between q (q + length bs))) Any (answering table (walk (entering table l) table ns l c p low bs)) (answering table (walk (entering table l) table ns l c q low bs))
  unfolding walk answering
  alike_walk l h ns zero p q low bs = accepts tt
  alike_walk l h ns (suc c) p q low [] = accepts tt
  alike_walk l h ns (suc c) p q low (b ∷ bs) =
      rw (answering_framed table (framing low p (b ∷ bs)) _, answering_framed table (framing low q (b ∷ bs)) _)
      (alike_then (alike_less (alike_framing low p q (b ∷ bs)) (λ _ _ f. (f.0, omega arith))) λ x y f.
      let v = value_in y (b ∷ bs) in
      let k = lookup table ns y.kind in
      let long : length v ≡ y.size = length_part (b ∷ bs) y.head y.size f.1 in
      rw f.0
      (alike_record (record_at ns l p (b ∷ bs) y) (record_at ns l q (b ∷ bs) y) (inside (entering table l) k (p + y.head) v)
      (inside (entering table l) k (q + y.head) v)
      (walk (entering table l) table ns l c (p + (y.head + y.size)) (suc y.kind) (behind y (b ∷ bs)))
      (walk (entering table l) table ns l c (q + (y.head + y.size)) (suc y.kind) (behind y (b ∷ bs)))
      (alike_less (alike_fault p q y.kind (p + y.head) (q + y.head) v k l)
      (λ _ _ g. (g.0, lies_in (q + suc (length bs)) g.1 (omega arith) (omega arith) (omega arith))))
      (alike_less (h k (p + y.head) (q + y.head) v) (λ _ _ g. (g.0, omega (arith, g.1))))
      (alike_less (alike_walk l h ns c (p + (y.head + y.size)) (q + (y.head + y.size)) (suc y.kind) (behind y (b ∷ bs)))
      (λ _ _ g. (g.0, omega (arith, g.1, length-drop (y.head + y.size) (b ∷ bs)))))))

  alike_entered : (l : ℕ) → AlikeEntered l
  unfolding entering answering
  alike_entered zero n s t v = accepts tt
  alike_entered (suc l) n s t v = alike_walk l (alike_inside l (alike_entered l)) n (length v) s t 0 v

  -- The judgement of a value at two places: the same mark, or the same refusal at two places, of which the second lies at its record or inside it.
  pub judged_anywhere : (l p q kind s t : ℕ) (v : List ℕ) (k : Option Known) →
      Alike Never (Same (InRecord q kind t v)) (λ _ m. m ≡ mark_of k v) (judged table l k p kind s v) (judged table l k q kind t v)
  unfolding judged
  judged_anywhere l p q kind s t v k =
      alike_then (alike_fault p q kind s t v k l) λ _ _ _.
      alike_then (alike_less (alike_inside l (alike_entered l) k s t v) (λ _ _ f. (f.0, inside_it f.1.0 f.1.1))) λ _ _ _.
      accepts refl
