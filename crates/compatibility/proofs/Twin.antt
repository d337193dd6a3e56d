-- Two walks over the same bytes, by tables that both keep what a third knows: the same records, but for what is inside those that the third lacks.
-- Assumes nothing.
use Rattle.std.specs.Prelude.{Ok, Err, Option, None, Some}
use mathlib.Core.Bool.{Bool, true, false}
use mathlib.Core.List.{List, [], ◌∷◌, ◌++◌, append_assoc}
use mathlib.Core.Path.{◌≡◌, refl, ap}
use Prim.Native.Nat.{ℕ, zero, suc, ◌+◌, ◌≤◌, ◌<◌}
use native.Mathlib.Omega.{arith}
use lib.Dec.{eqb}
use lib.ListN.{length}
use Rattle.answer.specs.Answer.{Answer}
use Rattle.answer.specs.declared.Refusal.{Refusal}
use Rattle.frame.specs.Frame.{Frame, framing, behind}
use Rattle.frame.proofs.Laws.{framed}
use Rattle.laws.specs.Test.{pick}
use Rattle.table.specs.Table.{known, lookup}
use Rattle.table.specs.declared.Known.{Known}
use Rattle.stream.specs.Stream.{Record, record_at, knows, Item, met, broken, inside, where_framed, walk, entering, records_of}

-- a table knows what another knows, and as the other does
abbrev pub Keeps : (older newer : List ℕ) → Type 0
Keeps older newer = (namespace kind form parameter : ℕ) → lookup older namespace kind ≡ known form parameter → lookup newer namespace kind ≡ known form parameter

-- what a table meets inside a record
abbrev pub within : List ℕ → Record → List Item
within table e = inside (entering table e.levels) (knows table e) e.start e.value

-- a record of a stream, or inside one, whose outer records are of a namespace
abbrev pub In : (namespace : ℕ) → Record → Type 0
In ns e = (e.levels ≤ 3) × (e.levels ≡ 3 → e.namespace ≡ ns)

-- What the walks of U and W meet, and the records that the third table can enter.
pub data Twin (old U W : List ℕ) (ns : ℕ) : List Record → List Item → List Item → Type 0 where
  nothing : Twin old U W ns [] [] []
  fault : {es : List Record} {us ws : List Item} (r : Refusal) → Twin old U W ns es us ws → Twin old U W ns es (broken r ∷ us) (broken r ∷ ws)
  kept : {es : List Record} {us ws : List Item} (e : Record) (form n : ℕ) → In ns e → knows old e ≡ known form n → Twin old U W ns es us ws →
      Twin old U W ns (e ∷ es) (met e ∷ us) (met e ∷ ws)
  lacked : {es : List Record} {us ws : List Item} (e : Record) → In ns e → knows old e ≡ None → e.place < e.start → Twin old U W ns es us ws →
      Twin old U W ns (e ∷ es) (met e ∷ (within U e ++ us)) (met e ∷ (within W e ++ ws))

records_append : (a b : List Item) → records_of (a ++ b) ≡ records_of a ++ records_of b
unfolding records_of
records_append [] b = refl
records_append (met e ∷ a) b = ap {B = List Record} (λ (l : List Record). e ∷ l) (records_append a b)
records_append (broken r ∷ a) b = records_append a b

module _ (old U W : List ℕ) (ns : ℕ) where
  twin_append : {es fs : List Record} {us ws xs ys : List Item} → Twin old U W ns es us ws → Twin old U W ns fs xs ys →
      Twin old U W ns (es ++ fs) (us ++ xs) (ws ++ ys)
  twin_append nothing b = b
  twin_append (fault r a) b = fault r (twin_append a b)
  twin_append (kept e form n at is a) b = kept e form n at is (twin_append a b)
  twin_append {fs = fs} {xs = xs} {ys = ys} (lacked {es = es} {us = us} {ws = ws} e at is placed a) b =
      rw (append_assoc (within U e) us xs, append_assoc (within W e) ws ys) (lacked e at is placed (twin_append a b))

  module _ (keeps-U : Keeps old U) (keeps-W : Keeps old W) where
    abbrev TwinInside : (levels : ℕ) → Type 0
    TwinInside l = (n start : ℕ) (v : List ℕ) → Twin old U W ns (records_of (entering old l n start v)) (entering U l n start v) (entering W l n start v)

    -- a value that all three enter or none
    twin_form : (c : Bool) (o u w : List Item) → Twin old U W ns (records_of o) u w → Twin old U W ns (records_of (pick c o [])) (pick c u []) (pick c w [])
    unfolding pick records_of
    twin_form true o u w t = t
    twin_form false o u w t = nothing

    -- a record, what is inside it and what is behind
    twin_record : (e : Record) → In ns e → e.place < e.start → TwinInside e.levels → (k : Option Known) → knows old e ≡ k → (o u w : List Item) →
        Twin old U W ns (records_of o) u w →
        Twin old U W ns (records_of (met e ∷ (inside (entering old e.levels) k e.start e.value ++ o))) (met e ∷ (within U e ++ u)) (met e ∷ (within W e ++ w))
    unfolding records_of inside
    twin_record e at placed inner None is o u w t = lacked e at is placed t
    twin_record e at placed inner (Some k) is o u w t =
        rw (
          records_append (pick (eqb k.form 5) (entering old e.levels k.parameter e.start e.value) []) o,
          keeps-U _ _ k.form k.parameter is,
          keeps-W _ _ k.form k.parameter is,
        )
        (kept e k.form k.parameter at is (twin_append (twin_form (eqb k.form 5) _ _ _ (inner k.parameter e.start e.value)) t))

    -- a frame that is there or not
    twin_framed : (a : Answer Frame) (o u w : Frame → List Item) → ((x : Frame) → a ≡ Ok x → Twin old U W ns (records_of (o x)) (u x) (w x)) →
        Twin old U W ns (records_of (where_framed a o)) (where_framed a u) (where_framed a w)
    unfolding where_framed records_of
    twin_framed (Ok x) o u w h = h x refl
    twin_framed (Err r) o u w h = fault r nothing

    pub twin_walk : (m l : ℕ) → l ≤ 3 → (l ≡ 3 → m ≡ ns) → TwinInside l → (c place low : ℕ) (bs : List ℕ) →
        Twin old U W ns (records_of (walk (entering old l) old m l c place low bs)) (walk (entering U l) U m l c place low bs) (walk (entering W l) W m l c place low bs)
    unfolding walk records_of
    twin_walk m l few at inner zero place low bs = nothing
    twin_walk m l few at inner (suc c) place low [] = nothing
    twin_walk m l few at inner (suc c) place low (b ∷ bs) =
        twin_framed (framing low place (b ∷ bs)) _ _ _ λ x is.
        twin_record (record_at m l place (b ∷ bs) x) (few, at) (omega (arith, framed low place (b ∷ bs) x is)) inner (lookup old m x.kind) refl _ _ _
        (twin_walk m l few at inner c (place + (x.head + x.size)) (suc x.kind) (behind x (b ∷ bs)))

    pub twin_inside : (l : ℕ) → l ≤ 3 → TwinInside l
    unfolding entering records_of
    twin_inside zero few n start v = nothing
    twin_inside (suc l) few n start v =
        twin_walk n l (omega arith) (λ e. absurd (omega (arith, e))) (twin_inside l (omega arith)) (length v) start 0 v
