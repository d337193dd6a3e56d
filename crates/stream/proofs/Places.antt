-- Where a refusal of a stream lies, and what is missing there. Assumes nothing.
use Rattle.std.specs.Prelude.{Ok, Err, Option, None, Some}
use mathlib.Core.Bool.{Bool}
use mathlib.Core.List.{List, [], ◌∷◌}
use mathlib.Core.Logic.{⊎_elim}
use mathlib.Core.Path.{◌≡◌, refl, sym, ap, ◌∙◌}
use Prim.Native.Nat.{ℕ, zero, suc, ◌+◌, ◌%◌, ◌≤◌, ◌<◌}
use native.Mathlib.Omega.{arith}
use lib.ListN.{length, length-drop}
use borrow.Author.Tests.{ne_eqb}
use Rattle.laws.proofs.Lists.{length_part}
use Rattle.laws.proofs.Test.{pick_all, by_order}
use Rattle.answer.specs.Answer.{refuse, mapped, Refusing, accepting, refusing, ensure}
use Rattle.answer.specs.Missing.{CutShort, Counted}
use Rattle.answer.specs.declared.Refusal.{Refusal}
use Rattle.answer.proofs.Answer.{then_refuses, not_refused, same_refused, refusing_is, refusing_less, refusing_then, refusing_ensure, refusing_mapped}
use Rattle.answer.proofs.Missing.{Whole, whole_uncut, whole_counted}
use Rattle.form.specs.Form.{exactly, integer, items, point, address, plain}
use Rattle.frame.specs.Frame.{Frame, framing, value_in, behind}
use Rattle.frame.proofs.Laws.{framed, unframed}
use Rattle.frame.proofs.CutShort.{framing_counted}
use Rattle.table.specs.Table.{known}
use Rattle.table.specs.declared.Known.{Known}
use Rattle.stream.specs.Stream.{record_at, knows, Item, met, broken, inside, entering, met_in, own, answering, judged, rows_at, rows_in}
use Rattle.stream.proofs.Values.{judged_odd, judged_even, judged_flat, judged_deep, judged_stream}
use Rattle.stream.proofs.Walk.{All, all_inside, all_met}

-- What holds of 7 to 11 at a record's place holds of the record's own fault.
module _ (P : Refusal → Type 0) (place kind : ℕ) (at : (number : ℕ) → 7 ≤ number → number ≤ 11 → P (refuse number place kind)) where
  fault : (c : Bool) (number : ℕ) → 7 ≤ number → number ≤ 11 → Refusing P (ensure c (refuse number place kind))
  fault c number least most = refusing_ensure P c (refuse number place kind) (at number least most)

  -- a value by its form, where it is no stream
  pub plain_refusing : (form n : ℕ) (v : List ℕ) → Refusing P (plain form n place kind v)
  unfolding plain exactly integer items point address
  plain_refusing form n v =
      pick_all (Refusing P) _ _ _ (λ _. eight _) λ _.
      pick_all (Refusing P) _ _ _ (λ _. refusing_then _ (eight _) (λ _ _. fault _ 9 (omega arith) (omega arith))) λ _.
      pick_all (Refusing P) _ _ _ (λ _. eight _) λ _.
      pick_all (Refusing P) _ _ _ (λ _. refusing_then _ (eight _) (λ _ _. fault _ 10 (omega arith) (omega arith))) λ _.
      pick_all (Refusing P) _ _ _ (λ _. eight _) λ _. accepting tt
    where
      eight : (c : Bool) → Refusing P (ensure c (refuse 8 place kind))
      eight c = fault c 8 (omega arith) (omega arith)

  own_refusing : (k : Option Known) (l : ℕ) (v : List ℕ) → Refusing P (own k l place kind v)
  unfolding own
  own_refusing None l v = fault _ 7 (omega arith) (omega arith)
  own_refusing (Some k) l v = pick_all (Refusing P) _ _ _ (λ _. fault _ 11 (omega arith) (omega arith)) (λ _. plain_refusing k.form k.parameter v)

-- nothing is missing from these
whole : (place kind number : ℕ) → 7 ≤ number → number ≤ 11 → Whole (refuse number place kind)
whole place kind number least most =
    (rw (ne_eqb number 1 (λ e. omega arith), ne_eqb number 4 (λ e. omega arith), ne_eqb number 6 (λ e. omega arith), ne_eqb number 13 (λ e. omega arith)), refl)

-- a value that is a stream, refused as one
pub record Nested (table : List ℕ) (l : ℕ) (k : Option Known) (start : ℕ) (v : List ℕ) (r : Refusal) : Type 0 where
  pub namespace : ℕ
  pub levels : ℕ
  pub has : k ≡ known 5 namespace
  pub left : l ≡ suc levels
  pub refuses : rows_in table namespace levels start 0 v ≡ Err r

-- Where something is cut short in a value, it is one.
module _ (table : List ℕ) (place kind start : ℕ) (v : List ℕ) (r : Refusal) (cut : CutShort r) where
  flat_cut : (l form n : ℕ) → (form ≡ 5 → ⊥) → judged table l (known form n) place kind start v ≡ Err r → ⊥
  flat_cut l form n other e =
      let p : plain form n place kind v ≡ Err r = sym (judged_flat table l (known form n) place kind start v form n refl other) ∙ ap (mapped (λ _. tt)) e in
      whole_uncut r (refusing_is (plain_refusing Whole place kind (whole place kind) form n v) p) cut

  deep_cut : (l form n : ℕ) → form ≡ 5 → judged table l (known form n) place kind start v ≡ Err r → Nested table l (known form n) start v r
  deep_cut zero form n five e =
      let is = same_refused (judged_deep table 0 (known form n) place kind start v form n refl five refl) e in
      absurd (whole_uncut (refuse 11 place kind) (whole place kind 11 (omega arith) (omega arith)) (rw (← is) at cut))
  deep_cut (suc m) form n five e =
      record {
        namespace = n;
        levels = m;
        has = rw five;
        left = refl;
        refuses =
            ⊎_elim (λ h. h) (λ h. absurd (not_refused refl h.2))
            (then_refuses _ _ r (sym (judged_stream table (suc m) (known form n) place kind start v form n refl five m refl) ∙ e));
      }

  pub judged_cut : (l : ℕ) (k : Option Known) → judged table l k place kind start v ≡ Err r → Nested table l k start v r
  judged_cut l None e =
      absurd
      (by_order (kind % 2) 1
      (λ even.
      let is = same_refused (judged_even table l None place kind start v refl (λ odd. omega arith)) e in
      whole_uncut (refuse 7 place kind) (whole place kind 7 (omega arith) (omega arith)) (rw (← is) at cut))
      (λ odd. not_refused (judged_odd table l None place kind start v refl (omega arith)) e))
  judged_cut l (Some k) e =
      by_order k.form 5 (λ h. absurd (flat_cut l k.form k.parameter (λ z. omega arith) e)) λ h.
      by_order 5 k.form (λ g. absurd (flat_cut l k.form k.parameter (λ z. omega arith) e)) λ g.
      deep_cut l k.form k.parameter (omega arith) e

module _ (lo hi : ℕ) where
  -- a refusal, 1 to 11, between two places, that counts what is missing
  abbrev pub Between : Refusal → Type 0
  Between r = (1 ≤ r.number) × (r.number ≤ 11) × (lo ≤ r.place) × (r.place < hi) × Counted r

  module _ (place kind : ℕ) (from : lo ≤ place) (to : place < hi) where
    own_between : (k : Option Known) (l : ℕ) (v : List ℕ) → Refusing Between (own k l place kind v)
    own_between k l v =
        own_refusing Between place kind
        (λ number least most. (omega arith, omega arith, from, to, whole_counted (refuse number place kind) (whole place kind number least most))) k l v

  -- a stream, and what is met in it
  abbrev Stream : (levels place : ℕ) → List ℕ → Type 0
  Stream l place bs = (lo ≤ place) × (place + length bs ≤ hi)

  abbrev Met : Item → Type 0
  Met (met e) = (lo ≤ e.place) × (e.place < e.start) × (e.start + length e.value ≤ hi)
  Met (broken r) = Between r

  answering_between : (table : List ℕ) (more : List Item) → All Met more → Refusing Between (answering table more)
  unfolding answering All
  answering_between table [] h = accepting []
  answering_between table (broken r ∷ more) h = refusing h.0
  answering_between table (met e ∷ more) h =
      refusing_then _ (own_between e.place e.kind h.0.0 (omega (arith, h.0)) (knows table e) e.levels e.value)
      (λ _ _. refusing_then _ (answering_between table more h.1) (λ _ _. accepting _))

  firsts : (ns l place low : ℕ) (bs : List ℕ) (x : Frame) → Stream l place bs → framing low place bs ≡ Ok x →
      Met (met (record_at ns l place bs x)) × Stream l (place + (x.head + x.size)) (behind x bs)
  firsts ns l place low bs x r is =
      let f = framed low place bs x is in
      ((r.0, omega arith, rw (length_part bs x.head x.size f.2) (omega arith)), (omega arith, simp length-drop (omega arith)))

  faults : (l place low : ℕ) (bs : List ℕ) (q : Refusal) → 0 < length bs → Stream l place bs → framing low place bs ≡ Err q → Between q
  faults l place low bs q some r is =
      let u = unframed low place bs q is in
      (omega arith, omega arith, omega arith, omega arith, refusing_is (framing_counted low place bs) is)

  enters : (ns l place : ℕ) (bs : List ℕ) (x : Frame) → Met (met (record_at ns (suc l) place bs x)) → Stream l (place + x.head) (value_in x bs)
  enters ns l place bs x q = (omega (arith, q), q.2)

  -- a record with what is inside it
  pub judged_between : (table : List ℕ) (l : ℕ) (k : Option Known) (place kind start : ℕ) (v : List ℕ) → lo ≤ place → place < start → start + length v ≤ hi →
      Refusing Between (judged table l k place kind start v)
  unfolding judged
  judged_between table l k place kind start v from placed to =
      refusing_then _ (own_between place kind from (omega arith) k l v)
      (λ _ _. refusing_then _
      (answering_between table (inside (entering table l) k start v) (all_inside table Met Stream firsts faults enters l k start v (λ _ _. (omega arith, to))))
      (λ _ _. accepting _))

-- The refusal of a stream lies in it.
pub rows_between : (table : List ℕ) (ns l place low : ℕ) (bs : List ℕ) → Refusing (Between place (place + length bs)) (rows_in table ns l place low bs)
unfolding rows_in
rows_between table ns l place low bs =
    let hi = place + length bs in
    refusing_mapped (rows_at table l)
    (answering_between place hi table (met_in table ns l place low bs) (all_met table (Met place hi) (Stream place hi) (firsts place hi) (faults place hi) (enters place hi) ns l place low bs (omega arith, omega arith)))

-- Missing is above 0 in it exactly where something is cut short; and so in that of a record, with what is inside it.
pub rows_counted : (table : List ℕ) (ns l place low : ℕ) (bs : List ℕ) → Refusing Counted (rows_in table ns l place low bs)
rows_counted table ns l place low bs = refusing_less (λ r h. h.4) (rows_between table ns l place low bs)

pub judged_counted : (table : List ℕ) (l : ℕ) (k : Option Known) (place kind start : ℕ) (v : List ℕ) → Refusing Counted (judged table l k place kind start v)
unfolding judged
judged_counted table l k place kind start v =
    let hi = start + length v in
    refusing_then _
    (own_refusing Counted place kind (λ number least most. whole_counted (refuse number place kind) (whole place kind number least most)) k l v)
    (λ _ _. refusing_then _
    (refusing_less (λ r h. h.4)
    (answering_between start hi table (inside (entering table l) k start v)
    (all_inside table (Met start hi) (Stream start hi) (firsts start hi) (faults start hi) (enters start hi) l k start v (λ _ _. (omega arith, omega arith)))))
    (λ _ _. accepting _))
