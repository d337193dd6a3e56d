-- The core of demand 3: two tables keep what a third knows, and the reader of one accepts; then the other's answer is told by the records that the
-- third can enter. Assumes nothing.
use Rattle.std.specs.Prelude.{Ok, Err, Option, None, Some}
use mathlib.Core.Bool.{Bool, true, false}
use mathlib.Core.List.{List, [], ◌∷◌, ◌++◌}
use mathlib.Core.Path.{◌≡◌, refl, sym, ap, ◌∙◌}
use Prim.Native.Nat.{ℕ, suc, ◌*◌, ◌<◌}
use native.Mathlib.Omega.{arith}
use lib.Dec.{eqb}
use lib.ListN.{length}
use borrow.Author.Tests.{eqb-true, le-leb}
use Rattle.laws.specs.Test.{pick}
use Rattle.answer.specs.Answer.{Answer, mapped, fitting, ◌>>=◌}
use Rattle.answer.specs.declared.Refusal.{Refusal}
use Rattle.answer.proofs.Answer.{Both, both, then_accepted, then_refused, then_assoc, ensure_yes, mapped_accepted, fitted}
use Rattle.table.specs.Table.{checking, known, lookup}
use Rattle.table.specs.declared.Known.{Known}
use Rattle.stream.proofs.Items.{answering_record}
use Rattle.stream.proofs.Judging.{judging_outer, judging_fine}
use Rattle.stream.proofs.Records.{rows_append, none_inside}
use Rattle.stream.specs.Stream.{Record, knows, Item, met, own, answering, judged, mark_of, met_in, Row, per_row, row_of, rows_at, rows_in, outer, outer_from, judging, reading}
use Rattle.compatibility.specs.Demand.{enterable, verdict, Refuses, SameRow, SameRows}
use Rattle.compatibility.proofs.First.{none_empty, none_one, first_here}
use Rattle.compatibility.proofs.Outcome.{Outcome, accepts, refuses, outcome_behind, outcome_next}
use Rattle.compatibility.proofs.Twin.{Keeps, within, In, Twin, nothing, fault, kept, lacked, twin_walk, twin_inside}

-- either a record has the property and the table refuses it, or neither
pub data Decided (P : Record → Type 0) (table : List ℕ) (e : Record) : Type 0 where
  has : P e → Refuses (verdict table e) → Decided P table e
  lacks : (P e → ⊥) → (m : ℕ) → verdict table e ≡ Ok m → Decided P table e

-- a record's own fault by a table, and then what is met inside it
abbrev own_by : List ℕ → Record → Answer (Unit {0})
own_by table e = own (knows table e) e.levels e.place e.kind e.value

abbrev entered : List ℕ → Record → Answer (List Record)
entered table e = own_by table e >>= λ _. answering table (within table e)

-- the verdict is its answer
verdict_is : (table : List ℕ) (e : Record) → verdict table e ≡ (entered table e >>= λ _. Ok (mark_of (knows table e) e.value))
unfolding judged
verdict_is table e = sym (then_assoc (own_by table e) (λ _. answering table (within table e)) (λ _. Ok (mark_of (knows table e) e.value)))

verdict_refused : {M : Type 0} (x : Answer M) (m : ℕ) (r : Refusal) → (x >>= λ _. Ok m) ≡ Err r → x ≡ Err r
unfolding ◌>>=◌
verdict_refused (Ok a) m r h = absurd (let z : ◌≡◌ {A = ℕ} 0 1 = cc in omega arith)
verdict_refused (Err q) m r h = cc

-- an answer of something made from what was accepted, as one question after the other
mapped_next : {A B : Type 0} (f : A → B) (x : Answer A) → mapped f x ≡ (x >>= λ a. Ok (f a))
unfolding ◌>>=◌
mapped_next f (Ok a) = refl
mapped_next f (Err r) = refl

-- the same records are as many
same_length : (older : List ℕ) (ns : ℕ) (rs ss : List Row) → SameRows older ns rs ss → length rs ≡ length ss
unfolding SameRows
same_length older ns [] [] h = refl
same_length older ns [] (s ∷ ss) h = absurd h
same_length older ns (r ∷ rs) [] h = absurd h
same_length older ns (r ∷ rs) (s ∷ ss) h = ap suc (same_length older ns rs ss h.1)

-- The reader of U accepts, that of W answers. Of the records that the third table, `old`, lacks, W refuses those with P.
module _ (old U W : List ℕ) (keeps-U : Keeps old U) (keeps-W : Keeps old W) (P : Record → Type 0)
    (only-lacking : (e : Record) → P e → knows old e ≡ None)
    (decides : (e : Record) → e.place < e.start → knows old e ≡ None → (m : ℕ) → verdict U e ≡ Ok m → Decided P W e) where
  module _ (ns : ℕ) where
    -- the same outer rows
    abbrev Same : (fs gs : List Record) → Type 0
    Same fs gs = SameRows old ns (rows_at U 3 fs) (rows_at W 3 gs)

    same_mark : (k : Option Known) (namespace kind : ℕ) (v : List ℕ) → lookup old namespace kind ≡ k → (k ≡ None → ⊥) →
        mark_of (lookup U namespace kind) v ≡ mark_of (lookup W namespace kind) v
    same_mark None namespace kind v is some = absurd (some refl)
    same_mark (Some k) namespace kind v is some = rw (keeps-U namespace kind k.form k.parameter is, keeps-W namespace kind k.form k.parameter is)

    same_row : (e : Record) → e.namespace ≡ ns → SameRow old ns (row_of U e) (row_of W e)
    same_row e at =
        record {
          kind = refl;
          start = refl;
          size = refl;
          mark = λ some. same_mark (lookup old e.namespace e.kind) e.namespace e.kind e.value refl (rw at some);
        }

    -- behind the same record
    same_more : (e : Record) → In ns e → (fs gs : List Record) → Same fs gs → Same (e ∷ fs) (e ∷ gs)
    unfolding rows_at pick SameRows
    same_more e at fs gs h = go (eqb e.levels 3) refl
      where
        go : (c : Bool) → eqb e.levels 3 ≡ c → SameRows old ns (pick c (row_of U e ∷ rows_at U 3 fs) (rows_at U 3 fs)) (pick c (row_of W e ∷ rows_at W 3 gs) (rows_at W 3 gs))
        go true is = (same_row e (at.1 (eqb-true e.levels 3 is)), h)
        go false is = h

    -- what is inside a record has no outer rows
    none_more : (table : List ℕ) (e : Record) → In ns e → (m fs : List Record) → answering table (within table e) ≡ Ok m →
        rows_at table 3 (m ++ fs) ≡ rows_at table 3 fs
    none_more table e at m fs h = rw (rows_append table 3 m fs, none_inside table 3 e.levels at.0 (knows table e) e.start e.value m h)

    -- where U's reader accepts, the records es tell what W's answers
    abbrev Agrees : (es : List Record) (u w : Answer (List Record)) → Type 0
    Agrees es u w = (fs : List Record) → u ≡ Ok fs → Outcome P W (Same fs) es w

    -- a record that the third table has
    agree_kept : (e : Record) (form n : ℕ) → In ns e → knows old e ≡ known form n → (es : List Record) (u w : Answer (List Record)) → Agrees es u w →
        Agrees (e ∷ es) (own_by U e >>= λ _. u >>= λ rest. Ok (e ∷ rest)) (own_by W e >>= λ _. w >>= λ rest. Ok (e ∷ rest))
    agree_kept e form n at is es u w t fs h =
        let a = both _ _ fs h in
        let b = both u _ fs a.second in
        let whole : fs ≡ e ∷ b.is = cc b.second in
        let fine : own_by W e ≡ Ok tt =
        ap (λ k. own k e.levels e.place e.kind e.value) (keeps-W _ _ form n is ∙ sym (keeps-U _ _ form n is)) ∙ a.first in
        rw (then_accepted tt _ _ fine, whole)
        (outcome_behind (none_one P e (λ p. let q = only-lacking e p in let z : ◌≡◌ {A = ℕ} 0 1 = cc in omega arith))
        (outcome_next (t b.is b.first) (λ gs same. (e ∷ gs, refl, same_more e at b.is gs same))))

    -- one that it lacks
    agree_lacked : (e : Record) → In ns e → knows old e ≡ None → e.place < e.start → (es : List Record) (u w : Answer (List Record)) → Agrees es u w →
        Agrees (e ∷ es) (entered U e >>= λ m. u >>= λ rest. Ok (e ∷ (m ++ rest))) (entered W e >>= λ m. w >>= λ rest. Ok (e ∷ (m ++ rest)))
    agree_lacked e at is placed es u w t fs h = go (decides e placed is _ (verdict_is U e ∙ then_accepted a.is _ _ a.first))
      where
        a : Both (entered U e) (λ m. u >>= λ rest. Ok (e ∷ (m ++ rest))) fs
        a = both _ _ fs h

        b : Both u (λ rest. Ok (e ∷ (a.is ++ rest))) fs
        b = both u _ fs a.second

        whole : fs ≡ e ∷ (a.is ++ b.is)
        whole = cc b.second

        go : Decided P W e → Outcome P W (Same fs) (e ∷ es) (entered W e >>= λ m. w >>= λ rest. Ok (e ∷ (m ++ rest)))
        go (has p r) =
            let told = verdict_refused (entered W e) _ r.0 (sym (verdict_is W e) ∙ r.1) in
            refuses e (first_here P e es p) (record { placed = placed; refusal = r.0; judges = r.1; answers = then_refused r.0 _ _ told })
        go (lacks p m q) =
            let d = both (entered W e) _ m (sym (verdict_is W e) ∙ q) in
            rw (then_accepted d.is _ _ d.first, whole)
            (outcome_behind (none_one P e p)
            (outcome_next (t b.is b.first)
            (λ gs same. (
              e ∷ (d.is ++ gs),
              refl,
              same_more e at (a.is ++ b.is) (d.is ++ gs)
                  (rw (none_more U e at a.is b.is (both _ _ a.is a.first).second, none_more W e at d.is gs (both _ _ d.is d.first).second) same),
            ))))

    answering_entered : (table : List ℕ) (e : Record) (rest : List Item) →
        answering table (met e ∷ (within table e ++ rest)) ≡ (entered table e >>= λ p. answering table rest >>= λ q. Ok (e ∷ (p ++ q)))
    answering_entered table e rest = answering_record table e (within table e) rest ∙ sym (then_assoc (own_by table e) _ _)

    agree_items : {es : List Record} {us ws : List Item} → Twin old U W ns es us ws → Agrees es (answering U us) (answering W ws)
    unfolding answering rows_at SameRows
    agree_items nothing fs h = accepts (none_empty P) [] refl (let e : fs ≡ [] = cc in rw e tt)
    agree_items (fault r t) fs h = absurd (let z : ◌≡◌ {A = ℕ} 0 1 = cc in omega arith)
    agree_items (kept e form n at is t) fs h = agree_kept e form n at is _ _ _ (λ gs g. agree_items t gs g) fs h
    agree_items (lacked {us = us} {ws = ws} e at is placed t) fs h =
        rw (answering_entered W e ws) (agree_lacked e at is placed _ _ _ (λ gs g. agree_items t gs g) fs (sym (answering_entered U e us) ∙ h))

    -- the whole stream
    agree_outer : (s : List ℕ) (rs : List Row) → outer U ns s ≡ Ok rs → Outcome P W (SameRows old ns rs) (enterable old ns s) (outer W ns s)
    unfolding outer_from rows_in
    agree_outer s rs h =
        let a = mapped_accepted (rows_at U 3) (answering U (met_in U ns 3 0 0 s)) rs h in
        rw (mapped_next (rows_at W 3) (answering W (met_in W ns 3 0 0 s)), ← a.2)
        (outcome_next
        (agree_items (twin_walk old U W ns keeps-U keeps-W ns 3 (omega arith) (λ _. refl) (twin_inside old U W ns keeps-U keeps-W 3 (omega arith)) (length s) 0 0 s)
        a.0 a.1)
        (λ gs same. (rows_at W 3 gs, refl, same)))

    -- the whole answer: the tests around the records go the same way
    pub agree : checking W ≡ Ok tt → (s : List ℕ) (room : ℕ) (rs : List Row) → reading U ns s room ≡ Ok rs →
        Outcome P W (SameRows old ns rs) (enterable old ns s) (reading W ns s room)
    unfolding fitting
    agree W-ok s room rs h =
        let d = fitted (λ rows. per_row * length rows) room (judging U ns s) rs h in
        let f = judging_fine 0 U ns s rs d.was in
        rw (judging_outer 0 W ns s W-ok f.bounded f.short)
        (outcome_next (agree_outer s rs f.walked)
        (λ ss same. (ss, ensure_yes _ _ _ (le-leb (per_row * length ss) room (rw (same_length old ns rs ss same) at d.fits)), same)))
