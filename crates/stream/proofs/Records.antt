-- The rows of a stream, record by record, and what is left of them from a place on. Assumes nothing.
use Rattle.std.specs.Prelude.{Ok, Err, Option}
use mathlib.Core.Path.{◌≡◌, refl, sym, ap, ◌∙◌}
use mathlib.Core.List.{List, [], ◌∷◌, ◌++◌}
use Prim.Native.Nat.{ℕ, suc, ◌+◌, ◌≤◌, ◌<◌}
use native.Mathlib.Nat.{zero-add, add_assoc}
use native.Mathlib.Omega.{arith}
use lib.Dec.{eqb}
use lib.ListN.{length}
use borrow.Author.Tests.{eq-eqb, ne_eqb}
use Rattle.frame.specs.Frame.{Frame, framing, value_in, behind}
use Rattle.frame.proofs.Laws.{framed}
use Rattle.laws.proofs.Lists.{length_part}
use Rattle.laws.proofs.Test.{pick_yes, pick_no, pick_ap, pick_all}
use Rattle.answer.specs.Answer.{Answer, mapped, ◌>>=◌}
use Rattle.answer.specs.declared.Refusal.{Refusal}
use Rattle.answer.proofs.Answer.{then_accepted, then_refused, then_same, both, mapped_then}
use Rattle.table.specs.Table.{lookup}
use Rattle.table.specs.declared.Known.{Known}
use Rattle.stream.specs.Tally.{tally, knowns, counted, joined}
use Rattle.stream.specs.declared.Counts.{Counts}
use Rattle.stream.specs.Stream.{Record, record_at, Item, met, broken, inside, entering, records_of, own, answering, judged, mark_of, Row, row, row_of, rows_at, rows_in}
use Rattle.stream.proofs.Items.{answering_none, answering_framed, answering_record, answering_met}
use Rattle.stream.proofs.Walk.{walk_next, walk_end, All, all_inside}

-- the row of a record, by its frame
abbrev pub row_at : (place : ℕ) → Frame → (mark : ℕ) → Row
row_at place x mark = row x.kind (place + x.head) x.size mark

module _ (table : List ℕ) (l : ℕ) where
  -- the rows of two runs
  pub rows_append : (a b : List Record) → rows_at table l (a ++ b) ≡ rows_at table l a ++ rows_at table l b
  unfolding rows_at
  rows_append [] b = refl
  rows_append (r ∷ a) b =
      rw (rows_append a b)
      (sym (pick_ap {B = List Row} (λ (rows : List Row). rows ++ rows_at table l b) (eqb r.levels l) (row_of table r ∷ rows_at table l a) (rows_at table l a)))

  -- records deeper than a level
  abbrev Deeper : Item → Type 0
  Deeper (met r) = r.levels < l
  Deeper (broken q) = Unit {0}

  deeper_rows : (items : List Item) → All Deeper items → rows_at table l (records_of items) ≡ []
  unfolding All records_of rows_at
  deeper_rows [] h = refl
  deeper_rows (met r ∷ items) h = pick_no _ _ _ (ne_eqb r.levels l (λ e. omega (arith, h.0))) ∙ deeper_rows items h.1
  deeper_rows (broken q ∷ items) h = deeper_rows items h.1

  -- so it has no rows among those of that level
  pub none_inside : (m : ℕ) → m ≤ l → (k : Option Known) (start : ℕ) (v : List ℕ) (rs : List Record) → answering table (inside (entering table m) k start v) ≡ Ok rs →
      rows_at table l rs ≡ []
  none_inside m few k start v rs h =
      rw (answering_met table _ rs h)
      (deeper_rows (inside (entering table m) k start v)
      (all_inside table Deeper (λ n _ _. n < l) (λ _ _ _ _ _ _ r _. (r, r)) (λ _ _ _ _ _ _ _ _. tt) (λ _ _ _ _ _ q. omega (arith, q)) m k start v
      (λ n e. omega (arith, e))))

  -- a record, what is inside it without rows, and what is behind it
  chain : (r : Record) (m : ℕ) → r.levels ≡ l → m ≡ (row_of table r).mark → (x : Answer (Unit {0})) (a b : Answer (List Record)) →
      ((p : List Record) → a ≡ Ok p → rows_at table l p ≡ []) →
      mapped (rows_at table l) (x >>= λ _. a >>= λ p. b >>= λ q. Ok (r ∷ (p ++ q))) ≡
      ((x >>= λ _. a >>= λ _. Ok m) >>= λ mark.
      mapped (rows_at table l) b >>= λ rest. Ok (row r.kind r.start (length r.value) mark ∷ rest))
  unfolding ◌>>=◌ rows_at
  chain r m here is (Err t) a b none = refl
  chain r m here is (Ok t) (Err p) b none = refl
  chain r m here is (Ok t) (Ok p) (Err q) none = refl
  chain r m here is (Ok t) (Ok p) (Ok q) none =
      rw (
        pick_yes {A = List Row} (eqb r.levels l) (row_of table r ∷ rows_at table l (p ++ q)) (rows_at table l (p ++ q)) (eq-eqb r.levels l here),
        rows_append p q,
        none p refl,
        is,
      )

module _ (table : List ℕ) (ns l : ℕ) where
  -- the judgement of the value behind a frame
  abbrev pub judged_at : (place : ℕ) → List ℕ → Frame → Answer ℕ
  judged_at place bs x = judged table l (lookup table ns x.kind) place x.kind (place + x.head) (value_in x bs)

  -- The first record, and those behind it.
  pub rows_next : (place low : ℕ) (bs : List ℕ) → 0 < length bs →
      rows_in table ns l place low bs ≡
      (framing low place bs >>= λ x.
      judged_at place bs x >>= λ mark.
      rows_in table ns l (place + (x.head + x.size)) (suc x.kind) (behind x bs) >>= λ rest.
      Ok (row_at place x mark ∷ rest))
  unfolding rows_in judged
  rows_next place low bs some =
      ap (λ (i : List Item). mapped (rows_at table l) (answering table i)) (walk_next (entering table l) table ns l place low bs some)
      ∙ ap (mapped (rows_at table l)) (answering_framed table (framing low place bs) _)
      ∙ mapped_then (rows_at table l) (framing low place bs) _
      ∙ then_same (framing low place bs) _ _ λ x ex.
      let r = record_at ns l place bs x in
      let k = lookup table ns x.kind in
      ap (mapped (rows_at table l)) (answering_record table r (inside (entering table l) k r.start r.value) _)
      ∙ chain table l r (mark_of k r.value) refl refl (own k l place x.kind r.value) _ _ (none_inside table l l (omega arith) k r.start r.value)
      ∙ rw (length_part bs x.head x.size (framed low place bs x ex).2)

  pub rows_end : (place low : ℕ) (bs : List ℕ) → length bs ≡ 0 → rows_in table ns l place low bs ≡ Ok []
  unfolding rows_in rows_at
  rows_end place low bs e = rw (walk_end (entering table l) table ns l place low bs e, answering_none table)

  -- The answers at a record.
  module _ (place low : ℕ) (bs : List ℕ) (some : 0 < length bs) where
    pub rows_unframed : (r : Refusal) → framing low place bs ≡ Err r → rows_in table ns l place low bs ≡ Err r
    rows_unframed r e = rows_next place low bs some ∙ then_refused r _ _ e

    module _ (x : Frame) (ex : framing low place bs ≡ Ok x) where
      pub rows_refused : (r : Refusal) → judged_at place bs x ≡ Err r → rows_in table ns l place low bs ≡ Err r
      rows_refused r e = rows_next place low bs some ∙ then_accepted x _ _ ex ∙ then_refused r _ _ e

      pub rows_on : (mark : ℕ) → judged_at place bs x ≡ Ok mark →
          rows_in table ns l place low bs ≡
          (rows_in table ns l (place + (x.head + x.size)) (suc x.kind) (behind x bs) >>= λ rest. Ok (row_at place x mark ∷ rest))
      rows_on mark e = rows_next place low bs some ∙ then_accepted x _ _ ex ∙ then_accepted mark _ _ e

  -- An accepted stream, from its first record on.
  pub record Step (place low : ℕ) (bs : List ℕ) (rows : List Row) : Type 0 where
    pub frame : Frame
    pub mark : ℕ
    pub rest : List Row
    pub framed : framing low place bs ≡ Ok frame
    pub marked : judged_at place bs frame ≡ Ok mark
    pub behind : rows_in table ns l (place + (frame.head + frame.size)) (suc frame.kind) (behind frame bs) ≡ Ok rest
    pub whole : rows ≡ row_at place frame mark ∷ rest

  pub step : (place low : ℕ) (bs : List ℕ) (rows : List Row) → 0 < length bs → rows_in table ns l place low bs ≡ Ok rows → Step place low bs rows
  step place low bs rows some h =
      let a = both _ _ rows (sym (rows_next place low bs some) ∙ h) in
      let b = both _ _ rows a.second in
      let c = both _ _ rows b.second in
      record { frame = a.is; mark = b.is; rest = c.is; framed = a.first; marked = b.first; behind = c.first; whole = cc }

-- The counts of the records passed, joined to those of the rest.

pub joined_none : (x : Answer Counts) → joined 0 0 x ≡ x
joined_none (Ok t) = rw (zero-add t.records, zero-add t.known)
joined_none (Err q) = refl

-- one record, and those behind it
pub joined_one : (one : Row) (x : Answer (List Row)) →
    mapped tally (x >>= λ rest. Ok (one ∷ rest)) ≡ joined 1 (counted one.mark) (mapped tally x)
unfolding ◌>>=◌ knowns
joined_one one (Ok rows) = let a : suc (length rows) ≡ 1 + length rows = omega arith in rw a
joined_one one (Err q) = refl

-- of two runs
pub joined_joined : (r k n m : ℕ) (x : Answer Counts) → joined r k (joined n m x) ≡ joined (r + n) (k + m) x
joined_joined r k n m (Ok t) = rw (add_assoc r n t.records, add_assoc k m t.known)
joined_joined r k n m (Err q) = refl

pub counted_le : (mark : ℕ) → counted mark ≤ 1
counted_le mark = pick_all (λ n. n ≤ 1) (eqb mark 0) 0 1 (λ _. omega arith) (λ _. omega arith)
