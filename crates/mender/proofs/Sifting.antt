-- The turns of the loop that keeps the first record of each type. Assumes nothing.
use Rattle.std.specs.Prelude.{Option, None}
use borrow.Author.Tests.{eq-eqb, ne_eqb}
use mathlib.Core.Bool.{true, false}
use mathlib.Core.List.{List, [], ◌∷◌, ◌++◌, map-append, append-nil}
use mathlib.Core.Path.{◌≡◌, refl, sym, ap, ◌∙◌}
use Prim.Native.Nat.{ℕ, suc, ◌+◌, ◌*◌, ◌≤◌, ◌<◌}
use native.Mathlib.Numerals.{add-one}
use native.Mathlib.Omega.{arith}
use lib.ListN.{length, get_or, take, drop, set, length-set, length-append}
use lib.Seq.{drop-cons, drop-set-lt, take-suc-set, append_snoc}
use Rattle.laws.proofs.Test.{pick_yes, pick_no, by_order}
use Rattle.piece.specs.Piece.{Record, kind_of, longer, is_whole}
use Rattle.piece.specs.declared.Piece.{Piece}
use Rattle.piece.proofs.Laws.{same_self}
use Rattle.sorting.specs.Sorting.{Rises, key_by}
use Rattle.stream_writer.specs.Writer.{record_of}
use Rattle.mending.specs.Mender.{without, kept, spelled, respelled}
use Rattle.mender.specs.Private.{record_from, records_at, AreWhole, leader, lowered, least_from, least_in, Sifts}
use Rattle.mending.proofs.Keeping.{turn_same, turn_new}
use Rattle.mender.proofs.Places.{records_next, records_end, records_rise, lowered_agree}
use Rattle.mender.proofs.Turns.{short_le, long_le}
use Rattle.mender.proofs.Turning.{Turn}

-- one record more
pub spelled_more : (es : List Record) (e : Record) → length (spelled (es ++ (e ∷ []))) ≡ length (spelled es) + length (record_of (kind_of e) e.value)
unfolding spelled
spelled_more [] e = length-append (record_of (kind_of e) e.value) [] ∙ omega arith
spelled_more (x ∷ es) e =
    let b = record_of (kind_of x) x.value in
    omega (arith, length-append b (spelled (es ++ (e ∷ []))), length-append b (spelled es), spelled_more es e)

pub respelled_more : (es : List Record) (e : Record) → respelled (es ++ (e ∷ [])) ≡ respelled es + (longer e.type + longer e.size)
unfolding respelled
respelled_more [] e = omega arith
respelled_more (x ∷ es) e = omega (arith, respelled_more es e)

-- what is kept, and what is left to be looked at
module _ (s order₀ : List ℕ) where
  pub record Sifting (order : List ℕ) (first kind many : ℕ) (fault : Option ℕ) (size long i : ℕ) : Type 0 where
    pub some : 1 ≤ many
    pub behind : many ≤ i
    pub inside : i ≤ length order
    pub as_long : length order ≡ length order₀
    pub rest : drop i order ≡ drop i order₀
    pub leads : is_whole (drop first s) ≡ true
    pub typed : kind ≡ key_by s false first
    pub rises : Rises (key_by s false) (key_by s false first) (drop i order₀)
    pub records : records_at s (take many order) ++ without (key_by s false first) (kept (records_at s (drop i order₀))) ≡ kept (records_at s order₀)
    pub least : least_from (record_from s first) fault (records_at s (drop i order₀)) ≡ least_in (records_at s order₀)
    pub sized : size ≡ length (spelled (records_at s (take many order)))
    pub small : size ≤ 65553 * many
    pub respells : long ≡ respelled (records_at s (take many order))
    pub few : long ≤ 2 * many

  module _ (order : List ℕ) (first kind many : ℕ) (fault : Option ℕ) (size long i : ℕ) (k : Sifting order first kind many fault size long i) (more : i < length order) where
    there : i < length order₀
    there = omega (arith, k.as_long)

    abbrev at : ℕ
    at = get_or order₀ i 0

    abbrev later : List Record
    later = records_at s (drop (suc i) order₀)

    next : records_at s (drop i order₀) ≡ record_from s at ∷ later
    next = records_next s order₀ i there

    -- the place at hand is as it was
    cons_head : (a b : ℕ) (l m : List ℕ) → ◌≡◌ {A = List ℕ} (a ∷ l) (b ∷ m) → (a ≡ b) × (l ≡ m)
    cons_head a b l m h = (cc, cc)

    both_next : (get_or order i 0 ≡ at) × (drop (suc i) order ≡ drop (suc i) order₀)
    both_next = cons_head _ _ _ _ (sym (drop-cons order i 0 more) ∙ k.rest ∙ drop-cons order₀ i 0 there)

    pub same_place : get_or order i 0 ≡ at
    same_place = both_next.0

    next_rises : (key_by s false first ≤ key_by s false at) × Rises (key_by s false) (key_by s false at) (drop (suc i) order₀)
    unfolding Rises
    next_rises = rw (drop-cons order₀ i 0 there) at k.rises

    -- of a type that was seen: perhaps it disagrees with the first
    pub sifting_same : (fault' : Option ℕ) → key_by s false at ≡ key_by s false first → fault' ≡ lowered (record_from s first) (record_from s at) fault →
        Sifting order first kind many fault' size long (i + 1)
    unfolding least_from leader
    sifting_same fault' is low =
        let w : without (key_by s false first) (kept (records_at s (drop i order₀))) ≡ without (key_by s false first) (kept later) =
        ap (λ (l : List Record). without (key_by s false first) (kept l)) next ∙ turn_same (record_from s first) (record_from s at) later is in
        let lead = pick_yes _ (record_from s first) (record_from s at) (eq-eqb _ _ (sym is)) in
        let m : least_from (record_from s first) fault (records_at s (drop i order₀)) ≡ least_from (record_from s first) fault' later = rw (next, least_from, leader, lead, low) in
        record {
          some = k.some;
          behind = omega (arith, k.behind);
          inside = omega (arith, more);
          as_long = k.as_long;
          rest = rw (add-one i) both_next.1;
          leads = k.leads;
          typed = k.typed;
          rises = rw (add-one i) (rw is at next_rises.1);
          records = rw (add-one i, ← w) k.records;
          least = rw (add-one i) (sym m ∙ k.least);
          sized = k.sized;
          small = k.small;
          respells = k.respells;
          few = k.few;
        }

    -- of a new type: it is kept
    module _ (p : Piece) (t : Turn s at p) (new : key_by s false at ≡ key_by s false first → ⊥) (short : length s ≤ 65535) where
      up : key_by s false first < key_by s false at
      up = by_order (key_by s false first) (key_by s false at) (λ h. h) (λ h. absurd (new (omega (arith, next_rises.0))))

      room : many < length order
      room = omega (arith, k.behind)

      front : take (suc many) (set order many at) ≡ take many order ++ (at ∷ [])
      front = take-suc-set order many at room

      kept_now : records_at s (take (suc many) (set order many at)) ≡ records_at s (take many order) ++ (record_from s at ∷ [])
      kept_now = rw front (map-append (record_from s) (take many order) (at ∷ []))

      pub size_room : size + p.short ≤ 65553 * (many + 1)
      size_room = omega (arith, k.small, short_le s at p t, t.room)

      pub long_room : long + p.long ≤ 2 * (many + 1)
      long_room = omega (arith, k.few, long_le s at p t)

      pub sifting_new : Sifting (set order many at) at p.kind (many + 1) fault (size + p.short) (long + p.long) (i + 1)
      unfolding least_from leader
      sifting_new =
          let w : without (key_by s false first) (kept (records_at s (drop i order₀))) ≡ record_from s at ∷ without (key_by s false at) (kept later) =
          ap (λ (l : List Record). without (key_by s false first) (kept l)) next
          ∙ turn_new (record_from s first) (record_from s at) later up (records_rise s (key_by s false at) (drop (suc i) order₀) next_rises.1) in
          let lead = pick_no _ (record_from s first) (record_from s at) (ne_eqb _ _ (λ z. new (sym z))) in
          let low = lowered_agree (record_from s at) (record_from s at) fault (same_self (record_from s at).value) in
          let m : least_from (record_from s first) fault (records_at s (drop i order₀)) ≡ least_from (record_from s at) fault later = rw (next, least_from, leader, lead, ← low) in
          let short-is = ap (λ (x : Piece). x.short) t.is in
          let long-is = ap (λ (x : Piece). x.long) t.is in
          record {
            some = omega arith;
            behind = omega (arith, k.behind);
            inside = rw length-set (omega (arith, more));
            as_long = length-set order many at ∙ k.as_long;
            rest = rw (add-one i, drop-set-lt (suc i) order many at (omega (arith, k.behind))) both_next.1;
            leads = t.whole;
            typed = ap (λ (x : Piece). x.kind) t.is;
            rises = rw (add-one i) next_rises.1;
            records = rw (add-one i, add-one many, kept_now, append_snoc, ← w) k.records;
            least = rw (add-one i) (sym m ∙ k.least);
            sized = rw (add-one many, kept_now, spelled_more (records_at s (take many order)) (record_from s at), ← k.sized, ← short-is);
            small = size_room;
            respells = rw (add-one many, kept_now, respelled_more (records_at s (take many order)) (record_from s at), ← k.respells, ← long-is);
            few = long_room;
          }

  pub sifted : (order : List ℕ) (first kind many : ℕ) (fault : Option ℕ) (size long i : ℕ) → Sifting order first kind many fault size long i → length order ≤ i →
      Sifts s order₀ order (record { kept = many; fault = fault; size = size; respelled = long })
  unfolding kept without least_from
  sifted order first kind many fault size long i k end =
      let none = records_end s order₀ i (omega (arith, k.as_long)) in
      let is : records_at s (take many order) ≡ kept (records_at s order₀) = sym (append-nil _) ∙ (rw none at k.records) in
      record {
        fewer = omega (arith, k.behind, k.inside, k.as_long);
        records = is;
        fault = rw none at k.least;
        size = k.sized ∙ rw is;
        respelled = k.respells ∙ rw is;
      }

-- the first record of all
pub sifting_start : (s order : List ℕ) (f : Piece) → 0 < length order → AreWhole s order → Rises (key_by s false) 0 order → Turn s (get_or order 0 0) f → length s ≤ 65535 →
    Sifting s order order (get_or order 0 0) f.kind 1 None f.short f.long 1
unfolding Rises kept least_from spelled respelled
sifting_start s [] f h w r t short = absurd (omega arith)
sifting_start s (p ∷ order) f h w r t short =
    let e = record_from s p in
    record {
      some = omega arith;
      behind = omega arith;
      inside = omega arith;
      as_long = refl;
      rest = refl;
      leads = t.whole;
      typed = ap (λ (x : Piece). x.kind) t.is;
      rises = r.1;
      records = refl;
      least = refl;
      sized = ap (λ (x : Piece). x.short) t.is ∙ sym (length-append (record_of (kind_of e) e.value) [] ∙ omega arith);
      small = omega (arith, short_le s p f t, t.room);
      respells = ap (λ (x : Piece). x.long) t.is ∙ omega arith;
      few = long_le s p f t;
    }

-- no records
pub sifted_none : (s order : List ℕ) → length order ≡ 0 → Sifts s order order (record { kept = 0; fault = None; size = 0; respelled = 0 })
unfolding kept spelled respelled
sifted_none s [] h = record { fewer = omega arith; records = refl; fault = refl; size = refl; respelled = refl }
sifted_none s (p ∷ order) h = absurd (omega arith)
