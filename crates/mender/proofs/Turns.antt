-- The turns of the loops that walk along a stream. Assumes nothing.
use Rattle.std.specs.Prelude.{Option, Some}
use mathlib.Core.Bool.{Bool, true}
use mathlib.Core.List.{List, [], ◌∷◌}
use mathlib.Core.Path.{◌≡◌, refl, sym, ap, ◌∙◌}
use Prim.Native.Nat.{ℕ, zero, suc, ◌+◌, ◌*◌, ◌-◌, ◌≤◌}
use native.Mathlib.Numerals.{add-one}
use native.Mathlib.Omega.{arith}
use borrow.Rule.Slice.PartMut.{put_mid}
use lib.ListN.{length, take, drop, set, length-set, length-append}
use lib.Seq.{sets, length-sets}
use Rattle.answer.specs.Answer.{filled}
use Rattle.answer.proofs.Answer.{fitting_fits}
use Rattle.bigsize.proofs.Laws.{width_le}
use Rattle.frame.specs.Frame.{lowest}
use Rattle.laws.proofs.Lists.{part_behind, length_part, tail_put, sets_append}
use Rattle.piece.specs.Piece.{Record, kind_of, longer, piece_of}
use Rattle.piece.specs.declared.Piece.{Piece}
use Rattle.piece.proofs.Laws.{longer_le, value_length}
use Rattle.stream_writer.specs.Writer.{record_of, writing_one}
use Rattle.stream_writer.proofs.RowLaws.{length_record}
use Rattle.mending.specs.Mender.{read_in, places_of, spelled, respelled, spans, Strict}
use Rattle.mender.specs.Private.{Sees, record_from}
use Rattle.mender.specs.declared.walk.Seen.{Seen}
use Rattle.mending.proofs.Walking.{walk}
use Rattle.mender.proofs.Turning.{Turn}

-- what is told of a whole record: its shortest form is not much longer than its value
pub short_le : (s : List ℕ) (at : ℕ) (p : Piece) → Turn s at p → p.short ≤ 18 + p.size
short_le s at p t =
    let e = record_from s at in
    let n = value_length at (drop at s) t.whole in
    omega (arith, ap (λ (x : Piece). x.short) t.is, ap (λ (x : Piece). x.size) t.is, length_record (kind_of e) e.value, n, width_le (kind_of e), width_le (length e.value))

pub long_le : (s : List ℕ) (at : ℕ) (p : Piece) → Turn s at p → p.long ≤ 2
long_le s at p t = let e = record_from s at in omega (arith, ap (λ (x : Piece). x.long) t.is, longer_le e.type, longer_le e.size)

-- a number past the end changes nothing
pub set_past : (l : List ℕ) (i a : ℕ) → length l ≤ i → l ≡ set l i a
set_past [] i a h = refl
set_past (x ∷ l) zero a h = absurd (omega arith)
set_past (x ∷ l) (suc i) a h = ap (λ (m : List ℕ). x ∷ m) (set_past l i a (omega arith))

-- The look at all records: what is left of the walk, behind what was seen and laid.
module _ (s places₀ : List ℕ) where
  pub record Looking (places : List ℕ) (seen : Seen) (last : Option ℕ) : Type 0 where
    pub inside : seen.end ≤ length s
    pub half : 2 * seen.count ≤ seen.end
    pub counted : seen.count + length (walk seen.end (drop seen.end s)) ≡ length (read_in s)
    pub ends : seen.end + spans (walk seen.end (drop seen.end s)) ≡ spans (read_in s)
    pub rights : seen.right ≡ true → Strict (lowest last) (walk seen.end (drop seen.end s)) →
        respelled (walk seen.end (drop seen.end s)) ≡ 0 → Strict 0 (read_in s) × (respelled (read_in s) ≡ 0)
    pub as_long : length places ≡ length places₀
    pub laid : sets places seen.count (places_of (walk seen.end (drop seen.end s))) ≡ sets places₀ 0 (places_of (read_in s))

  module _ (places : List ℕ) (seen : Seen) (last : Option ℕ) (k : Looking places seen last) where
    pub looking_next : (right : Bool) (p : Piece) → Turn s seen.end p →
        (right ≡ true → (seen.right ≡ true) × (p.long ≡ 0) × (lowest last ≤ p.kind)) →
        Looking (set places seen.count seen.end) (record { count = seen.count + 1; end = seen.end + (p.head + p.size); right = right }) (Some p.kind)
    unfolding spans respelled Strict
    looking_next right p t up =
        let at = seen.end in
        let e = record_from s at in
        let rest = walk (at + (p.head + p.size)) (drop (at + (p.head + p.size)) s) in
        let span : p.head + p.size ≡ e.type.width + e.size.width + e.size.value = rw t.is in
        let kind : p.kind ≡ kind_of e = ap (λ (x : Piece). x.kind) t.is in
        let long : p.long ≡ longer e.type + longer e.size = ap (λ (x : Piece). x.long) t.is in
        record {
          inside = t.room;
          half = omega (arith, k.half, t.two);
          counted = omega (arith, rw t.walks at k.counted);
          ends = omega (arith, rw (t.walks, spans) at k.ends, span);
          rights = λ yes later none.
              let u = up yes in
              let here : lowest last ≤ kind_of e = omega (arith, u.2, kind) in
              let there : Strict (suc (kind_of e)) rest = rw kind at later in
              let short : longer e.type + longer e.size + respelled rest ≡ 0 = omega (arith, u.1, long, none) in
              k.rights u.0 (rw t.walks (here, there)) (rw (t.walks, respelled) short);
          as_long = length-set places seen.count at ∙ k.as_long;
          laid = rw (add-one seen.count) (rw t.walks at k.laid);
        }

    pub looked : walk seen.end (drop seen.end s) ≡ [] → Sees s seen × (places ≡ sets places₀ 0 (places_of (read_in s)))
    unfolding spans respelled Strict
    looked e = (
      record {
        count = omega (arith, rw e at k.counted);
        end = omega (arith, rw e at k.ends);
        inside = k.inside;
        right = λ yes. k.rights yes (rw e tt) (rw e);
      },
      rw e at k.laid,
    )

-- A record more is written, behind those written: `whole` is all of them laid over what was there.
pub record Laid (out₀ : List ℕ) (whole : List ℕ) (es : List Record) (out : List ℕ) (to : ℕ) : Type 0 where
  pub kept : length out ≡ length out₀
  pub room : to + length (spelled es) ≤ length out
  pub same : sets out to (spelled es) ≡ whole

module _ {out₀ whole : List ℕ} (e : Record) (es : List Record) (out : List ℕ) (to : ℕ) (l : Laid out₀ whole (e ∷ es) out to) where
  abbrev bytes : List ℕ
  bytes = record_of (kind_of e) e.value

  all_is : to + (length bytes + length (spelled es)) ≤ length out
  unfolding spelled
  all_is = omega (arith, l.room, length-append bytes (spelled es))

  pub laid_room : to + length bytes ≤ length out
  laid_room = omega (arith, all_is)

  pub laid_inside : to ≤ length out
  laid_inside = omega (arith, all_is)

  pub laid_next : (out' : List ℕ) → out' ≡ sets out to bytes → Laid out₀ whole es out' (to + length bytes)
  unfolding spelled
  laid_next out' h =
      let k : length out' ≡ length out = ap length h ∙ length-sets out to bytes in
      record {
        kept = k ∙ l.kept;
        room = omega (arith, all_is, k);
        same = rw h (sym (sets_append out to bytes (spelled es)) ∙ l.same);
      }

pub laid_end : {out₀ whole : List ℕ} (out : List ℕ) (to : ℕ) → Laid out₀ whole [] out to → out ≡ whole
unfolding spelled
laid_end out to l = l.same

-- the value of the record at hand, as the part of the stream that the code takes
pub value_part : (s : List ℕ) (at : ℕ) (p : Piece) → p ≡ piece_of (record_from s at) → take (at + p.head + p.size - (at + p.head)) (drop (at + p.head) s) ≡ (record_from s at).value
value_part s at p is = part_behind s at p.head p.size ∙ rw is

-- a record laid at the front of a lent tail, seen in the whole
pub record_laid : (out q : List ℕ) (to kind : ℕ) (v w : List ℕ) → v ≡ w → to + length (record_of kind w) ≤ length out →
    q ≡ filled (writing_one kind v (length (take (length out - to) (drop to out)))) (take (length out - to) (drop to out)) →
    put_mid to (length out - to) out q ≡ sets out to (record_of kind w)
record_laid out q to kind v w e room h =
    let n = length_part out to (length out - to) (omega arith) in
    let fit : length (record_of kind v) ≤ length (take (length out - to) (drop to out)) = rw (e, n) (omega (arith, room)) in
    tail_put out (record_of kind w) q to room (rw (fitting_fits length _ _ (record_of kind v) refl fit, e) at h)
