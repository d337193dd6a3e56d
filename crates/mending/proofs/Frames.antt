-- Streams that are right in frame: what is spelled is one, and one comes out as it is. Assumes nothing.
use Rattle.std.specs.Prelude.{Ok}
use borrow.Author.Tests.{eq-eqb, le-leb}
use mathlib.Core.List.{List, [], ◌∷◌, ◌++◌}
use mathlib.Core.Path.{◌≡◌, refl, sym, ◌∙◌}
use Prim.Native.Nat.{ℕ, suc, ◌+◌, ◌^◌, ◌≤◌, ◌<◌}
use native.Mathlib.Omega.{arith}
use lib.ListN.{length, take, drop, length-append, length-drop}
use Rattle.bigsize.specs.BigSize.{number, shortest, peeking, reading}
use Rattle.bigsize.specs.declared.Number.{Number}
use Rattle.bigsize.proofs.Laws.{reading_width, read_peeked}
use Rattle.bigsize.proofs.RoundTrip.{read_shortest, read_is_shortest}
use Rattle.frame.specs.Frame.{Frame, frame, value_in, behind}
use Rattle.frame.proofs.Laws.{framed}
use Rattle.laws.specs.Digits.{AreBytes}
use Rattle.laws.proofs.Test.{pick_yes}
use Rattle.answer.proofs.Answer.{ensure_yes}
use Rattle.stream_writer.specs.Writer.{record_of}
use Rattle.stream_writer.proofs.Record.{head_of, behind_type, parts, value_back, rest_back, framing_back, was_framed, drop_bytes, framed_record}
use Rattle.stream_writer.proofs.RowLaws.{length_record}
use Rattle.mending.proofs.Walking.{walk, walk_next, walk_end}
use Rattle.mending.specs.Mender.{spelled, respelled, spans, Right, right_end, right_next, Strict}
use Rattle.piece.proofs.Laws.{whole_is, nothing_whole}
use Rattle.piece.specs.Piece.{Record, kind_of, record_at}
use Rattle.sorting.specs.Private.{All}

-- What the mender changes nothing of.
pub record Clean (low place : ℕ) (bs : List ℕ) : Type 0 where
  pub strict : Strict low (walk place bs)
  pub spells : spelled (walk place bs) ≡ bs
  pub short : respelled (walk place bs) ≡ 0
  pub all : spans (walk place bs) ≡ length bs

pub clean_end : (low place : ℕ) → Clean low place []
unfolding Strict spelled respelled spans
clean_end low place = let e = walk_end place [] nothing_whole in record { strict = rw e tt; spells = rw e; short = rw e; all = rw e }

-- one record more, whose type and length are shortest
module _ (low place : ℕ) (bs : List ℕ) (t n : Number) (is-t : peeking bs ≡ t) (is-n : peeking (drop t.width bs) ≡ n)
    (tw : 1 ≤ t.width) (nw : 1 ≤ n.width) (fits : t.width + n.width + n.value ≤ length bs) where
  record_is : record_at place bs ≡ record { place = place; type = t; size = n; value = take n.value (drop (t.width + n.width) bs) }
  record_is = rw (is-t, is-n)

  pub next_is : walk place bs ≡ record { place = place; type = t; size = n; value = take n.value (drop (t.width + n.width) bs) } ∷
      walk (place + (t.width + n.width + n.value)) (drop (t.width + n.width + n.value) bs)
  next_is = walk_next place bs (whole_is bs (rw (is-t, is-n) (tw, nw, fits))) ∙ rw (is-t, is-n)

  pub clean_next : low ≤ t.value → length (shortest t.value) ≡ t.width → length (shortest n.value) ≡ n.width →
      record_of t.value (take n.value (drop (t.width + n.width) bs)) ++ drop (t.width + n.width + n.value) bs ≡ bs →
      Clean (suc t.value) (place + (t.width + n.width + n.value)) (drop (t.width + n.width + n.value) bs) → Clean low place bs
  unfolding Strict spelled respelled spans
  clean_next up ts ns whole c =
      record {
        strict = rw next_is (up, c.strict);
        spells = rw (next_is, spelled, c.spells) whole;
        short = rw (next_is, respelled, c.short, pick_yes {A = ℕ} _ 0 1 (eq-eqb _ _ ts), pick_yes {A = ℕ} _ 0 1 (eq-eqb _ _ ns));
        all = rw (next_is, spans, c.all) (omega (arith, length-drop (t.width + n.width + n.value) bs));
      }

-- A stream that is right in frame is clean.
right_step : (low place : ℕ) (bs : List ℕ) (x : Frame) (t n : Number) → AreBytes bs → reading bs ≡ Ok t → reading (drop t.width bs) ≡ Ok n →
    t.width + n.width + n.value ≤ length bs → x ≡ frame t.value (t.width + n.width) n.value → low ≤ x.kind →
    record_of x.kind (value_in x bs) ++ behind x bs ≡ bs → ((p : ℕ) → Clean (suc x.kind) p (behind x bs)) → Clean low place bs
right_step low place bs x t n bytes type_read size_read whole is up all later =
    let a = read_is_shortest bs t bytes type_read in
    let b = read_is_shortest (drop t.width bs) n (drop_bytes t.width bs bytes) size_read in
    clean_next low place bs t n (read_peeked bs t type_read) (read_peeked (drop t.width bs) n size_read)
    (reading_width bs t type_read).0 (reading_width (drop t.width bs) n size_read).0 whole
    (rw is at up) (sym a.width) (sym b.width) (rw is at all) (rw is at (later (place + (t.width + n.width + n.value))))

pub right_clean : {low : ℕ} {bs : List ℕ} → Right low bs → (place : ℕ) → AreBytes bs → Clean low place bs
right_clean {low} right_end place bytes = clean_end low place
right_clean (right_next {low = low} {bs = bs} x ex rest) place bytes =
    let f = was_framed low 0 bs x ex in
    right_step low place bs x f.type f.size bytes f.type_read f.size_read f.whole f.is (framed low 0 bs x ex).0 (framed_record bs x bytes f)
    (λ p. right_clean rest p (drop_bytes (x.head + x.size) bs bytes))

-- a type and a length that can be spelled
abbrev pub Fits : Record → Type 0
Fits e = (kind_of e < 2 ^ 64) × (length e.value < 2 ^ 64)

-- Records in rising order, no type twice, spelled one after the other: right in frame, and clean.
pub right_spelled : (low : ℕ) (es : List Record) → Strict low es → All Fits es → Right low (spelled es)
unfolding spelled Strict All
right_spelled low [] s fits = right_end
right_spelled low (e ∷ es) s fits =
    let k = kind_of e in
    let v = e.value in
    let framed = framing_back k v (spelled es) fits.0.0 fits.0.1 low 0 ∙ ensure_yes _ _ _ (le-leb low k s.0) in
    right_next _ framed (rw (rest_back k v (spelled es)) (right_spelled (suc k) es s.1 fits.1))

shortest_some : (v : ℕ) → v < 2 ^ 64 → 1 ≤ length (shortest v)
shortest_some v h = (reading_width (shortest v ++ []) _ (read_shortest v h [])).0

-- the record at the front, read again
module _ (place k : ℕ) (v rest : List ℕ) (small : k < 2 ^ 64) (short : length v < 2 ^ 64) where
  back_type : peeking (record_of k v ++ rest) ≡ number k (length (shortest k))
  back_type = read_peeked _ _ (rw (parts k v rest) (read_shortest k small _))

  back_size : peeking (drop (length (shortest k)) (record_of k v ++ rest)) ≡ number (length v) (length (shortest (length v)))
  back_size = read_peeked _ _ (rw (behind_type k v rest) (read_shortest (length v) short (v ++ rest)))

  back_fits : length (shortest k) + length (shortest (length v)) + length v ≤ length (record_of k v ++ rest)
  back_fits = omega (arith, length-append (record_of k v) rest, length_record k v)

  pub back_next : walk place (record_of k v ++ rest) ≡
      record { place = place; type = number k (length (shortest k)); size = number (length v) (length (shortest (length v))); value = v } ∷
      walk (place + (head_of k (length v) + length v)) rest
  back_next =
      next_is 0 place (record_of k v ++ rest) _ _ back_type back_size (shortest_some k small) (shortest_some (length v) short) back_fits
      ∙ rw (value_back k v rest, rest_back k v rest)

  pub back_clean : (low : ℕ) → low ≤ k → Clean (suc k) (place + (head_of k (length v) + length v)) rest → Clean low place (record_of k v ++ rest)
  back_clean low up c =
      clean_next low place (record_of k v ++ rest) _ _ back_type back_size (shortest_some k small) (shortest_some (length v) short) back_fits
      up refl refl (rw (value_back k v rest, rest_back k v rest)) (rw (rest_back k v rest) c)

pub clean_spelled : (low place : ℕ) (es : List Record) → Strict low es → All Fits es → Clean low place (spelled es)
unfolding spelled Strict All
clean_spelled low place [] s fits = clean_end low place
clean_spelled low place (e ∷ es) s fits =
    back_clean place (kind_of e) e.value (spelled es) fits.0.0 fits.0.1 low s.0
    (clean_spelled (suc (kind_of e)) (place + (head_of (kind_of e) (length e.value) + length e.value)) es s.1 fits.1)
