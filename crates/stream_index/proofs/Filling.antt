-- The rows of an accepted stream, stored one after the other. Assumes nothing.
use Rattle.std.specs.Prelude.{Ok}
use mathlib.Core.Path.{◌≡◌, refl, sym, ap, ◌∙◌}
use mathlib.Core.List.{List, [], ◌∷◌}
use Prim.Native.Nat.{ℕ, suc, ◌+◌, ◌*◌, ◌≤◌}
use native.Mathlib.Omega.{arith}
use lib.ListN.{length, take, drop}
use lib.Seq.{sets, length-sets}
use Rattle.frame.specs.Frame.{Frame}
use Rattle.laws.proofs.Lists.{sets_append, sets_front}
use Rattle.answer.specs.Answer.{filled}
use Rattle.table.specs.Table.{lookup}
use Rattle.stream_index.specs.Index.{numbers}
use Rattle.stream.specs.Stream.{Row, per_row, mark_of}
use Rattle.stream_index.proofs.Accepted.{from, none_left, Passed}

pub length_numbers : (rows : List Row) → length (numbers rows) ≡ per_row * length rows
unfolding numbers
length_numbers [] = refl
length_numbers (r ∷ rs) = omega (arith, length_numbers rs)

-- the stream's numbers, stored from the front, fill the index
pub all_filled : (rows : List Row) (index : List ℕ) → per_row * length rows ≤ length index → sets index 0 (numbers rows) ≡ filled (Ok (numbers rows)) index
all_filled rows index room = sets_front index (numbers rows) (omega (arith, length_numbers rows))

module _ (table : List ℕ) (ns : ℕ) (s : List ℕ) (whole : List ℕ) where
  -- the rows that are left, stored from i on, make the whole index
  pub record Left (index : List ℕ) (at low i : ℕ) : Type 0 where
    pub rows : List Row
    pub walks : from table ns s at low ≡ Ok rows
    pub room : i + per_row * length rows ≤ length index
    pub same : sets index i (numbers rows) ≡ whole

  pub left_end : (index : List ℕ) (at low i : ℕ) → length s ≤ at → Left index at low i → index ≡ whole
  unfolding numbers
  left_end index at low i h l =
      let none : l.rows ≡ [] = none_left table ns s at low l.rows h l.walks in
      rw none at l.same

  -- one row more
  module _ (index : List ℕ) (at low i : ℕ) (l : Left index at low i) (x : Frame) (p : Passed table ns s at x l.rows) where
    count : length l.rows ≡ suc (length p.rest)
    count = ap length p.whole

    pub room_here : i + per_row ≤ length index
    room_here = omega (arith, l.room, count)

    pub left_next : (mark : ℕ) → mark ≡ mark_of (lookup table ns x.kind) (take x.size (drop (at + x.head) s)) →
        Left (sets index i (x.kind ∷ (at + x.head) ∷ x.size ∷ mark ∷ [])) (at + x.head + x.size) (suc x.kind) (i + per_row)
    unfolding numbers
    left_next mark is =
        record {
          rows = p.rest;
          walks = p.walks;
          room = rw length-sets (omega (arith, l.room, count));
          same = sym (sets_append index i (x.kind ∷ (at + x.head) ∷ x.size ∷ mark ∷ []) (numbers p.rest)) ∙ (rw (p.whole, ← is) at l.same);
        }
