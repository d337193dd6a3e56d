-- An accepted stream, passed record by record. Assumes nothing.
use Rattle.std.specs.Prelude.{Ok}
use mathlib.Core.Path.{◌≡◌, sym, ◌∙◌}
use mathlib.Core.List.{List, [], ◌∷◌}
use Prim.Native.Nat.{ℕ, suc, ◌+◌, ◌≤◌, ◌<◌}
use native.Mathlib.Omega.{arith}
use lib.ListN.{length, take, drop, length-drop}
use lib.Seq.{drop-drop}
use Rattle.bigsize.specs.BigSize.{peeking}
use Rattle.bigsize.proofs.Laws.{peeking_width}
use Rattle.bigsize.specs.declared.Number.{Number}
use Rattle.frame.specs.Frame.{Frame, frame}
use Rattle.frame.proofs.Laws.{framed, peeked}
use Rattle.answer.specs.Answer.{Answer}
use Rattle.table.specs.Table.{lookup}
use Rattle.stream.specs.Stream.{Row, row, rows_in, judged, mark_of}
use Rattle.stream.proofs.Records.{rows_end, Step, step}
use Rattle.stream.proofs.Values.{judged_mark}

module _ (table : List ℕ) (ns : ℕ) (s : List ℕ) where
  -- the outer records from a place on
  abbrev pub from : (at low : ℕ) → Answer (List Row)
  from at low = rows_in table ns 3 at low (drop at s)

  -- at the end there are none
  pub none_left : (at low : ℕ) (rows : List Row) → length s ≤ at → from at low ≡ Ok rows → rows ≡ []
  none_left at low rows h e =
      let none : length (drop at s) ≡ 0 = omega (arith, length-drop at s) in
      let q : Ok rows ≡ Ok [] = sym e ∙ rows_end table ns 3 at low (drop at s) none in
      cc

  -- the record at a place, known by its frame, and those behind it
  pub record Passed (at : ℕ) (x : Frame) (rows : List Row) : Type 0 where
    pub up : 2 ≤ x.head
    pub inside : at + x.head + x.size ≤ length s
    pub rest : List Row
    pub whole : rows ≡ row x.kind (at + x.head) x.size (mark_of (lookup table ns x.kind) (take x.size (drop (at + x.head) s))) ∷ rest
    pub walks : from (at + x.head + x.size) (suc x.kind) ≡ Ok rest
    pub mark : ℕ
    pub right : judged table 3 (lookup table ns x.kind) at x.kind (at + x.head) (take x.size (drop (at + x.head) s)) ≡ Ok mark

  module _ (at low : ℕ) (rows : List Row) (more : at < length s) (fine : from at low ≡ Ok rows) where
    pub here : Step table ns 3 at low (drop at s) rows
    here = step table ns 3 at low (drop at s) rows (omega (arith, length-drop at s)) fine

    pub passed_here : Passed at here.frame rows
    passed_here =
        let x = here.frame in
        let w = framed low at (drop at s) x here.framed in
        let right : judged table 3 (lookup table ns x.kind) at x.kind (at + x.head) (take x.size (drop (at + x.head) s)) ≡ Ok here.mark =
        rw (drop-drop x.head at s) at here.marked in
        let m = judged_mark _ _ _ _ _ _ _ _ right in
        let place : at + x.head + x.size ≡ at + (x.head + x.size) = omega arith in
        record {
          up = w.1;
          inside = omega (arith, length-drop at s);
          rest = here.rest;
          whole = rw (← m) here.whole;
          walks = rw (place, ← (drop-drop (x.head + x.size) at s)) here.behind;
          mark = here.mark;
          right = right;
        }

    -- the type lies in the stream
    pub type_inside : (kind : Number) → kind ≡ peeking (drop at s) → at + kind.width ≤ length s
    type_inside kind k =
        let w : kind.width ≤ length (drop at s) = rw k (peeking_width (drop at s)).0 in
        omega (arith, length-drop at s, more)

    -- the record, whose type is high enough, by its two numbers as they are peeked
    pub ahead : (kind size : Number) → kind ≡ peeking (drop at s) → size ≡ peeking (drop (at + kind.width) s) →
        Passed at (frame kind.value (kind.width + size.width) size.value) rows × (low ≤ kind.value)
    ahead kind size k n =
        let f = here.frame in
        let behind : size ≡ peeking (drop kind.width (drop at s)) = rw (drop-drop kind.width at s) n in
        let same : f ≡ frame kind.value (kind.width + size.width) size.value = peeked low at (drop at s) f here.framed kind size k behind in
        (rw same at passed_here, rw same at (framed low at (drop at s) f here.framed).0)
