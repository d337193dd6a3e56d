-- A stream that the reader accepts is right in frame. Assumes nothing.
use Rattle.std.specs.Prelude.{Ok}
use mathlib.Core.List.{List, [], ◌∷◌}
use mathlib.Core.Path.{◌≡◌, sym, ap, ◌∙◌}
use Prim.Native.Nat.{ℕ, zero, suc, ◌+◌, ◌≤◌}
use native.Mathlib.Omega.{arith}
use lib.ListN.{length, length-drop}
use Rattle.frame.specs.Frame.{Frame, framing, behind}
use Rattle.frame.proofs.Laws.{framed, framing_rises, sized_whole}
use Rattle.stream.specs.Stream.{Row, rows_in, outer_from, judging}
use Rattle.stream.proofs.Judging.{judging_fine}
use Rattle.stream.proofs.Records.{step}
use Rattle.stream_writer.proofs.Record.{was_framed}
use Rattle.mending.specs.Mender.{Right, right_end, right_next}

-- a frame that is accepted at one place is accepted at any, and with any least type that it has or is above
pub framed_anywhere : (low place : ℕ) (bs : List ℕ) (x : Frame) → framing low place bs ≡ Ok x → (low' place' : ℕ) → low' ≤ x.kind →
    framing low' place' bs ≡ Ok x
framed_anywhere low place bs x h low' place' up =
    let f = was_framed low place bs x h in
    let up' : low' ≤ f.type.value = omega (arith, ap (λ (y : Frame). y.kind) f.is) in
    framing_rises low' place' bs f.type.value f.type.width f.type_read up'
    ∙ sized_whole f.type.value f.type.width place' bs f.size.value f.size.width f.size_read f.whole
    ∙ ap Ok (sym f.is)

rows_right : (table : List ℕ) (ns l c place low : ℕ) (bs : List ℕ) (rows : List Row) → length bs ≤ c → rows_in table ns l place low bs ≡ Ok rows → Right low bs
rows_right table ns l zero place low [] rows n h = right_end
rows_right table ns l zero place low (b ∷ bs) rows n h = absurd (omega arith)
rows_right table ns l (suc c) place low [] rows n h = right_end
rows_right table ns l (suc c) place low (b ∷ bs) rows n h =
    let t = step table ns l place low (b ∷ bs) rows (omega arith) h in
    let x = t.frame in
    let f = framed low place (b ∷ bs) x t.framed in
    right_next x (framed_anywhere low place (b ∷ bs) x t.framed low 0 f.0)
    (rows_right table ns l c (place + (x.head + x.size)) (suc x.kind) (behind x (b ∷ bs)) t.rest
    (omega (arith, f.1, f.2, length-drop (x.head + x.size) (b ∷ bs))) t.behind)

pub accepted_right : (table : List ℕ) (ns : ℕ) (s : List ℕ) (rows : List Row) → judging table ns s ≡ Ok rows → Right 0 s
unfolding outer_from
accepted_right table ns s rows h = rows_right table ns 3 (length s) 0 0 s rows (omega arith) (judging_fine 0 table ns s rows h).walked

pub accepted_short : (table : List ℕ) (ns : ℕ) (s : List ℕ) (rows : List Row) → judging table ns s ≡ Ok rows → length s ≤ 65535
accepted_short table ns s rows h = (judging_fine 0 table ns s rows h).short
