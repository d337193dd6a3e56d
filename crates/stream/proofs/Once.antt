-- No type stands twice in an accepted stream, nor in a stream inside it. Assumes nothing.
use Rattle.std.specs.Prelude.{Ok, Err}
use mathlib.Core.Path.{◌≡◌, refl, sym, ◌∙◌}
use mathlib.Core.List.{List, [], ◌∷◌, ◌++◌}
use Prim.Native.Nat.{ℕ, zero, suc, ◌+◌, ◌≤◌, ◌<◌}
use native.Mathlib.Omega.{arith}
use lib.ListN.{length}
use Rattle.frame.specs.Frame.{Frame, framing, value_in, behind}
use Rattle.frame.proofs.Laws.{framed, Made, made}
use Rattle.laws.proofs.Test.{by_order}
use Rattle.answer.specs.Answer.{refuse}
use Rattle.answer.proofs.Answer.{both, fitted}
use Rattle.table.specs.Table.{known, lookup}
use Rattle.stream.specs.Order.{Rising, Lies, first, later, Entered, itself, within}
use Rattle.stream.specs.Stream.{Row, judged, rows_in, reading, outer_from}
use Rattle.stream.proofs.Judging.{judging_fine}
use Rattle.stream.proofs.Records.{judged_at, row_at, rows_end, Step, step}
use Rattle.stream.proofs.Values.{judged_deep, judged_stream}

rising_tail : (r : Row) (rows : List Row) → Rising (r ∷ rows) → Rising rows
rising_tail r [] h = tt
rising_tail r (q ∷ rows) h = h.1

first_below : (r : Row) (between : List Row) (q : Row) (after : List Row) → Rising (r ∷ between ++ q ∷ after) → r.kind < q.kind
first_below r [] q after h = h.0
first_below r (p ∷ between) q after h = omega (arith, first_below p between q after h.1)

-- each is below every later one
pub rising_pairs : (before : List Row) (r : Row) (between : List Row) (q : Row) (after : List Row) → Rising (before ++ r ∷ between ++ q ∷ after) →
    r.kind < q.kind
rising_pairs [] r between q after h = first_below r between q after h
rising_pairs (p ∷ before) r between q after h = rising_pairs before r between q after (rising_tail p (before ++ r ∷ between ++ q ∷ after) h)

-- rows that rise from a least type on
abbrev From : (low : ℕ) → List Row → Type 0
From low [] = Unit {0}
From low (r ∷ rows) = (low ≤ r.kind) × From (suc r.kind) rows

from_rising : (low : ℕ) (rows : List Row) → From low rows → Rising rows
from_rising low [] h = tt
from_rising low (r ∷ []) h = tt
from_rising low (r ∷ q ∷ rows) h = (h.1.0, from_rising (suc r.kind) (q ∷ rows) h.1)

same_frame : (bs : List ℕ) (x y : Frame) → Made bs x → Made bs y → x ≡ y
same_frame bs x y a b =
    let k : a.kind ≡ b.kind = cc (a.kind_read, b.kind_read) in
    let n : a.size ≡ b.size = cc (a.size_read, b.size_read, k) in
    cc (a.is, b.is, k, n)

-- Every stream, whatever levels are left: the outer one and those of level 2 to 4.
module _ (table : List ℕ) (ns l : ℕ) where
  -- an accepted record, and the accepted records behind it
  record Met (x : Frame) (from : List ℕ) : Type 0 where
    place : ℕ
    mark : ℕ
    rest : List Row
    marked : judged_at table ns l place from x ≡ Ok mark
    walked : rows_in table ns l (place + (x.head + x.size)) (suc x.kind) (behind x from) ≡ Ok rest

  -- the first record of accepted bytes
  met_step : (place low : ℕ) (bs : List ℕ) (rows : List Row) (s : Step table ns l place low bs rows) → (low ≤ s.frame.kind) × Met s.frame bs
  met_step place low bs rows s = (
    (framed low place bs s.frame s.framed).0,
    record { place = place; mark = s.mark; rest = s.rest; marked = s.marked; walked = s.behind },
  )

  -- is the whole record at their front
  met_first : (place low : ℕ) (bs : List ℕ) (rows : List Row) (x : Frame) → framing 0 0 bs ≡ Ok x → rows_in table ns l place low bs ≡ Ok rows →
      (low ≤ x.kind) × Met x bs
  met_first place low bs rows x e h =
      let w = framed 0 0 bs x e in
      let s = step table ns l place low bs rows (omega arith) h in
      let same : s.frame ≡ x = same_frame bs s.frame x (made low place bs s.frame s.framed) (made 0 0 bs x e) in
      rw same at (met_step place low bs rows s)

  -- and each whole record in them is accepted in its turn
  met : {x : Frame} {from bs : List ℕ} → Lies x from bs → (place low : ℕ) (rows : List Row) → rows_in table ns l place low bs ≡ Ok rows →
      (low ≤ x.kind) × Met x from
  met {x} {from} (first e) place low rows h = met_first place low from rows x e h
  met (later {y} {bs} e more) place low rows h =
      let m = met_first place low bs rows y e h in
      let n = met more _ _ _ m.1.walked in
      (omega arith, n.1)

  -- Of two whole records in accepted bytes the later has the higher type.
  pub rows_once : {x y : Frame} {from to bs : List ℕ} → Lies x from bs → Lies y to (behind x from) → (place low : ℕ) (rows : List Row) →
      rows_in table ns l place low bs ≡ Ok rows → x.kind < y.kind
  rows_once hx hy place low rows h = let m = (met hx place low rows h).1 in (met hy _ _ _ m.walked).0

  -- the rows of accepted bytes start at the least type and rise
  rows_from : (rows : List Row) (place low : ℕ) (bs : List ℕ) → rows_in table ns l place low bs ≡ Ok rows → From low rows
  rows_from [] place low bs h = tt
  rows_from (r ∷ rows) place low bs h =
      by_order 0 (length bs)
      (λ some.
      let s = step table ns l place low bs (r ∷ rows) some h in
      let is : r ≡ row_at place s.frame s.mark = cc s.whole in
      let same : s.rest ≡ rows = cc s.whole in
      rw is (
        (framed low place bs s.frame s.framed).0,
        rows_from rows (place + (s.frame.head + s.frame.size)) (suc s.frame.kind) (behind s.frame bs) (rw same at s.behind),
      ))
      (λ none.
      let e : Ok [] ≡ Ok (r ∷ rows) = sym (rows_end table ns l place low bs (omega arith)) ∙ h in
      absurd (let z : ◌≡◌ {A = ℕ} 0 1 = cc in omega arith))

  -- The rows of accepted bytes rise.
  pub rows_rising : (place low : ℕ) (bs : List ℕ) (rows : List Row) → rows_in table ns l place low bs ≡ Ok rows → Rising rows
  rows_rising place low bs rows h = from_rising low rows (rows_from rows place low bs h)

-- a value of form 5 that is accepted is a stream, where one level less is left
as_stream : (table : List ℕ) (l n place kind start : ℕ) (v : List ℕ) (mark : ℕ) → judged table l (known 5 n) place kind start v ≡ Ok mark →
    (m : ℕ) × (rows : List Row) × (rows_in table n m start 0 v ≡ Ok rows)
as_stream table zero n place kind start v mark h =
    let e : Err (refuse 11 place kind) ≡ Ok mark = sym (judged_deep table 0 (known 5 n) place kind start v 5 n refl refl refl) ∙ h in
    absurd (let z : ◌≡◌ {A = ℕ} 0 1 = cc in omega arith)
as_stream table (suc l) n place kind start v mark h =
    let b = both _ _ mark (sym (judged_stream table (suc l) (known 5 n) place kind start v 5 n refl refl l refl) ∙ h) in
    (l, b.is, b.first)

-- an accepted stream
record Walked (table : List ℕ) (ns : ℕ) (bs : List ℕ) : Type 0 where
  levels : ℕ
  place : ℕ
  low : ℕ
  rows : List Row
  fine : rows_in table ns levels place low bs ≡ Ok rows

-- a value of form 5 in an accepted stream is one
walked_value : {ns n : ℕ} {bs from : List ℕ} {x : Frame} (table : List ℕ) → Lies x from bs → lookup table ns x.kind ≡ known 5 n → Walked table ns bs →
    Walked table n (value_in x from)
walked_value {ns} {n} {bs} {from} {x} table hx has w =
    let m = (met table ns w.levels hx w.place w.low w.rows w.fine).1 in
    let a = as_stream table w.levels n m.place x.kind (m.place + x.head) (value_in x from) m.mark (rw has at m.marked) in
    record { levels = a.0; place = m.place + x.head; low = 0; rows = a.1; fine = a.2 }

-- so every stream that is entered is one
walked_inside : {table : List ℕ} {m : ℕ} {v : List ℕ} {ns : ℕ} {bs : List ℕ} → Entered table m v ns bs → Walked table ns bs → Walked table m v
walked_inside itself w = w
walked_inside {table} (within hx has more) w = walked_inside more (walked_value table hx has w)

-- Read into an index.
module _ (table : List ℕ) (ns : ℕ) (s : List ℕ) (room : ℕ) where
  reading_walk : (rows : List Row) → reading table ns s room ≡ Ok rows → rows_in table ns 3 0 0 s ≡ Ok rows
  unfolding outer_from
  reading_walk rows h = (judging_fine 0 table ns s rows (fitted _ room _ rows h).was).walked

  -- The outer types rise.
  pub rising : (rows : List Row) → reading table ns s room ≡ Ok rows → Rising rows
  rising rows h = rows_rising table ns 3 0 0 s rows (reading_walk rows h)

  -- No type stands at two places of the index.
  pub no_type_twice : (before : List Row) (r : Row) (between : List Row) (q : Row) (after : List Row) →
      reading table ns s room ≡ Ok (before ++ r ∷ between ++ q ∷ after) → r.kind ≡ q.kind → ⊥
  no_type_twice before r between q after h e =
      omega (arith, rising_pairs before r between q after (rising (before ++ r ∷ between ++ q ∷ after) h))

  -- A doubled record is never accepted, at any level: no table accepts a stream if there, or in a stream that it enters from there, a whole record has the
  -- type of an earlier one or a lower type.
  pub repeated_refused : {m : ℕ} {v from to : List ℕ} {x y : Frame} → Entered table m v ns s → Lies x from v → Lies y to (behind x from) →
      y.kind ≤ x.kind → (rows : List Row) → reading table ns s room ≡ Ok rows → ⊥
  repeated_refused {m} entered hx hy e rows h =
      let w = walked_inside entered (record { levels = 3; place = 0; low = 0; rows = rows; fine = reading_walk rows h }) in
      omega (arith, rows_once table m w.levels hx hy w.place w.low w.rows w.fine)
