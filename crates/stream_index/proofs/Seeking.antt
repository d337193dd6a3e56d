-- A type sought among the rows of an accepted stream. Assumes nothing.
use Rattle.std.specs.Prelude.{Ok, Err}
use mathlib.Core.Path.{◌≡◌, sym, ◌∙◌}
use mathlib.Core.List.{List, [], ◌∷◌}
use Prim.Native.Nat.{ℕ, suc, ◌+◌, ◌≤◌}
use native.Mathlib.Omega.{arith}
use lib.Dec.{eqb}
use lib.ListN.{length, take, drop}
use borrow.Author.Tests.{eqb-true, eq-eqb, ne_eqb}
use Rattle.frame.specs.Frame.{Frame}
use Rattle.laws.proofs.Test.{pick_yes, pick_no, split, by_order}
use Rattle.answer.proofs.Answer.{both}
use Rattle.answer.specs.Answer.{Answer, refuse}
use Rattle.answer.specs.declared.Part.{Part}
use Rattle.table.specs.Table.{lookup}
use Rattle.stream_index.specs.Index.{find, locating_from}
use Rattle.stream.specs.Stream.{Row, row, judged, judging_from, outer_from}
use Rattle.stream_index.proofs.Accepted.{from, none_left, Passed, here, passed_here}
use Rattle.stream.proofs.Judging.{judging_fine}

module _ (table : List ℕ) (ns : ℕ) (s : List ℕ) (kind : ℕ) (whole : Answer Part) where
  -- what is found among the rows that are left is the whole answer
  pub record Sought (at low : ℕ) : Type 0 where
    pub rows : List Row
    pub walks : from table ns s at low ≡ Ok rows
    pub same : find kind rows ≡ whole

  pub sought_end : (at low : ℕ) → length s ≤ at → Sought at low → Err (refuse 15 0 kind) ≡ whole
  unfolding find
  sought_end at low h k =
      let none : k.rows ≡ [] = none_left table ns s at low k.rows h k.walks in
      rw none at k.same

  module _ (at low : ℕ) (k : Sought at low) (x : Frame) (p : Passed table ns s at x k.rows) where
    pub sought_here : x.kind ≡ kind → Ok (record { start = at + x.head; size = x.size }) ≡ whole
    unfolding find
    sought_here e = sym (pick_yes _ _ _ (eq-eqb x.kind kind e)) ∙ (rw p.whole at k.same)

    pub sought_next : (x.kind ≡ kind → ⊥) → Sought (at + x.head + x.size) (suc x.kind)
    unfolding find
    sought_next h = record { rows = p.rest; walks = p.walks; same = sym (pick_no _ _ _ (ne_eqb x.kind kind h)) ∙ (rw p.whole at k.same) }

-- What is found lies in the stream, and is right by what the table knows of the type.
module _ (table : List ℕ) (ns : ℕ) (s : List ℕ) (kind : ℕ) (x : Part) where
  pub record Found : Type 0 where
    pub within : x.start + x.size ≤ length s
    pub place : ℕ
    pub mark : ℕ
    pub right : judged table 3 (lookup table ns kind) place kind x.start (take x.size (drop x.start s)) ≡ Ok mark

  rows_found : (rows : List Row) (at low : ℕ) → from table ns s at low ≡ Ok rows → find kind rows ≡ Ok x → Found
  unfolding find
  rows_found [] at low e h = absurd (let z : ◌≡◌ {A = ℕ} 0 1 = cc in omega arith)
  rows_found (r ∷ rows) at low e h =
      by_order at (length s)
      (λ more.
      let p = passed_here table ns s at low (r ∷ rows) more e in
      let f = (here table ns s at low (r ∷ rows) more e).frame in
      let is : r ≡ row f.kind (at + f.head) f.size r.mark = cc p.whole in
      let same : p.rest ≡ rows = cc p.whole in
      split (eqb r.kind kind) (Ok (record { start = r.start; size = r.size })) (find kind rows) (Ok x) h
      (λ yes k.
      let part : record { start = at + f.head; size = f.size } ≡ x = cc in
      let type : f.kind ≡ kind = eqb-true f.kind kind (rw is at yes) in
      rw (← part) (record { within = p.inside; place = at; mark = p.mark; right = rw type at p.right }))
      (λ _ k. rows_found rows (at + f.head + f.size) (suc f.kind) (rw same at p.walks) k))
      (λ past. absurd (let none = none_left table ns s at low (r ∷ rows) past e in let z : ◌≡◌ {A = ℕ} 0 1 = cc in omega arith))

  pub located_found : (begin : ℕ) → locating_from begin table ns s kind ≡ Ok x → Found
  unfolding locating_from outer_from
  located_found begin h =
      let a = both (judging_from begin table ns s) (find kind) x h in
      rows_found a.is begin 0 (judging_fine begin table ns s a.is a.first).walked a.second
