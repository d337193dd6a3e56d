-- What was read is written back: the rows of an accepted stream are accepted, and spell it. Assumes nothing.
use Rattle.std.specs.Prelude.{Ok}
use mathlib.Core.List.{List, [], ◌∷◌, ◌++◌}
use mathlib.Core.Path.{◌≡◌, refl, sym, ◌∙◌}
use Prim.Native.Nat.{ℕ, suc, ◌+◌, ◌≤◌, ◌<◌}
use native.Mathlib.Omega.{arith}
use lib.ListN.{length, drop, length-drop, drop_of_length-le}
use lib.Seq.{drop-drop}
use borrow.Author.Tests.{le-leb}
use Rattle.frame.proofs.Laws.{framed}
use Rattle.laws.specs.Digits.{AreBytes}
use Rattle.laws.proofs.Test.{by_order}
use Rattle.answer.proofs.Answer.{then_accepted, ensure_yes}
use Rattle.stream.specs.Stream.{Row, judged}
use Rattle.stream.proofs.Records.{row_at, Step, step}
use Rattle.stream_index.proofs.Accepted.{from, none_left}
use Rattle.table.specs.Table.{lookup}
use Rattle.stream_writer.specs.Triples.{triples_of}
use Rattle.stream_writer.specs.Writer.{part, record_of, bytes_of, rows_judged}
use Rattle.stream_writer.proofs.Alike.{Never, accepted_exactly}
use Rattle.stream_writer.proofs.Questions.{value_alike, rows_asked}
use Rattle.stream_writer.proofs.Record.{was_framed, drop_bytes, framed_record}

module _ (table : List ℕ) (ns : ℕ) (s : List ℕ) (bytes : AreBytes s) where
  -- The first of the rows that were read from a place on, and the rest.
  record First (at low : ℕ) (x : Row) (rows : List Row) : Type 0 where
    inside : x.start + x.size ≤ length s
    rises : low ≤ x.kind
    marked : judged table 3 (lookup table ns x.kind) at x.kind x.start (part x.start x.size s) ≡ Ok x.mark
    spelled : record_of x.kind (part x.start x.size s) ++ drop (x.start + x.size) s ≡ drop at s
    walks : from table ns s (x.start + x.size) (suc x.kind) ≡ Ok rows

  first : (at low : ℕ) (x : Row) (rows : List Row) → at < length s → Step table ns 3 at low (drop at s) (x ∷ rows) → First at low x rows
  first at low x rows more st =
      let y = st.frame in
      let f = framed low at (drop at s) y st.framed in
      let is : x ≡ row_at at y st.mark = cc st.whole in
      let same : st.rest ≡ rows = cc st.whole in
      let end : at + y.head + y.size ≡ at + (y.head + y.size) = omega arith in
      rw is
      (record {
        inside = omega (arith, length-drop at s);
        rises = f.0;
        marked = rw (← (drop-drop y.head at s)) st.marked;
        spelled =
            rw (end, ← (drop-drop y.head at s), ← (drop-drop (y.head + y.size) at s))
            (framed_record (drop at s) y (drop_bytes at s bytes) (was_framed low at (drop at s) y st.framed));
        walks = rw (end, ← (drop-drop (y.head + y.size) at s), ← same) st.behind;
      })

  -- what stands at a place before the end
  here : (at low : ℕ) (rows : List Row) → at < length s → from table ns s at low ≡ Ok rows → Step table ns 3 at low (drop at s) rows
  here at low rows more = step table ns 3 at low (drop at s) rows (omega (arith, length-drop at s))

  -- the rows of what was read from a place on are accepted, and spell it
  pub record Back (rows : List Row) (at low : ℕ) : Type 0 where
    pub fine : (r : ℕ) → rows_judged table ns s r low (triples_of rows) ≡ Ok tt
    pub spells : bytes_of (triples_of rows) s ≡ drop at s

  -- one row more
  back_step : (at low : ℕ) (x : Row) (rows : List Row) → First at low x rows → Back rows (x.start + x.size) (suc x.kind) → Back (x ∷ rows) at low
  unfolding triples_of bytes_of
  back_step at low x rows f rest =
      let v = part x.start x.size s in
      record {
        fine = λ r.
            let j = (accepted_exactly (value_alike {E = Never} table ns r at x.kind x.start v) (λ _ _ e. e)).1 (x.mark, f.marked) in
            rows_asked table ns s r low x.kind x.start x.size (triples_of rows)
            ∙ ensure_yes _ _ _ (le-leb (x.start + x.size) (length s) f.inside)
            ∙ ensure_yes _ _ _ (le-leb low x.kind f.rises)
            ∙ then_accepted j.0 _ _ j.1
            ∙ rest.fine (suc r);
        spells = rw rest.spells f.spelled;
      }

  pub back : (rows : List Row) (at low : ℕ) → from table ns s at low ≡ Ok rows → Back rows at low
  unfolding triples_of bytes_of rows_judged
  back [] at low h =
      by_order at (length s)
      (λ more. absurd (let e = (here at low [] more h).whole in let z : ◌≡◌ {A = ℕ} 0 1 = cc in omega arith))
      (λ past. record { fine = λ r. refl; spells = sym (drop_of_length-le s past) })
  back (x ∷ rows) at low h =
      by_order at (length s)
      (λ more.
      let f = first at low x rows more (here at low (x ∷ rows) more h) in
      back_step at low x rows f (back rows (x.start + x.size) (suc x.kind) f.walks))
      (λ past. absurd (let e = none_left table ns s at low (x ∷ rows) past h in let z : ◌≡◌ {A = ℕ} 0 1 = cc in omega arith))
