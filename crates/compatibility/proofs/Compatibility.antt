-- Demand 3: two accepted tables, the newer holding every row of the older unchanged, over the same stream. Assumes nothing.
use Rattle.std.specs.Prelude.{Ok, Err, None}
use mathlib.Core.Bool.{Bool, true, false}
use mathlib.Core.List.{List}
use mathlib.Core.Path.{◌≡◌, refl, sym, ◌∙◌}
use Prim.Native.Nat.{ℕ, ◌%◌, ◌<◌}
use native.Mathlib.Omega.{arith}
use lib.Dec.{eqb}
use borrow.Author.Tests.{eqb-true, eqb-false, ne_eqb}
use Rattle.answer.specs.Answer.{Answer, refuse, ensure, ◌>>=◌}
use Rattle.answer.proofs.Answer.{ensure_yes, ensure_no, ensured}
use Rattle.table_extension.proofs.Extending.{extends_agrees}
use Rattle.table_extension.specs.Extension.{Holds}
use Rattle.table.specs.Table.{checking}
use Rattle.stream.specs.Stream.{Record, knows, inside, own, answering, judged, Row, reading}
use Rattle.compatibility.specs.Demand.{enterable, verdict, LacksEven, Breaks, SameRows, OlderAnswers, NewerAnswers}
use Rattle.compatibility.proofs.Agree.{Decided, has, lacks, agree}
use Rattle.compatibility.proofs.Twin.{Keeps}
use Rattle.compatibility.proofs.Outcome.{Outcome, refuses_exactly, refuses_first, accepts_otherwise}
use Rattle.compatibility.proofs.Places.{refused_inside}

keeps_itself : (table : List ℕ) → Keeps table table
keeps_itself table _ _ _ _ h = h

-- a record whose type a table lacks
lacking : (table : List ℕ) (e : Record) → knows table e ≡ None →
    verdict table e ≡ (ensure (eqb (e.kind % 2) 1) (refuse 7 e.place e.kind) >>= λ _. Ok 0)
unfolding judged own inside answering ◌>>=◌
lacking table e h = rw h

lacking_even : (table : List ℕ) (e : Record) → LacksEven table e → verdict table e ≡ Err (refuse 7 e.place e.kind)
lacking_even table e h = lacking table e h.0 ∙ ensure_no _ _ _ (ne_eqb (e.kind % 2) 1 (omega arith))

-- a table refuses a record that it lacks exactly where the type is even
decides_even : (table : List ℕ) (e : Record) → knows table e ≡ None → Decided (LacksEven table) table e
decides_even table e h = go (eqb (e.kind % 2) 1) refl
  where
    go : (c : Bool) → eqb (e.kind % 2) 1 ≡ c → Decided (LacksEven table) table e
    go true q = lacks (λ p. omega (arith, eqb-true (e.kind % 2) 1 q)) 0 (lacking table e h ∙ ensure_yes _ _ _ q)
    go false q = let p : LacksEven table e = (h, omega (arith, eqb-false (e.kind % 2) 1 q)) in has p (refuse 7 e.place e.kind, lacking_even table e p)

-- a newer table refuses a record that the older lacks and accepts exactly where its value breaks the form
decides_broken : (older newer : List ℕ) (e : Record) → e.place < e.start → knows older e ≡ None → (m : ℕ) → verdict older e ≡ Ok m →
    Decided (Breaks older newer) newer e
decides_broken older newer e placed h m a = go (verdict newer e) refl
  where
    odd : e.kind % 2 ≡ 1
    odd = eqb-true (e.kind % 2) 1 (ensured _ _ _ m (sym (lacking older e h) ∙ a)).holds

    go : (x : Answer ℕ) → verdict newer e ≡ x → Decided (Breaks older newer) newer e
    go (Ok n) q = lacks (λ p. let g = p.3.judges in let z : ◌≡◌ {A = ℕ} 0 1 = cc in omega arith) n q
    go (Err r) q = has (h, odd, r, (refused_inside newer e r placed q).0) (r, q)

module _ (older newer : List ℕ) (older-ok : checking older ≡ Ok tt) (newer-ok : checking newer ≡ Ok tt) (holds : Holds newer older)
    (namespace : ℕ) (stream : List ℕ) (room : ℕ) (rows : List Row) where
  keeps : Keeps older newer
  keeps = extends_agrees older newer newer-ok holds

  -- The first half: what the older reader answers where the newer accepts.
  pub newer_accepts : reading newer namespace stream room ≡ Ok rows → OlderAnswers older newer namespace stream room rows
  newer_accepts h =
      record {
        refuses = refuses_exactly o;
        first = λ r.
            let f = refuses_first o r in
            let w = f.2 in
            (f.0, f.1, cc (lacking_even older f.0 f.1.has));
        otherwise = accepts_otherwise o;
      }
    where
      o : Outcome (LacksEven older) older (SameRows older namespace rows) (enterable older namespace stream) (reading older namespace stream room)
      o =
          agree older newer older keeps (keeps_itself older) (LacksEven older) (λ e p. p.0) (λ e _ q _ _. decides_even older e q) namespace older-ok
          stream room rows h

  -- The second half: what the newer reader answers where the older accepts.
  pub older_accepts : reading older namespace stream room ≡ Ok rows → NewerAnswers older newer namespace stream room rows
  older_accepts h =
      record {
        refuses = refuses_exactly o;
        first = λ r.
            let f = refuses_first o r in
            let w = f.2 in
            let g = refused_inside newer f.0 w.refusal w.placed w.judges in
            (f.0, f.1, w.refusal, g.0, w.answers, g.1);
        otherwise = accepts_otherwise o;
      }
    where
      o : Outcome (Breaks older newer) newer (SameRows older namespace rows) (enterable older namespace stream) (reading newer namespace stream room)
      o =
          agree older older newer (keeps_itself older) keeps (Breaks older newer) (λ e p. p.0) (decides_broken older newer) namespace newer-ok
          stream room rows h
