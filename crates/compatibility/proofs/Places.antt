-- Where a refusal of a record lies. Assumes nothing.
use Rattle.std.specs.Prelude.{Err}
use mathlib.Core.List.{List}
use mathlib.Core.Path.{◌≡◌}
use Prim.Native.Nat.{ℕ, ◌+◌, ◌<◌}
use native.Mathlib.Omega.{arith}
use lib.ListN.{length}
use Rattle.answer.specs.declared.Refusal.{Refusal}
use Rattle.answer.proofs.Answer.{refusing_is}
use Rattle.stream.specs.Stream.{Record, knows}
use Rattle.stream.proofs.Places.{judged_between}
use Rattle.compatibility.specs.Demand.{verdict, Gives, Inside}

-- a table's refusal of a record is any of 1 to 11, and lies at or inside it
pub refused_inside : (table : List ℕ) (e : Record) (r : Refusal) → e.place < e.start → verdict table e ≡ Err r → Gives table e r × Inside e r
refused_inside table e r placed h =
    let hi = e.start + length e.value in
    let w =
    refusing_is
    (judged_between e.place hi table e.levels (knows table e) e.place e.kind e.start e.value (omega arith) placed (omega arith)) h in
    (record { judges = h; least = w.0; most = w.1 }, record { from = w.2; to = w.3 })
