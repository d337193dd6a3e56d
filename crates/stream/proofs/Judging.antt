-- The answers of a whole stream, one law each. Assumes nothing.
use Rattle.std.specs.Prelude.{Ok, Err}
use mathlib.Core.Path.{◌≡◌, ◌∙◌}
use mathlib.Core.List.{List, []}
use Prim.Native.Nat.{ℕ, ◌*◌, ◌≤◌, ◌<◌}
use native.Mathlib.Omega.{arith}
use lib.ListN.{length, drop, length-drop}
use borrow.Author.Tests.{leb-true, le-leb, lt-leb}
use Rattle.answer.specs.Answer.{bare}
use Rattle.answer.specs.declared.Refusal.{Refusal}
use Rattle.answer.proofs.Answer.{then_accepted, then_refused, both, ensure_yes, ensure_no, ensured, fitting_refused, fitting_short, fitting_fits}
use Rattle.table.specs.Table.{checking}
use Rattle.stream.specs.Stream.{Row, per_row, outer_from, judging_from, reading_from}
use Rattle.stream.proofs.Records.{rows_end}

-- A stream that begins at a place of the bytes.
module _ (at : ℕ) (table : List ℕ) (ns : ℕ) (s : List ℕ) where
  pub judging_table : (r : Refusal) → checking table ≡ Err r → judging_from at table ns s ≡ Err r
  unfolding judging_from
  judging_table r e = then_refused r _ _ e

  module _ (fine : checking table ≡ Ok tt) where
    pub judging_namespace : 63 < ns → judging_from at table ns s ≡ Err (bare 61)
    unfolding judging_from
    judging_namespace h = then_accepted tt _ _ fine ∙ ensure_no _ _ _ (lt-leb ns 63 h)

    module _ (known : ns ≤ 63) where
      pub judging_long : 65535 < length (drop at s) → judging_from at table ns s ≡ Err (bare 14)
      unfolding judging_from
      judging_long h = then_accepted tt _ _ fine ∙ ensure_yes _ _ _ (le-leb ns 63 known) ∙ ensure_no _ _ _ (lt-leb (length (drop at s)) 65535 h)

      pub judging_outer : length (drop at s) ≤ 65535 → judging_from at table ns s ≡ outer_from at table ns s
      unfolding judging_from
      judging_outer h = then_accepted tt _ _ fine ∙ ensure_yes _ _ _ (le-leb ns 63 known) ∙ ensure_yes _ _ _ (le-leb (length (drop at s)) 65535 h)

      -- from the end of the bytes on there are none
      pub judging_none : length s ≤ at → judging_from at table ns s ≡ Ok []
      unfolding outer_from
      judging_none h =
          let none : length (drop at s) ≡ 0 = omega (arith, length-drop at s) in
          judging_outer (omega arith) ∙ rows_end table ns 3 at 0 (drop at s) none

  -- what an accepted stream says
  pub record Fine (rows : List Row) : Type 0 where
    pub checked : checking table ≡ Ok tt
    pub bounded : ns ≤ 63
    pub short : length (drop at s) ≤ 65535
    pub walked : outer_from at table ns s ≡ Ok rows

  pub judging_fine : (rows : List Row) → judging_from at table ns s ≡ Ok rows → Fine rows
  unfolding judging_from
  judging_fine rows h =
      let a = both _ _ rows h in
      let b = ensured _ _ _ rows a.second in
      let c = ensured _ _ _ rows b.rest in
      record { checked = a.first; bounded = leb-true ns 63 b.holds; short = leb-true (length (drop at s)) 65535 c.holds; walked = c.rest }

  -- Read into an index.
  module _ (room : ℕ) where
    pub reading_refused : (r : Refusal) → judging_from at table ns s ≡ Err r → reading_from at table ns s room ≡ Err r
    reading_refused = fitting_refused (λ rows. per_row * length rows) room (judging_from at table ns s)

    pub reading_short : (rows : List Row) → judging_from at table ns s ≡ Ok rows → room < per_row * length rows →
        reading_from at table ns s room ≡ Err (bare 12)
    reading_short = fitting_short (λ rows. per_row * length rows) room (judging_from at table ns s)

    pub reading_fits : (rows : List Row) → judging_from at table ns s ≡ Ok rows → per_row * length rows ≤ room →
        reading_from at table ns s room ≡ Ok rows
    reading_fits = fitting_fits (λ rows. per_row * length rows) room (judging_from at table ns s)
