-- The answers of the whole writer, one law each. Assumes nothing.
use Rattle.std.specs.Prelude.{Ok, Err}
use mathlib.Core.Path.{◌≡◌, ◌∙◌}
use mathlib.Core.List.{List}
use Prim.Native.Nat.{ℕ, ◌%◌, ◌≤◌, ◌<◌}
use lib.ListN.{length}
use borrow.Author.Tests.{leb-true, eqb-true, le-leb, lt-leb, eq-eqb, ne_eqb}
use Rattle.answer.specs.Answer.{bare}
use Rattle.answer.specs.declared.Refusal.{Refusal}
use Rattle.answer.proofs.Answer.{then_accepted, then_refused, both, ensure_yes, ensure_no, ensured, fitting_refused, fitting_short, fitting_fits, fitted}
use Rattle.table.specs.Table.{checking}
use Rattle.stream_writer.specs.Writer.{bytes_of, rows_judged, composing, writing}

module _ (table : List ℕ) (ns : ℕ) (triples source : List ℕ) where
  pub composing_table : (r : Refusal) → checking table ≡ Err r → composing table ns triples source ≡ Err r
  unfolding composing
  composing_table r e = then_refused r _ _ e

  module _ (fine : checking table ≡ Ok tt) where
    pub composing_namespace : 63 < ns → composing table ns triples source ≡ Err (bare 61)
    unfolding composing
    composing_namespace h = then_accepted tt _ _ fine ∙ ensure_no _ _ _ (lt-leb ns 63 h)

    module _ (known : ns ≤ 63) where
      pub composing_threes : (length triples % 3 ≡ 0 → ⊥) → composing table ns triples source ≡ Err (bare 16)
      unfolding composing
      composing_threes h = then_accepted tt _ _ fine ∙ ensure_yes _ _ _ (le-leb ns 63 known) ∙ ensure_no _ _ _ (ne_eqb _ _ h)

      module _ (threes : length triples % 3 ≡ 0) where
        pub composing_rows : (r : Refusal) → rows_judged table ns source 0 0 triples ≡ Err r → composing table ns triples source ≡ Err r
        unfolding composing
        composing_rows r e = then_accepted tt _ _ fine ∙ ensure_yes _ _ _ (le-leb ns 63 known) ∙ ensure_yes _ _ _ (eq-eqb _ _ threes) ∙ then_refused r _ _ e

        module _ (rows : rows_judged table ns source 0 0 triples ≡ Ok tt) where
          pub composing_long : 65535 < length (bytes_of triples source) → composing table ns triples source ≡ Err (bare 14)
          unfolding composing
          composing_long h =
              then_accepted tt _ _ fine ∙ ensure_yes _ _ _ (le-leb ns 63 known) ∙ ensure_yes _ _ _ (eq-eqb _ _ threes) ∙ then_accepted tt _ _ rows ∙ ensure_no _ _ _ (lt-leb _ _ h)

          pub composing_fits : length (bytes_of triples source) ≤ 65535 → composing table ns triples source ≡ Ok (bytes_of triples source)
          unfolding composing
          composing_fits h =
              then_accepted tt _ _ fine ∙ ensure_yes _ _ _ (le-leb ns 63 known) ∙ ensure_yes _ _ _ (eq-eqb _ _ threes) ∙ then_accepted tt _ _ rows ∙ ensure_yes _ _ _ (le-leb _ _ h)

  -- what an accepted writing says
  pub record Composed (bytes : List ℕ) : Type 0 where
    pub checked : checking table ≡ Ok tt
    pub bounded : ns ≤ 63
    pub threes : length triples % 3 ≡ 0
    pub judged : rows_judged table ns source 0 0 triples ≡ Ok tt
    pub short : length (bytes_of triples source) ≤ 65535
    pub is : bytes ≡ bytes_of triples source

  pub composed : (bytes : List ℕ) → composing table ns triples source ≡ Ok bytes → Composed bytes
  unfolding composing
  composed bytes h =
      let a = both _ _ bytes h in
      let b = ensured _ _ _ bytes a.second in
      let c = ensured _ _ _ bytes b.rest in
      let d = both _ _ bytes c.rest in
      let e = ensured _ _ _ bytes d.second in
      record { checked = a.first; bounded = leb-true ns 63 b.holds; threes = eqb-true _ 0 c.holds; judged = d.first; short = leb-true _ _ e.holds; is = cc e.rest }

  -- Written into an output.
  module _ (room : ℕ) where
    pub writing_refused : (r : Refusal) → composing table ns triples source ≡ Err r → writing table ns triples source room ≡ Err r
    writing_refused = fitting_refused length room (composing table ns triples source)

    pub written : (bytes : List ℕ) → writing table ns triples source room ≡ Ok bytes → composing table ns triples source ≡ Ok bytes
    written bytes h = (fitted length room (composing table ns triples source) bytes h).was

    module _ (bytes : List ℕ) (fine : composing table ns triples source ≡ Ok bytes) where
      pub writing_short : room < length bytes → writing table ns triples source room ≡ Err (bare 12)
      writing_short = fitting_short length room (composing table ns triples source) bytes fine

      pub writing_fits : length bytes ≤ room → writing table ns triples source room ≡ Ok bytes
      writing_fits = fitting_fits length room (composing table ns triples source) bytes fine
