-- The answers of the report's writer, one law each. Assumes nothing.
use Rattle.std.specs.Prelude.{Ok, Err}
use mathlib.Core.List.{List, ◌++◌}
use mathlib.Core.Path.{◌≡◌, ◌∙◌}
use Prim.Native.Nat.{ℕ, ◌≤◌, ◌<◌}
use native.Mathlib.Omega.{arith}
use lib.ListN.{length, drop}
use borrow.Author.Tests.{le-leb, lt-leb}
use Rattle.laws.proofs.Lists.{sets_front}
use Rattle.answer.specs.Answer.{bare}
use Rattle.answer.proofs.Answer.{ensure_yes, ensure_no}
use Rattle.report_lines.specs.Private.{Puts}
use Rattle.report_text.specs.Report.{reporting, writing}

module _ (book : List ℕ) (room : ℕ) where
  pub writing_short : room < length (reporting book) → writing book room ≡ Err (bare 12)
  unfolding writing
  writing_short h = ensure_no _ _ _ (lt-leb (length (reporting book)) room h)

  pub writing_fits : length (reporting book) ≤ room → writing book room ≡ Ok (reporting book)
  unfolding writing
  writing_fits h = ensure_yes _ _ _ (le-leb (length (reporting book)) room h)

-- bytes put at the front: the rest is as it was
pub puts_front : (bytes before after : List ℕ) (end : ℕ) → Puts bytes before 0 after end → length bytes ≤ length before → (end ≡ length bytes) × (after ≡ bytes ++ drop (length bytes) before)
puts_front bytes before after end p fits = (omega (arith, p.ends), p.there ∙ sets_front before bytes fits)
