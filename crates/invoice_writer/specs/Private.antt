-- What the private functions promise each other: no public contract cites it. Assumes nothing.
use Rattle.std.specs.Prelude.{ℕ, ◌-◌, List, [], get_or, Err}
use Rattle.invoice.specs.Edition.{prefixes}
use Rattle.invoice.specs.Invoice.{judging}
use Rattle.answer.specs.Answer.{Answer, bare, ◌>>=◌}

-- the prefix that is not refused
abbrev pub name_of : (prefix : ℕ) → List ℕ
name_of prefix = get_or prefixes (prefix - 1) []

-- the refusal of a text that does not fit into an output: its own, or 12
unfoldable pub unwritten_of : (text : List ℕ) → Answer ℕ
unwritten_of text = do
  _ ← judging text
  Err (bare 12)
