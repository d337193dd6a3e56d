-- Whether a table extends another, as a struct. Assumes nothing.
use Rattle.std.specs.Prelude.{ℕ}
use Rattle.answer.specs.declared.Refusal.{Refusal}
use Rattle.table_extension.specs.declared.Comparison.{Comparison as Answered}
use Rattle.c_answer.specs.Results.{nothing, yes}
use Rattle.c_stream.specs.declared.tables.Comparison.{Comparison}

abbrev pub compared : (outcome row : ℕ) → Refusal → Comparison
compared outcome row r = record { refusal = r; outcome = outcome; row = row }

-- The outcome is 0 for yes, 1 where the older table is refused, 2 where the newer lacks a row, 3 where the newer table is refused.
abbrev pub comparison_of : Answered → Comparison
comparison_of Answered.Extends = compared yes 0 nothing
comparison_of (Answered.OlderRefused r) = compared 1 0 r
comparison_of (Answered.Lacks row) = compared 2 row nothing
comparison_of (Answered.NewerRefused r) = compared 3 0 r
