-- `stream_index::put_row` meets its contract: four stores in a row. Assumes nothing.
use borrow.Author.Rules.{rules}
use native.Mathlib.Numerals.{towards_suc}
use native.Mathlib.Omega.{arith}
use lib.ListN.{length-set}
use Rattle.stream_index.proofs.put_row.Statement.{statement}
use Rattle.stream_index.proofs.put_row.Tie as tie

slice-write-index-2 : tie.Need-bounds-index-i-2
slice-write-index-2 c = simp length-set (omega arith)

slice-write-index-3 : tie.Need-bounds-index-i-3
slice-write-index-3 c = simp length-set (omega arith)

slice-write-index-4 : tie.Need-bounds-index-i-4
slice-write-index-4 c = simp length-set (omega arith)

returns : tie.Need-returns
returns c = simp towards_suc

pub put_row_spec : {M : Type 1} → statement M
put_row_spec =
    tie.close
    (tie.spec (search rules) (search rules) (search rules) (search rules) slice-write-index-2 (search rules) (search rules) slice-write-index-3 (search rules)
    (search rules) slice-write-index-4 (search rules) returns)
