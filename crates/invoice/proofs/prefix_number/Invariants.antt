use Rattle.std.proofs.Common.{map, ◌≡◌, ◌+◌, ◌-◌, drop}
use Rattle.invoice_text.specs.Text.{first_where}
use Rattle.letters.specs.Letters.{lower}
use Rattle.invoice.specs.Edition.{same, prefixes}
use Rattle.invoice.proofs.prefix_number.Given as goal

-- the prefixes passed and the place among those left are the place in all
abbrev pub invariant-loop-number : goal.invariant-loop-number
invariant-loop-number l =
    l.number - 1 + first_where (same (map lower l.text)) (drop (l.number - 1) prefixes) ≡ first_where (same (map lower l.text)) prefixes
