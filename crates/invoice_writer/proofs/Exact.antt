-- What the writer takes for an amount is exact, as what the reader tells: document 02 (i). Assumes nothing.
use Rattle.std.specs.Prelude.{Option, Ok}
use mathlib.Core.List.{List, map}
use mathlib.Core.Path.{◌≡◌}
use Prim.Native.Nat.{ℕ}
use Rattle.invoice.specs.Exact.{AsksExactly}
use Rattle.invoice.specs.Invoice.{asking}
use Rattle.invoice.proofs.Exact.{asking_exact}
use Rattle.letters.specs.Letters.{lower}
use Rattle.money.specs.declared.Msat.{Msat}
use Rattle.invoice_writer.specs.Writer.{writing}
use Rattle.invoice_writer.proofs.RoundTrip.{written_is_read}

-- Whatever the writer makes, the amount that it was given asks exactly what its characters say, above zero.
pub takes_exactly : (prefix : ℕ) (amount : List ℕ) (time : ℕ) (fields signature : List ℕ) (room : ℕ) (text : List ℕ) →
    writing prefix amount time fields signature room ≡ Ok text →
    (asked : Option Msat) × (asking (map lower amount) ≡ Ok asked) × AsksExactly (map lower amount) asked
takes_exactly prefix amount time fields signature room text h =
    let w = written_is_read prefix amount time fields signature room text h in
    (w.0.hrp.msat, w.2.same_value, asking_exact _ _ w.2.same_value)
