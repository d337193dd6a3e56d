-- What it means that an invoice asks exactly what its text says: document 02 (i). Assumes nothing.
use Rattle.std.specs.Prelude.{ℕ, List, [], ◌≡◌, Option, Some, None}
use Rattle.money.specs.Exact.{Exact}
use Rattle.money.specs.declared.Msat.{Msat}

-- Nothing is asked only where there is no amount's character; else an exact amount above zero.
abbrev pub AsksExactly : (amount : List ℕ) → Option Msat → Type 0
AsksExactly amount None = amount ≡ []
AsksExactly amount (Some m) = Exact amount m
