-- What it means that an amount is spelled shortest: document 02 (vi), its sixth rule. Assumes nothing.
use Rattle.std.specs.Prelude.{List, ◌≡◌, ℕ, ◌≤◌, length, Ok}
use Rattle.money.specs.Amount.{amounting}
use Rattle.money.specs.declared.Msat.{Msat}

-- "The amount so spelled that no allowed spelling of it has fewer characters": none of all the texts that spell the same amount. A text that spells no amount
-- has no other spelling, and keeps it.
abbrev pub Shortest : (text : List ℕ) → Type 0
Shortest text = (m : Msat) → amounting text ≡ Ok m → (other : List ℕ) → amounting other ≡ Ok m → length text ≤ length other
