-- What the private functions promise each other: no public contract cites it. Assumes nothing.
use Rattle.std.specs.Prelude.{ℕ, ◌+◌, List, ◌≡◌, length}
use Rattle.std.proofs.lemmas.List.Edits.{sets}

-- Bytes put into a buffer from a place on: where they end, and that those the buffer has room for stand there and the rest is as it was.
pub record Puts (bytes before : List ℕ) (at : ℕ) (after : List ℕ) (end : ℕ) : Type 0 where
  pub ends : end ≡ at + length bytes
  pub there : after ≡ sets before at bytes
