-- What the private functions promise each other: no public contract cites it. Assumes nothing.
use Rattle.std.specs.Prelude.{◌≡◌, ℕ, ◌+◌, ◌*◌, ◌<◌, List, [], ◌∷◌, map, length, slice_index}
use Rattle.laws.specs.Digits.{from_bytes}
use Rattle.bech32.specs.Alphabet.{group_of}
use Rattle.bech32.specs.Checksum.{generator, reduced}

-- the groups of the eight characters from 8 * row on, one to a byte, the first one lowest: a row of the table that `group_of` uses
unfoldable pub row_of : (row : ℕ) → ℕ
row_of row = from_bytes (map (λ j. group_of (8 * row + j)) (7 ∷ 6 ∷ 5 ∷ 4 ∷ 3 ∷ 2 ∷ 1 ∷ 0 ∷ []))

-- what each five bits choose, from a state of 0: the table that `verify_groups` uses
abbrev pub AreSums : List ℕ → Type 0
AreSums sums = (length sums ≡ 32) × ((chosen : ℕ) → chosen < 32 → slice_index sums chosen ≡ reduced generator chosen 0)
