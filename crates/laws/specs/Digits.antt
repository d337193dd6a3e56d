-- Numbers as digits of w bits each, the most significant digit first: bytes are digits of eight bits, Bech32's groups digits of five. Assumes nothing.
use Rattle.std.specs.Prelude.{ℕ, zero, suc, ◌+◌, ◌*◌, ◌/◌, ◌%◌, ◌^◌, ◌<◌, List, [], ◌∷◌, length, get_or}

-- every element is a digit
abbrev pub AreDigits : (w : ℕ) → List ℕ → Type 0
AreDigits w s = (k : ℕ) → get_or s k 0 < 2 ^ w

-- the number that digits spell
unfoldable pub from_digits : (w : ℕ) → List ℕ → ℕ
from_digits w [] = 0
from_digits w (d ∷ ds) = d * 2 ^ (w * length ds) + from_digits w ds

-- the last n digits of v
unfoldable pub to_digits : (w n v : ℕ) → List ℕ
to_digits w zero v = []
to_digits w (suc n) v = v / 2 ^ (w * n) % 2 ^ w ∷ to_digits w n v

-- Bytes: big-endian numbers.

abbrev pub AreBytes : List ℕ → Type 0
AreBytes s = AreDigits 8 s

abbrev pub from_bytes : List ℕ → ℕ
from_bytes bs = from_digits 8 bs

abbrev pub to_bytes : (n v : ℕ) → List ℕ
to_bytes n v = to_digits 8 n v
