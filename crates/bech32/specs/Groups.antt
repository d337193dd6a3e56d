-- Groups of five bits, as numbers and as bytes: document 01, "Invoices". Assumes nothing.
use Rattle.std.specs.Prelude.{ℕ, ◌+◌, ◌-◌, ◌*◌, ◌/◌, ◌%◌, ◌^◌, List, length}
use Rattle.laws.specs.Digits.{AreDigits, from_digits, to_digits, from_bytes, to_bytes}

-- every element is a group
abbrev pub AreGroups : List ℕ → Type 0
AreGroups s = AreDigits 5 s

-- the low five bits
abbrev pub low5 : (g : ℕ) → ℕ
low5 g = g % 32

-- the number that groups spell: digits to the base 32, the highest first
abbrev pub number : (groups : List ℕ) → ℕ
number gs = from_digits 5 gs

-- the n low groups of a number, the highest first
abbrev pub digits : (n v : ℕ) → List ℕ
digits n v = to_digits 5 n v

-- The whole bytes of groups: n groups have 5 n bits, from the highest on; the bits left over at the end are dropped.
unfoldable pub bytes_of : (groups : List ℕ) → List ℕ
bytes_of gs =
    let bits = 5 * length gs in
    to_bytes (bits / 8) (number gs / 2 ^ (bits % 8))

-- The groups of bytes: as few as hold their bits, the last one filled up with zero bits.
unfoldable pub groups_of : (bytes : List ℕ) → List ℕ
groups_of bs =
    let bits = 8 * length bs in
    let n = (bits + 4) / 5 in
    digits n (from_bytes bs * 2 ^ (5 * n - bits))
