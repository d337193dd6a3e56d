-- BigSize: document 01, "BigSize and records"; BOLT 1, Appendix A; document 02, (v). Assumes nothing.
use Rattle.std.specs.Prelude.{ℕ, ◌+◌, ◌-◌, ◌^◌, ◌≤◌, ◌<◌, List, [], ◌∷◌, ◌≡◌, length, take, ltb, leb, eqb, Ok, Err}
use Rattle.laws.specs.Digits.{from_bytes, to_bytes}
use Rattle.laws.specs.Test.{pick}
use Rattle.answer.specs.Answer.{Answer, lacking, bare, ensure, ◌>>=◌, fits}
use Rattle.bigsize.specs.declared.Number.{Number}

-- a number, and how many bytes it takes
abbrev pub number : (value width : ℕ) → Number
number v w = record { value = v; width = w }

-- The shortest form. Below 253: one byte. Below 65,536: 253 and two bytes. Below 2^32: 254 and four. Else 255 and eight.
unfoldable pub shortest : (value : ℕ) → List ℕ
shortest v =
    pick (ltb v 253) (v ∷ [])
    (pick (ltb v 65536) (253 ∷ to_bytes 2 v)
    (pick (ltb v (2 ^ 32)) (254 ∷ to_bytes 4 v)
    (255 ∷ to_bytes 8 v)))

-- a number, unless a shorter form holds it: 2
unfoldable pub at_least : (least : ℕ) → Number → Answer Number
at_least least x = do
  _ ← ensure (leb least x.value) (bare 2)
  Ok x

-- The number that n bytes behind the first one spell, where the form is for numbers from `least` up: 1 where they are cut short, with how many of them are
-- missing.
unfoldable pub spelled : (n least : ℕ) → List ℕ → Answer Number
spelled n least bs = do
  _ ← ensure (leb n (length bs)) (lacking 1 0 0 (n - length bs))
  at_least least (number (from_bytes (take n bs)) (1 + n))

-- The number at the front of some bytes; those behind it are not looked at. Asked of nothing: 13, and its first byte is missing.
unfoldable pub reading : List ℕ → Answer Number
reading [] = Err (lacking 13 0 0 1)
reading (b ∷ bs) =
    pick (ltb b 253) (Ok (number b 1))
    (pick (eqb b 253) (spelled 2 253 bs)
    (pick (eqb b 254) (spelled 4 65536 bs)
    (spelled 8 (2 ^ 32) bs)))

-- how many bytes it lacks: as its refusal says, and none where it is read
abbrev pub missing_in : Answer Number → ℕ
missing_in (Ok x) = 0
missing_in (Err r) = r.missing

-- The same without the questions whether it is cut short, and then it is 0 in no bytes, and whether it is in its shortest form.
unfoldable pub peeked : (n : ℕ) → List ℕ → Number
peeked n bs = pick (leb n (length bs)) (number (from_bytes (take n bs)) (1 + n)) (number 0 0)

unfoldable pub peeking : List ℕ → Number
peeking [] = number 0 0
peeking (b ∷ bs) = pick (ltb b 253) (number b 1) (pick (eqb b 253) (peeked 2 bs) (pick (eqb b 254) (peeked 4 bs) (peeked 8 bs)))

-- The bytes written at the front of an output of that length: 12 where they do not fit.
unfoldable pub writing : (value room : ℕ) → Answer (List ℕ)
writing v room = do
  _ ← fits (length (shortest v)) room
  Ok (shortest v)

-- A number that was read: 64 bits, in its shortest form, which is what stands at the front of the bytes.
pub record ReadShortest (s : List ℕ) (x : Number) : Type 0 where
  pub fits : x.value < 2 ^ 64
  pub width : x.width ≡ length (shortest x.value)
  pub inside : x.width ≤ length s
  pub bytes : take x.width s ≡ shortest x.value
