-- What the edition of BOLT 11 fixes that is read and written: document 01, "Invoices". Assumes nothing.
use Prim.Native.Char.{code}
use Rattle.std.specs.Prelude.{ℕ, suc, ◌-◌, Bool, true, false, ◌&&◌, List, [], ◌∷◌, leb, eqb, length, get_or, Ok}
use Rattle.answer.specs.Answer.{Answer, bare, ensure, ◌>>=◌}
use Rattle.invoice_text.specs.Text.{first_where, has}

-- The prefixes in the order of their numbers: lnbc is 1, lntb is 2.
abbrev pub lnbc : List ℕ
lnbc = code "l" ∷ code "n" ∷ code "b" ∷ code "c" ∷ []

abbrev pub lntb : List ℕ
lntb = code "l" ∷ code "n" ∷ code "t" ∷ code "b" ∷ []

abbrev pub prefixes : List (List ℕ)
prefixes = lnbc ∷ lntb ∷ []

-- Without a usable x the expiry is 3,600, without a usable c the delta is 9.
abbrev pub default_expiry : ℕ
default_expiry = 3600

abbrev pub default_delta : ℕ
default_delta = 9

-- whether two texts are the same
unfoldable pub same : List ℕ → List ℕ → Bool
same [] [] = true
same (a ∷ s) (b ∷ t) = eqb a b && same s t
same [] (_ ∷ _) = false
same (_ ∷ _) [] = false

-- the number of a prefix; 36 for any other text
unfoldable pub prefix_number : (text : List ℕ) → Answer ℕ
prefix_number text = do
  _ ← ensure (has (same text) prefixes) (bare 36)
  Ok (suc (first_where (same text) prefixes))

-- the prefix of a number; 36 for any other number
unfoldable pub prefixed : (number : ℕ) → Answer (List ℕ)
prefixed number = do
  _ ← ensure (leb 1 number && leb number (length prefixes)) (bare 36)
  Ok (get_or prefixes (number - 1) [])
