-- The text of an invoice and its two parts: document 01, "Invoices" and "The refusal list", 30 to 35. Assumes nothing.
use Prim.Native.Char.{code}
use Rattle.std.specs.Prelude.{ℕ, suc, ◌+◌, ◌-◌, Bool, not, ◌&&◌, List, [], ◌∷◌, map, ltb, leb, eqb, length, take, drop}
use Rattle.bech32.specs.Alphabet.{groups_in}
use Rattle.bech32.specs.Checksum.{verify_checksum}
use Rattle.letters.specs.Letters.{is_upper, is_lower, lower}
use Rattle.laws.specs.Test.{pick}
use Rattle.money.specs.Amount.{is_digit}
use Rattle.answer.specs.Answer.{Answer, refuse, bare, ensure, ◌>>=◌}

-- the place of the first element of which a test holds; the list's length where there is none
unfoldable pub first_where : {A : Type 0} → (A → Bool) → List A → ℕ
first_where test [] = 0
first_where test (x ∷ xs) = pick (test x) 0 (suc (first_where test xs))

-- whether there is one
abbrev pub has : {A : Type 0} → (A → Bool) → List A → Bool
has test xs = ltb (first_where test xs) (length xs)

-- a byte outside 33 to 126
abbrev pub is_outside : (c : ℕ) → Bool
is_outside c = not (leb 33 c && leb c 126)

-- a byte above 31, which is no group
abbrev pub is_above31 : (g : ℕ) → Bool
is_above31 g = leb 32 g

-- how many characters there are up to the last "1", itself counted: 0 without one
unfoldable pub up_to_last_one : (text : List ℕ) → ℕ
up_to_last_one [] = 0
up_to_last_one (c ∷ cs) = pick (ltb 0 (up_to_last_one cs)) (suc (up_to_last_one cs)) (pick (eqb c (code "1")) 1 0)

-- The last "1" parts the human readable part from the data.
abbrev pub hrp_of : (text : List ℕ) → List ℕ
hrp_of t = take (up_to_last_one t - 1) t

abbrev pub data_of : (text : List ℕ) → List ℕ
data_of t = drop (up_to_last_one t) t

-- 30: at most 4,096 characters. 31: none outside 33 to 126, with its place. 32: letters of one case. 33: a separator with something before it, and 117
-- characters or more after it.
unfoldable pub parting : (text : List ℕ) → Answer (Unit {0})
parting t = do
  _ ← ensure (leb (length t) 4096) (bare 30)
  _ ← ensure (not (has is_outside t)) (refuse 31 (first_where is_outside t) 0)
  _ ← ensure (not (has is_upper t && has is_lower t)) (bare 32)
  _ ← ensure (leb 2 (up_to_last_one t)) (bare 33)
  ensure (leb 117 (length (data_of t))) (bare 33)

-- 34: no group above 31, which stands for a character outside the alphabet, with the place in the text, whose data begins at `begin`. 35: the checksum of
-- the two parts, in lower case.
unfoldable pub sealing : (begin : ℕ) (hrp groups : List ℕ) → Answer (Unit {0})
sealing begin hrp groups = do
  _ ← ensure (not (has is_above31 groups)) (refuse 34 (begin + first_where is_above31 groups) 0)
  ensure (verify_checksum (map lower hrp) groups) (bare 35)

-- 30 to 35. The lower-case text is judged from 33 on; lower case moves no character, and no "1".
unfoldable pub spelling : (text : List ℕ) → Answer (Unit {0})
spelling t = do
  _ ← parting t
  sealing (up_to_last_one t) (hrp_of t) (groups_in (data_of t))
