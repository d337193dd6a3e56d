-- The invoice writer: document 01, "Invoices" and "The refusal list". Assumes nothing.
use Prim.Native.Char.{code}
use Rattle.std.specs.Prelude.{ℕ, ◌^◌, not, List, ◌∷◌, ◌++◌, map, ltb, leb, length, Ok}
use Rattle.bech32.specs.Alphabet.{char_of}
use Rattle.bech32.specs.Checksum.{create_checksum}
use Rattle.bech32.specs.Groups.{digits}
use Rattle.field.specs.Fields.{fielding}
use Rattle.invoice.specs.Edition.{prefixed}
use Rattle.invoice.specs.Invoice.{asking}
use Rattle.invoice_text.specs.Text.{has, is_above31}
use Rattle.letters.specs.Letters.{lower}
use Rattle.answer.specs.Answer.{Answer, bare, ensure, ◌>>=◌, fitting}

-- the groups of an invoice less the checksum: 7 for the time, the fields, the signature
abbrev pub groups_from : (time : ℕ) (fields signature : List ℕ) → List ℕ
groups_from time fields signature = digits 7 time ++ fields ++ signature

-- The finished text: the human readable part, the separator, the characters of the groups and of the six that close them.
unfoldable pub text_of : (hrp groups : List ℕ) → List ℕ
text_of hrp groups = hrp ++ code "1" ∷ map char_of (groups ++ create_checksum hrp groups)

-- 42, 34 for a group above 31, 36 for a number that is no prefix's, 37, then what the reader asks of fields and signature: 38 to 40. The text has the amount in lower case.
unfoldable pub composing : (prefix : ℕ) (amount : List ℕ) (time : ℕ) (fields signature : List ℕ) → Answer (List ℕ)
composing prefix amount time fields signature = do
  _ ← ensure (ltb time (2 ^ 35)) (bare 42)
  _ ← ensure (not (has is_above31 (fields ++ signature))) (bare 34)
  name ← prefixed prefix
  _ ← asking (map lower amount)
  _ ← fielding fields signature
  Ok (text_of (name ++ map lower amount) (groups_from time fields signature))

-- The same, written at the front of an output of that length: 30 for the finished text, then 12 where it does not fit.
unfoldable pub writing : (prefix : ℕ) (amount : List ℕ) (time : ℕ) (fields signature : List ℕ) (room : ℕ) → Answer (List ℕ)
writing prefix amount time fields signature room = do
  text ← composing prefix amount time fields signature
  _ ← ensure (leb (length text) 4096) (bare 30)
  fitting length room (Ok text)
