-- An invoice that is read and written back. Assumes nothing.
use Rattle.std.specs.Prelude.{ℕ, List, map, ◌≡◌, length, Ok}
use Rattle.field.specs.Fields.{numbers_of}
use Rattle.invoice.specs.Invoice.{Contents, asking, amount_of, time_of, middle_of, signature_of, reading}
use Rattle.letters.specs.Letters.{lower}
use Rattle.answer.specs.Answer.{Answer, mapped, fitting, filled}

-- What the reader answers about a text is what the writer was given.
pub record SameContent (prefix : ℕ) (amount : List ℕ) (time : ℕ) (fields signature text : List ℕ) (told : Contents) : Type 0 where
  pub same_prefix : told.hrp.prefix ≡ prefix
  pub same_amount : amount_of text told ≡ map lower amount
  pub same_value : asking (map lower amount) ≡ Ok told.hrp.msat
  pub same_time : time_of told.groups ≡ time
  pub same_fields : middle_of told.groups ≡ fields
  pub same_signature : signature_of told.groups ≡ signature

-- The reader's answer, with 12 also where the output is shorter than the text.
abbrev pub writing_back : (text : List ℕ) (groups index out : ℕ) → Answer Contents
writing_back text groups index out = fitting (λ _. length text) out (reading text groups index)

-- What writing back answers and leaves of the lent buffers: what the reader leaves, and the text in lower case at the output's front; on a refusal all as they came.
pub record WritesBack (text groups index out : List ℕ) (answer : Answer ℕ) (groupsLeft indexLeft outLeft : List ℕ) : Type 0 where
  pub answers : answer ≡ mapped (λ _. length text) (writing_back text (length groups) (length index) (length out))
  pub fills_groups : groupsLeft ≡ filled (mapped (λ c. c.groups) (writing_back text (length groups) (length index) (length out))) groups
  pub fills_index : indexLeft ≡ filled (mapped (λ c. numbers_of c.fields) (writing_back text (length groups) (length index) (length out))) index
  pub fills_out : outLeft ≡ filled (mapped (λ _. map lower text) (writing_back text (length groups) (length index) (length out))) out
