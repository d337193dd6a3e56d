-- An invoice: document 01, "Invoices" and "The refusal list", 36 to 40 and 12. Assumes nothing.
use Rattle.std.specs.Prelude.{ℕ, ◌-◌, ◌*◌, List, [], ◌∷◌, map, ◌≡◌, length, take, drop, Option, Some, None, Ok}
use Rattle.bech32.specs.Alphabet.{groups_in}
use Rattle.bech32.specs.Groups.{number}
use Rattle.letters.specs.Letters.{lower}
use Rattle.money.specs.Amount.{is_digit, amounting}
use Rattle.money.specs.declared.Msat.{Msat}
use Rattle.answer.specs.Answer.{Answer, mapped, ◌>>=◌, fitting, filled}
use Rattle.field.specs.declared.Field.{Field}
use Rattle.field.specs.Fields.{payment_hash, expiry, delta, is_usable, first_usable, number_or, fielding, numbers_of}
use Rattle.invoice_text.specs.Text.{first_where, hrp_of, data_of, spelling}
use Rattle.invoice.specs.Edition.{prefix_number, default_expiry, default_delta}
use Rattle.invoice.specs.declared.Summary.{Summary}

-- the characters before the first digit of a human readable part, and those from it on
abbrev pub prefix_in : (hrp : List ℕ) → List ℕ
prefix_in h = take (first_where is_digit h) h

abbrev pub amount_in : (hrp : List ℕ) → List ℕ
amount_in h = drop (first_where is_digit h) h

-- The characters before the first digit must be exactly a prefix; else 36.
abbrev pub prefixing : (hrp : List ℕ) → Answer ℕ
prefixing h = prefix_number (prefix_in h)

-- An amount, if any; 37 is the amount's own.
unfoldable pub asking : (amount : List ℕ) → Answer (Option Msat)
asking [] = Ok None
asking (c ∷ cs) = do
  m ← amounting (c ∷ cs)
  Ok (Some m)

-- A human readable part: its prefix, where its amount begins and how many characters that has, and millisatoshi or none.
pub record HumanReadable : Type 0 where
  pub prefix : ℕ
  pub start : ℕ
  pub size : ℕ
  pub msat : Option Msat

unfoldable pub hrp_reading : (hrp : List ℕ) → Answer HumanReadable
hrp_reading hrp = do
  prefix ← prefixing hrp
  msat ← asking (amount_in hrp)
  Ok (record { prefix = prefix; start = length (prefix_in hrp); size = length (amount_in hrp); msat = msat })

-- Data: 7 groups of five bits for the time, fields, 104 groups of signature, 6 of checksum.

-- the groups less the checksum
abbrev pub groups_of : (text : List ℕ) → List ℕ
groups_of t = take (length (data_of t) - 6) (groups_in (data_of t))

abbrev pub time_of : (groups : List ℕ) → ℕ
time_of gs = number (take 7 gs)

-- the groups between the time and the signature
abbrev pub middle_of : (groups : List ℕ) → List ℕ
middle_of gs = take (length gs - 111) (drop 7 gs)

-- the last 104 groups
abbrev pub signature_of : (groups : List ℕ) → List ℕ
signature_of gs = drop (length gs - 104) gs

-- What an accepted invoice says.
pub record Contents : Type 0 where
  pub hrp : HumanReadable
  pub groups : List ℕ
  pub fields : List Field

-- the amount's characters, where it says that they stand in the text
abbrev pub amount_of : (text : List ℕ) → Contents → List ℕ
amount_of text told = take told.hrp.size (drop told.hrp.start text)

-- An invoice by its human readable part in lower case and its groups.
unfoldable pub judging_parts : (hrp groups : List ℕ) → Answer Contents
judging_parts hrp groups = do
  h ← hrp_reading hrp
  fields ← fielding (middle_of groups) (signature_of groups)
  Ok (record { hrp = h; groups = groups; fields = fields })

-- An invoice: 30 to 35, then by its parts.
unfoldable pub judging : (text : List ℕ) → Answer Contents
judging t = do
  _ ← spelling t
  judging_parts (map lower (hrp_of t)) (groups_of t)

-- The same answer with buffers of those lengths: 12 comes last.
abbrev pub fitting_both : (groups index : ℕ) → Answer Contents → Answer Contents
fitting_both groups index answer = fitting (λ c. 3 * length c.fields) index (fitting (λ c. length c.groups) groups answer)

-- An invoice, read into buffers of those lengths.
abbrev pub reading : (text : List ℕ) (groups index : ℕ) → Answer Contents
reading t groups index = fitting_both groups index (judging t)

-- the numbers of the first usable x and c
abbrev pub expiry_of : (groups : List ℕ) → List Field → ℕ
expiry_of groups fields = number_or default_expiry (first_usable expiry fields) groups

abbrev pub delta_of : (groups : List ℕ) → List Field → ℕ
delta_of groups fields = number_or default_delta (first_usable delta fields) groups

-- What the reader answers, in full. The first usable p, x and c count.
abbrev pub summary_of : Contents → Summary
summary_of c =
    record {
      prefix = c.hrp.prefix;
      amount = record { start = c.hrp.start; size = c.hrp.size };
      asked = c.hrp.msat;
      time = time_of c.groups;
      groups = length c.groups;
      fields = length c.fields;
      payment = first_where (is_usable payment_hash) c.fields;
      expiry = expiry_of c.groups c.fields;
      delta = delta_of c.groups c.fields;
    }

-- What the reader answers and leaves of the lent buffers: the groups and the fields' numbers at their fronts; on a refusal both as they came.
pub record Reads (invoice : Answer Contents) (groups index : List ℕ) (answer : Answer Summary) (groupsLeft indexLeft : List ℕ) : Type 0 where
  pub answers : answer ≡ mapped summary_of (fitting_both (length groups) (length index) invoice)
  pub fills_groups : groupsLeft ≡ filled (mapped (λ c. c.groups) (fitting_both (length groups) (length index) invoice)) groups
  pub fills_index : indexLeft ≡ filled (mapped (λ c. numbers_of c.fields) (fitting_both (length groups) (length index) invoice)) index
