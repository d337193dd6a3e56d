-- What the private functions promise each other: no public contract cites it. Assumes nothing.
use Rattle.std.specs.Prelude.{ℕ, ◌+◌, ◌-◌, ◌≤◌, List, map, length, take, Option, Some, None, option_map}
use Rattle.answer.specs.Answer.{Answer, ◌>>=◌}
use Rattle.field.specs.declared.Field.{Field}
use Rattle.field.specs.declared.First.{First}
use Rattle.field.specs.Fields.{payment_hash, is_usable}
use Rattle.invoice_text.specs.Text.{first_where, sealing}
use Rattle.letters.specs.Letters.{lower}
use Rattle.invoice.specs.Invoice.{HumanReadable, Contents, judging_parts, time_of, expiry_of, delta_of}
use Rattle.invoice.specs.declared.Data.{Data}
use Rattle.invoice.specs.declared.Hrp.{Hrp}

-- An invoice by its human readable part and the groups of its data, the checksum included: 34 and 35, then by its parts. The data begins behind the separator.
unfoldable pub judging_data : (hrp groups : List ℕ) → Answer Contents
judging_data hrp groups = do
  _ ← sealing (length hrp + 1) hrp groups
  judging_parts (map lower hrp) (take (length groups - 6) groups)

-- what a human readable part says, and what the groups say: the two halves of the reader's answer
abbrev pub hrp_of : HumanReadable → Hrp
hrp_of h = record { prefix = h.prefix; amount = record { start = h.start; size = h.size }; asked = h.msat }

abbrev pub data_of : (groups : List ℕ) → List Field → Data
data_of groups fields =
    record {
      time = time_of groups;
      fields = length fields;
      payment = first_where (is_usable payment_hash) fields;
      expiry = expiry_of groups fields;
      delta = delta_of groups fields;
    }

-- the field that was found, and that it lies in groups of that count and has at most 12
abbrev pub field_in : Option First → Option Field
field_in found = option_map (λ x. x.field) found

abbrev pub Lies : Option First → (count : ℕ) → Type 0
Lies None count = Unit {0}
Lies (Some x) count = (x.field.start + x.field.size ≤ count) × (x.field.size ≤ 12)
