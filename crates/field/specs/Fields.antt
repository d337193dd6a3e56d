-- The tagged fields of an invoice and the signature behind them: document 01, "Invoices" and "The refusal list", 38 to 40. Assumes nothing.
use Rattle.std.specs.Prelude.{ℕ, zero, suc, ◌+◌, ◌-◌, ◌*◌, ◌/◌, ◌%◌, Bool, ◌&&◌, List, [], ◌∷◌, leb, eqb, length, take, drop, Option, Some, None, option_map, Ok, Err}
use Rattle.bech32.specs.Groups.{number}
use Rattle.laws.specs.Test.{pick}
use Rattle.answer.specs.Answer.{Answer, bare, ensure, ◌>>=◌}
use Rattle.invoice_text.specs.Text.{first_where, has}
use Rattle.field.specs.declared.Field.{Field}
use Rattle.field.specs.declared.Fields.{Fields}
use Rattle.field.specs.declared.First.{First}

-- A field: its type, the first group of its content, and how many groups that has. The time's first group is 0.
abbrev pub field : (kind start size : ℕ) → Field
field kind start size = record { kind = kind; start = start; size = size }

-- A field is a type group, two length groups (high first), and its groups: the one at the front of groups of which the first is group `at` of the invoice; 38
-- where it does not end with or before them.
unfoldable pub field_at : (at : ℕ) (gs : List ℕ) → Answer Field
field_at at (kind ∷ high ∷ low ∷ gs) = do
  _ ← ensure (leb (high * 32 + low) (length gs)) (bare 38)
  Ok (field kind (at + 3) (high * 32 + low))
field_at at [] = Err (bare 38)
field_at at (_ ∷ []) = Err (bare 38)
field_at at (_ ∷ _ ∷ []) = Err (bare 38)

-- The fields, one behind the other. Each takes a group or more, so that as many as there are groups are all; the count makes the definition end.
unfoldable pub fields_from : (count at : ℕ) (gs : List ℕ) → Answer (List Field)
fields_from zero at gs = Ok []
fields_from (suc count) at [] = Ok []
fields_from (suc count) at (g ∷ gs) = do
  f ← field_at at (g ∷ gs)
  rest ← fields_from count (f.start + f.size) (drop (3 + f.size) (g ∷ gs))
  Ok (f ∷ rest)

-- the fields between the time, which has the groups 0 to 6, and the signature
abbrev pub fields_in : (middle : List ℕ) → Answer (List Field)
fields_in gs = fields_from (length gs) 7 gs

-- The types that count: p, h, n, x, c and r.
abbrev pub payment_hash : ℕ
payment_hash = 1

abbrev pub description_hash : ℕ
description_hash = 23

abbrev pub payee : ℕ
payee = 19

abbrev pub expiry : ℕ
expiry = 6

abbrev pub delta : ℕ
delta = 24

abbrev pub route : ℕ
route = 3

-- how many whole bytes so many groups have
abbrev pub whole_bytes : (size : ℕ) → ℕ
whole_bytes size = 5 * size / 8

-- Usable: p and h with 52 groups, n with 53, x and c with at most 12 (house), r when its whole bytes are a positive multiple of 51.
unfoldable pub usable : (kind size : ℕ) → Bool
usable kind size =
    pick (eqb kind payment_hash) (eqb size 52)
    (pick (eqb kind description_hash) (eqb size 52)
    (pick (eqb kind payee) (eqb size 53)
    (pick (eqb kind expiry) (leb size 12)
    (pick (eqb kind delta) (leb size 12)
    (eqb kind route && (leb 1 (whole_bytes size) && eqb (whole_bytes size % 51) 0))))))

-- a usable field of a type
abbrev pub is_usable : (kind : ℕ) → Field → Bool
is_usable kind f = eqb f.kind kind && usable f.kind f.size

-- the groups of a field's content
abbrev pub content_of : Field → (groups : List ℕ) → List ℕ
content_of f groups = take f.size (drop f.start groups)

-- the first usable field of a type
unfoldable pub first_usable : (kind : ℕ) → List Field → Option Field
first_usable kind [] = None
first_usable kind (f ∷ fields) = pick (is_usable kind f) (Some f) (first_usable kind fields)

-- the last byte of the signature: the low eight of the ten bits of its last two groups
abbrev pub recovery_of : (signature : List ℕ) → ℕ
recovery_of signature = number (drop (length signature - 2) signature) % 256

-- The fields and the signature: 38 for a signature not of 104 groups and for fields that do not end with theirs, 39 for the recovery byte, 40 without a usable p.
unfoldable pub fielding : (middle signature : List ℕ) → Answer (List Field)
fielding middle signature = do
  _ ← ensure (eqb (length signature) 104) (bare 38)
  fields ← fields_in middle
  _ ← ensure (leb (recovery_of signature) 3) (bare 39)
  _ ← ensure (has (is_usable payment_hash) fields) (bare 40)
  Ok fields

-- the number that a field's groups spell; another one without a field
abbrev pub number_or : (other : ℕ) → Option Field → (groups : List ℕ) → ℕ
number_or other None groups = other
number_or other (Some f) groups = number (content_of f groups)

-- The index: three numbers for each field.
unfoldable pub numbers_of : List Field → List ℕ
numbers_of [] = []
numbers_of (f ∷ fields) = f.kind ∷ f.start ∷ f.size ∷ numbers_of fields

-- the first usable field of a type, with its row
abbrev pub first_of : (kind : ℕ) → List Field → Option First
first_of kind fields = option_map (λ f. record { row = first_where (is_usable kind) fields; field = f }) (first_usable kind fields)

-- What `judge` answers: how many fields there are, the row of the first usable p, and the first usable x and c.
abbrev pub fields_of : List Field → Fields
fields_of fields =
    record {
      count = length fields;
      payment = first_where (is_usable payment_hash) fields;
      expiry = first_of expiry fields;
      delta = first_of delta fields;
    }
