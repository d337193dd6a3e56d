-- The content of an invoice's fields, among the groups that the reader filled: document 01, "Invoices". Assumes nothing.
use Rattle.std.specs.Prelude.{ℕ, ◌+◌, ◌*◌, ◌/◌, not, ◌&&◌, List, [], ltb, leb, eqb, length, take, drop, Option, Some, None, option_map, Ok}
use Rattle.bech32.specs.Groups.{number, bytes_of}
use Rattle.field.specs.Fields.{route, whole_bytes, usable}
use Rattle.invoice_text.specs.Text.{first_where, has, is_above31}
use Rattle.laws.specs.Digits.{from_bytes}
use Rattle.laws.specs.Test.{pick}
use Rattle.answer.specs.Answer.{Answer, refuse, bare, ensure, ◌>>=◌, fitting}
use Rattle.invoice_content.specs.declared.Hop.{Hop}

-- a field's groups among the lent ones: `size` of them from `start` on
abbrev pub groups_at : (groups : List ℕ) (start size : ℕ) → List ℕ
groups_at groups start size = take size (drop start groups)

-- 16: the field's groups lie among the lent ones. 34: none of them is above 31; with the place of the first one that is, among the lent ones.
unfoldable pub checking : (groups : List ℕ) (start size : ℕ) → Answer (Unit {0})
checking groups start size = do
  _ ← ensure (leb (start + size) (length groups)) (bare 16)
  ensure (not (has is_above31 (groups_at groups start size))) (refuse 34 (start + first_where is_above31 (groups_at groups start size)) 0)

-- The whole bytes of a field, written at the front of an output of that length: 12 where they do not fit.
unfoldable pub bytes_at : (groups : List ℕ) (start size room : ℕ) → Answer (List ℕ)
bytes_at groups start size room = do
  _ ← checking groups start size
  fitting length room (Ok (bytes_of (groups_at groups start size)))

-- The number that a field's groups spell: 38 for more than 12, which no usable x or c has.
unfoldable pub number_at : (groups : List ℕ) (start size : ℕ) → Answer ℕ
number_at groups start size = do
  _ ← checking groups start size
  _ ← ensure (leb size 12) (bare 38)
  Ok (number (groups_at groups start size))

-- how many entries of 51 bytes a field of that type and group count has: none where it is no usable r
unfoldable pub entries_in : (kind size : ℕ) → ℕ
entries_in kind size = pick (eqb kind route && usable kind size) (whole_bytes size / 51) 0

-- How many entries a field has.
unfoldable pub route_size : (groups : List ℕ) (kind start size : ℕ) → Answer ℕ
route_size groups kind start size = do
  _ ← checking groups start size
  Ok (entries_in kind size)

-- What an entry says.
pub record Parts : Type 0 where
  pub key : List ℕ
  pub hop : Hop

-- An r entry has a 33-byte key, 8-byte channel, 8-byte fee, 2-byte delta.
abbrev pub parts_of : (bytes : List ℕ) → Parts
parts_of bytes =
    record {
      key = take 33 bytes;
      hop =
          record {
            channel = from_bytes (take 8 (drop 33 bytes));
            fee = from_bytes (take 8 (drop 41 bytes));
            delta = from_bytes (take 2 (drop 49 bytes));
          };
    }

-- Entry k of a field, where it has one, from 0: the 51 of its whole bytes from 51 k on.
unfoldable pub entry_at : (groups : List ℕ) (kind start size k : ℕ) → Option Parts
entry_at groups kind start size k =
    pick (ltb k (entries_in kind size)) (Some (parts_of (take 51 (drop (51 * k) (bytes_of (groups_at groups start size)))))) None

-- the key of an entry; without one there are no bytes
abbrev pub key_in : Option Parts → List ℕ
key_in None = []
key_in (Some parts) = parts.key

-- its numbers, told apart from no entry
abbrev pub hop_in : Option Parts → Option Hop
hop_in entry = option_map (λ parts. parts.hop) entry

-- Entry k, its key written at the front of an output of that length: 12 where it does not fit.
unfoldable pub route_entry : (groups : List ℕ) (kind start size k room : ℕ) → Answer (Option Parts)
route_entry groups kind start size k room = do
  _ ← checking groups start size
  fitting (λ entry. length (key_in entry)) room (Ok (entry_at groups kind start size k))
