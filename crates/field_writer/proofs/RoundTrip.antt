-- A field that is made is read as its type and its content, on the definitions that the contracts of `from_bytes`, `from_number` and the invoice's reader cite.
-- Assumes nothing.
use Rattle.std.specs.Prelude.{Ok, Err}
use mathlib.Core.Bool.{true}
use mathlib.Core.List.{List, ◌∷◌, ◌++◌, append_assoc}
use mathlib.Core.Path.{◌≡◌, refl, ap, ◌∙◌}
use Prim.Native.Nat.{ℕ, ◌+◌, ◌*◌, ◌/◌, ◌%◌, ◌^◌, ◌≤◌, ◌<◌}
use native.Mathlib.Omega.{arith}
use lib.ListN.{length, get_or, take, drop, length-append}
use lib.Pow.{pow_mono}
use lib.Seq.{take-append_seam, drop-append-add, drop_at}
use borrow.Author.Tests.{eq-eqb, le-leb}
use Rattle.laws.specs.Digits.{to_digits, AreBytes}
use Rattle.bech32.specs.Groups.{AreGroups, number, digits, bytes_of, groups_of}
use Rattle.bech32.proofs.GroupLaws.{length_groups_of, number_below, bytes_groups}
use Rattle.field.specs.Fields.{field, field_at, fields_from, content_of, usable, whole_bytes, payment_hash, description_hash, payee, expiry, delta, route}
use Rattle.field.proofs.FieldLaws.{field_fits, walk_next}
use Rattle.field.proofs.UsableLaws.{usable_p, usable_h, usable_n, usable_x, usable_c, usable_r}
use Rattle.laws.proofs.Test.{by_order}
use Rattle.answer.specs.Answer.{bare, ◌>>=◌}
use Rattle.answer.proofs.Answer.{then_accepted}
use Rattle.field_writer.specs.Field.{tagged, shortest, making, making_bytes, making_number}
use Rattle.field_writer.proofs.MakingLaws.{length_tagged, making_38, making_fits, made}
use Rattle.field_writer.proofs.ShortestLaws.{fewest, stripped_first, shortest_number, shortest_below}

-- Any content that was accepted.

-- ten bits in two groups, the high one first
two_groups : (n : ℕ) → n ≤ 1023 → n / 32 % 32 * 32 + n / 1 % 32 ≡ n
two_groups n h = omega arith

tagged_read : (at kind : ℕ) (content rest : List ℕ) → length content ≤ 1023 → field_at at (tagged kind content ++ rest) ≡ Ok (field kind (at + 3) (length content))
unfolding to_digits
tagged_read at kind content rest h =
    let n = length content in
    let size = two_groups n h in
    field_fits at kind (n / 32 % 32) (n / 1 % 32) (content ++ rest) (omega (arith, size, length-append content rest)) ∙ ap (λ (s : ℕ). Ok (field kind (at + 3) s)) size

module _ (most kind : ℕ) (content : List ℕ) (room : ℕ) (g : List ℕ) (few : most ≤ 1023) (is_made : making most kind content room ≡ Ok g) where
  -- The reader finds the field, whatever follows.
  pub field_read : (at : ℕ) (rest : List ℕ) → field_at at (g ++ rest) ≡ Ok (field kind (at + 3) (length content))
  field_read at rest =
      let m = made most kind content room g is_made in
      rw m.is (tagged_read at kind content rest (omega (arith, m.few)))

  -- Among the groups of an invoice, its content is the content that was given.
  pub content_read : (before rest : List ℕ) → content_of (field kind (length before + 3) (length content)) (before ++ g ++ rest) ≡ content
  unfolding to_digits
  content_read before rest =
      let m = made most kind content room g is_made in
      ap (λ (l : List ℕ). take (length content) (drop (length before + 3) l)) (append_assoc before g rest)
      ∙ ap (take (length content)) (drop-append-add before (g ++ rest) 3 ∙ rw m.is refl)
      ∙ take-append_seam content rest

  -- The fields that follow are read from behind it on.
  pub fields_read : (at : ℕ) (rest : List ℕ) →
      fields_from (length (g ++ rest)) at (g ++ rest) ≡ (fields_from (length rest) (at + length g) rest >>= λ fields. Ok (field kind (at + 3) (length content) ∷ fields))
  fields_read at rest =
      let m = made most kind content room g is_made in
      let long : length g ≡ 3 + length content = ap length m.is ∙ length_tagged kind content in
      let next : at + 3 + length content ≡ at + length g = omega arith in
      walk_next at (g ++ rest) (omega (arith, length-append g rest))
      ∙ then_accepted (field kind (at + 3) (length content)) _ _ (field_read at rest)
      ∙ rw (next, drop_at g rest (3 + length content) long)

-- Bytes.

module _ (kind : ℕ) (bytes : List ℕ) (room : ℕ) where
  -- Up to 639 bytes are accepted, of any type, where there is room.
  pub made_bytes : kind ≤ 31 → length bytes ≤ 639 → 3 + length (groups_of bytes) ≤ room → making_bytes kind bytes room ≡ Ok (tagged kind (groups_of bytes))
  made_bytes k few fits = making_fits 1023 kind (groups_of bytes) room k (omega (arith, length_groups_of bytes)) fits

  -- More bytes are refused with 38.
  pub too_many_bytes : kind ≤ 31 → 639 < length bytes → making_bytes kind bytes room ≡ Err (bare 38)
  too_many_bytes k many = making_38 1023 kind (groups_of bytes) room k (omega (arith, length_groups_of bytes))

  module _ (g : List ℕ) (is_made : making_bytes kind bytes room ≡ Ok g) (before rest : List ℕ) where
    -- What is made of bytes is read as a field of that type.
    pub bytes_field : field_at (length before) (g ++ rest) ≡ Ok (field kind (length before + 3) (length (groups_of bytes)))
    bytes_field = field_read 1023 kind (groups_of bytes) room g (omega arith) is_made (length before) rest

    -- Its content is read as those bytes.
    pub bytes_back : AreBytes bytes → bytes_of (content_of (field kind (length before + 3) (length (groups_of bytes))) (before ++ g ++ rest)) ≡ bytes
    bytes_back h = ap bytes_of (content_read 1023 kind (groups_of bytes) room g (omega arith) is_made before rest) ∙ bytes_groups bytes h

-- Numbers.

-- No groups that spell the number are fewer.
pub shortest_fewest : (groups : List ℕ) → AreGroups groups → length (shortest (number groups)) ≤ length groups
shortest_fewest gs h = fewest (number gs) (length gs) (number_below gs h)

-- The first group is not 0.
pub shortest_first : (n : ℕ) → get_or (shortest n) 0 1 ≡ 0 → ⊥
shortest_first n = stripped_first (digits 13 n)

-- A number below 2^60 is accepted, of any type, where there is room.
pub made_number : (kind n room : ℕ) → kind ≤ 31 → n < 2 ^ 60 → 3 + length (shortest n) ≤ room → making_number kind n room ≡ Ok (tagged kind (shortest n))
made_number kind n room k small fits = making_fits 12 kind (shortest n) room k (fewest n 12 small) fits

module _ (kind n room : ℕ) (fits-64 : n < 2 ^ 64) where
  -- A larger one is refused with 38.
  pub too_large_number : kind ≤ 31 → 2 ^ 60 ≤ n → making_number kind n room ≡ Err (bare 38)
  too_large_number k large =
      making_38 12 kind (shortest n) room k
      (by_order 12 (length (shortest n)) (λ h. h)
      (λ few. absurd (omega (arith, shortest_below n fits-64, pow_mono {i = 5 * length (shortest n)} {j = 60} (omega arith)))))

  module _ (g : List ℕ) (is_made : making_number kind n room ≡ Ok g) (before rest : List ℕ) where
    -- What is made of a number is read as a field of that type.
    pub number_field : field_at (length before) (g ++ rest) ≡ Ok (field kind (length before + 3) (length (shortest n)))
    number_field = field_read 12 kind (shortest n) room g (omega arith) is_made (length before) rest

    -- Its content is read as that number.
    pub number_back : number (content_of (field kind (length before + 3) (length (shortest n))) (before ++ g ++ rest)) ≡ n
    number_back = ap number (content_read 12 kind (shortest n) room g (omega arith) is_made before rest) ∙ shortest_number n fits-64

-- Usable: p and h of 32 bytes, n of 33, r of one or more entries of 51 bytes, of which up to 12 are accepted; x and c of any accepted number.

module _ (bytes : List ℕ) where
  pub payment_hash_usable : length bytes ≡ 32 → usable payment_hash (length (groups_of bytes)) ≡ true
  payment_hash_usable h = usable_p _ ∙ eq-eqb (length (groups_of bytes)) 52 (omega (arith, length_groups_of bytes))

  pub description_hash_usable : length bytes ≡ 32 → usable description_hash (length (groups_of bytes)) ≡ true
  description_hash_usable h = usable_h _ ∙ eq-eqb (length (groups_of bytes)) 52 (omega (arith, length_groups_of bytes))

  pub payee_usable : length bytes ≡ 33 → usable payee (length (groups_of bytes)) ≡ true
  payee_usable h = usable_n _ ∙ eq-eqb (length (groups_of bytes)) 53 (omega (arith, length_groups_of bytes))

  module _ (entries : ℕ) (of-entries : length bytes ≡ 51 * entries) where
    whole : whole_bytes (length (groups_of bytes)) ≡ 51 * entries
    whole = omega (arith, length_groups_of bytes)

    pub route_usable : 1 ≤ entries → usable route (length (groups_of bytes)) ≡ true
    route_usable h =
        let w = whole_bytes (length (groups_of bytes)) in
        usable_r _ ∙ rw (le-leb 1 w (omega (arith, whole)), eq-eqb (w % 51) 0 (omega (arith, whole)))

    pub made_route : entries ≤ 12 → (room : ℕ) → 3 + length (groups_of bytes) ≤ room → making_bytes route bytes room ≡ Ok (tagged route (groups_of bytes))
    made_route h room fits = made_bytes route bytes room (omega arith) (omega arith) fits

module _ (n room : ℕ) (g : List ℕ) where
  pub expiry_usable : making_number expiry n room ≡ Ok g → usable expiry (length (shortest n)) ≡ true
  expiry_usable h = usable_x _ ∙ le-leb (length (shortest n)) 12 (made 12 expiry (shortest n) room g h).few

  pub delta_usable : making_number delta n room ≡ Ok g → usable delta (length (shortest n)) ≡ true
  delta_usable h = usable_c _ ∙ le-leb (length (shortest n)) 12 (made 12 delta (shortest n) room g h).few
