-- A part of the groups, its number, the fields found there; a text whose groups stand in a buffer. Assumes nothing.
use Rattle.std.specs.Prelude.{Option, Some, None, option_map, Ok}
use mathlib.Core.Bool.{true}
use mathlib.Core.List.{List, map}
use mathlib.Core.Path.{◌≡◌, refl, ap, ◌∙◌}
use Prim.Native.Nat.{ℕ, ◌+◌, ◌-◌, ◌%◌, ◌^◌, ◌≤◌}
use native.Mathlib.Nat.{add-sub_cancel_left}
use native.Mathlib.Omega.{arith}
use lib.ListN.{length, take, drop, length-take, length-drop, replicate, length-replicate}
use lib.Seq.{take-append_seam}
use Rattle.bech32.specs.Alphabet.{groups_in}
use Rattle.bech32.specs.Groups.{AreGroups, low5, number}
use Rattle.bech32.proofs.AlphabetLaws.{length_groups_in}
use Rattle.bech32.proofs.GroupLaws.{number_fits, take_groups, drop_groups}
use Rattle.laws.proofs.Lists.{part_tail}
use Rattle.answer.specs.Answer.{Answer, mapped, filled, fitting}
use Rattle.answer.proofs.Answer.{fitting_fits}
use Rattle.field.specs.declared.Field.{Field}
use Rattle.field.specs.Fields.{fields_in, is_usable, first_usable, first_of}
use Rattle.field.proofs.FieldLaws.{found_lies}
use Rattle.invoice.specs.Invoice.{middle_of}
use Rattle.invoice.specs.Private.{field_in, Lies}

-- groups of which a part is taken are groups
pub are_part : (gs : List ℕ) (at n : ℕ) → AreGroups gs → AreGroups (take n (drop at gs))
are_part gs at n h = take_groups n (drop at gs) (drop_groups at gs h)

-- The number of at most 12 groups, in 64 bits.
module _ (gs : List ℕ) (at : ℕ) (are : AreGroups gs) where
  pub part_number : (n : ℕ) → n ≤ 12 → number (map low5 (take n (drop at gs))) % 2 ^ 64 ≡ number (take n (drop at gs))
  part_number n few = number_fits (take n (drop at gs)) (are_part gs at n are) (omega (arith, length-take n (drop at gs)))

  -- from one place to another
  pub range_number : (n : ℕ) → n ≤ 12 → number (map low5 (take (at + n - at) (drop at gs))) % 2 ^ 64 ≡ number (take n (drop at gs))
  range_number n few = rw (add-sub_cancel_left at n) (part_number n few)

-- a field that is found lies in the groups of the invoice, and has at most 12 of them
lies_by : (row : ℕ) (o : Option Field) (kind : ℕ) (middle : List ℕ) (fs : List Field) (size : ℕ) → fields_in middle ≡ Ok fs → 7 + length middle ≤ size →
    ((f : Field) → is_usable kind f ≡ true → f.size ≤ 12) → first_usable kind fs ≡ o → Lies (option_map (λ f. record { row = row; field = f }) o) size
lies_by row None kind middle fs size e room few h = tt
lies_by row (Some f) kind middle fs size e room few h =
    let l = found_lies kind (length middle) 7 middle fs f e h in
    (omega (arith, l.0), few f l.1)

pub first_lies : (kind : ℕ) (middle : List ℕ) (fs : List Field) (size : ℕ) → fields_in middle ≡ Ok fs → 7 + length middle ≤ size →
    ((f : Field) → is_usable kind f ≡ true → f.size ≤ 12) → Lies (first_of kind fs) size
first_lies kind middle fs size e room few = lies_by _ (first_usable kind fs) kind middle fs size e room few refl

row_field : (row : ℕ) (o : Option Field) → field_in (option_map (λ f. record { row = row; field = f }) o) ≡ o
row_field row None = refl
row_field row (Some f) = refl

pub first_field : (kind : ℕ) (fs : List Field) → field_in (first_of kind fs) ≡ first_usable kind fs
first_field kind fs = row_field _ (first_usable kind fs)

-- the groups between the time and the signature
pub middle_part : (gs : List ℕ) (size : ℕ) → length gs ≡ size → take (size - 104 - 7) (drop 7 gs) ≡ middle_of gs
middle_part gs size is =
    let e : size - 104 - 7 ≡ length gs - 111 = omega (arith, is) in
    ap (λ (n : ℕ). take n (drop 7 gs)) e

-- A list whose front is the groups of a text from a place on.
pub record Held (t : List ℕ) (begin : ℕ) (own : List ℕ) : Type 0 where
  pub are : take (length t - begin) own ≡ groups_in (drop begin t)
  pub long : length (take (length t - begin) own) ≡ length t - begin
  pub room : length t - begin ≤ length own

-- one of 4,096 zeros into which they were put, with their count
module _ (t : List ℕ) (begin : ℕ) (short : length t ≤ 4096) where
  abbrev put : Answer (List ℕ)
  put = fitting length (length (replicate {A = ℕ} 4096 0)) (Ok (groups_in (take (length t - begin) (drop begin t))))

  count : length (groups_in (drop begin t)) ≡ length t - begin
  count = length_groups_in (drop begin t) ∙ length-drop begin t

  fits : put ≡ Ok (groups_in (drop begin t))
  fits = rw (part_tail t begin) (fitting_fits length (length (replicate {A = ℕ} 4096 0)) _ _ refl (omega (arith, count, length-replicate {A = ℕ} 4096 0)))

  pub held_count : mapped length put ≡ Ok (length t - begin)
  held_count = rw (fits, count)

  pub held : (own : List ℕ) → own ≡ filled put (replicate {A = ℕ} 4096 0) → Held t begin own
  held own is =
      let gs = groups_in (drop begin t) in
      let front : take (length t - begin) own ≡ gs = rw (is, fits, ← count) (take-append_seam gs (drop (length gs) (replicate {A = ℕ} 4096 0))) in
      let long : length (take (length t - begin) own) ≡ length t - begin = ap length front ∙ count in
      record { are = front; long = long; room = omega (arith, long, length-take (length t - begin) own) }
