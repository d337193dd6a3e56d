-- The answers about an invoice's two parts, one law each. Assumes nothing.
use Rattle.std.specs.Prelude.{Option, Some, None, Ok, Err}
use mathlib.Core.List.{List, [], ◌∷◌, map}
use mathlib.Core.Path.{◌≡◌, refl, sym, ap, ◌∙◌}
use Prim.Native.Nat.{ℕ, zero, suc, ◌+◌, ◌-◌, ◌*◌, ◌≤◌, ◌<◌}
use native.Mathlib.Omega.{arith}
use lib.ListN.{length, take, drop, length-map, length-take}
use lib.Seq.{length-take-le}
use Rattle.bech32.specs.Alphabet.{groups_in}
use Rattle.bech32.proofs.AlphabetLaws.{length_groups_in}
use Rattle.laws.proofs.Lists.{part_tail}
use Rattle.letters.specs.Letters.{lower}
use Rattle.money.specs.Amount.{is_digit, amounting}
use Rattle.money.specs.declared.Msat.{Msat}
use Rattle.money.proofs.DigitLaws.{digit_lower}
use Rattle.answer.specs.Answer.{Answer, bare}
use Rattle.answer.specs.declared.Refusal.{Refusal}
use Rattle.answer.proofs.Answer.{then_accepted, then_refused, both, ensured, fitting_refused, fitting_short, fitting_fits}
use Rattle.field.specs.declared.Field.{Field}
use Rattle.field.specs.Fields.{fields_in, fielding}
use Rattle.invoice.specs.Edition.{prefix_number}
use Rattle.invoice.specs.Private.{judging_data}
use Rattle.invoice.specs.Invoice.{prefix_in, amount_in, prefixing, asking, hrp_reading, middle_of, signature_of, HumanReadable, Contents, groups_of, judging_parts, judging, fitting_both}
use Rattle.invoice_text.specs.Text.{first_where, hrp_of, data_of, up_to_last_one, parting, sealing, spelling}
use Rattle.invoice_text.proofs.FirstWhere.{first_most}
use Rattle.invoice_text.proofs.TextLaws.{accepted_parted, spelling_parted}

-- a part of what is made of each element
pub map_drop : {A B : Type 0} (f : A → B) (n : ℕ) (s : List A) → map f (drop n s) ≡ drop n (map f s)
map_drop f zero s = refl
map_drop f (suc n) [] = refl
map_drop f (suc n) (x ∷ s) = map_drop f n s

pub map_take : {A B : Type 0} (f : A → B) (n : ℕ) (s : List A) → map f (take n s) ≡ take n (map f s)
map_take f zero s = refl
map_take f (suc n) [] = refl
map_take {B = B} f (suc n) (x ∷ s) = ap (λ (l : List B). f x ∷ l) (map_take f n s)

-- An amount, if any.
pub asking_none : (t : List ℕ) → length t ≡ 0 → asking t ≡ Ok None
unfolding asking
asking_none [] h = refl
asking_none (c ∷ t) h = absurd (omega arith)

pub asking_refused : (t : List ℕ) → 0 < length t → (r : Refusal) → amounting t ≡ Err r → asking t ≡ Err r
unfolding asking
asking_refused [] h r e = absurd (omega arith)
asking_refused (c ∷ t) h r e = then_refused r _ _ e

pub asking_some : (t : List ℕ) → 0 < length t → (m : Msat) → amounting t ≡ Ok m → asking t ≡ Ok (Some m)
unfolding asking
asking_some [] h m e = absurd (omega arith)
asking_some (c ∷ t) h m e = then_accepted m _ _ e

-- lower case moves no digit
digit_place : (h : List ℕ) → first_where is_digit (map lower h) ≡ first_where is_digit h
unfolding first_where
digit_place [] = refl
digit_place (c ∷ h) = rw (digit_lower c, digit_place h) refl

-- The human readable part.
module _ (h : List ℕ) where
  reading_prefix : (r : Refusal) → prefixing h ≡ Err r → hrp_reading h ≡ Err r
  unfolding hrp_reading
  reading_prefix r e = then_refused r _ _ e

  module _ (n : ℕ) (e : prefixing h ≡ Ok n) where
    reading_amount : (r : Refusal) → asking (amount_in h) ≡ Err r → hrp_reading h ≡ Err r
    unfolding hrp_reading
    reading_amount r a = then_accepted n _ _ e ∙ then_refused r _ _ a

    reading_fine : (m : Option Msat) → asking (amount_in h) ≡ Ok m →
        hrp_reading h ≡ Ok (record { prefix = n; start = length (prefix_in h); size = length (amount_in h); msat = m })
    unfolding hrp_reading
    reading_fine m a = then_accepted n _ _ e ∙ then_accepted m _ _ a

-- The human readable part in lower case, by the place of its first digit.
module _ (h : List ℕ) (start : ℕ) (is : start ≡ first_where is_digit h) where
  abbrev low : List ℕ
  low = map lower h

  -- its characters from there on
  abbrev tail : List ℕ
  tail = take (length h - start) (drop start h)

  inside : start ≤ length h
  inside = rw is (first_most is_digit h)

  prefix_lower : prefix_in low ≡ map lower (take start h)
  prefix_lower = rw (digit_place h, ← is) (sym (map_take lower start h))

  amount_lower : amount_in low ≡ map lower tail
  amount_lower = rw (digit_place h, ← is, part_tail h start) (sym (map_drop lower start h))

  length_prefix : length (prefix_in low) ≡ start
  length_prefix = rw prefix_lower (omega (arith, inside, length-map (take start h) lower, length-take start h))

  length_amount : length (amount_in low) ≡ length tail
  length_amount = rw amount_lower (length-map tail lower)

  -- what is said with a prefix
  abbrev priced : ℕ → Option Msat → HumanReadable
  priced n m = record { prefix = n; start = start; size = length tail; msat = m }

  pub hrp_none : (r : Refusal) → prefix_number (map lower (take start h)) ≡ Err r → hrp_reading low ≡ Err r
  hrp_none r e = reading_prefix low r (rw prefix_lower e)

  module _ (n : ℕ) (number : prefix_number (map lower (take start h)) ≡ Ok n) where
    prefixed : prefixing low ≡ Ok n
    prefixed = rw prefix_lower number

    pub hrp_refused : (r : Refusal) → asking (map lower tail) ≡ Err r → hrp_reading low ≡ Err r
    hrp_refused r e = reading_amount low n prefixed r (rw amount_lower e)

    pub hrp_fine : (m : Option Msat) → asking (map lower tail) ≡ Ok m → hrp_reading low ≡ Ok (priced n m)
    hrp_fine m a = rw (length_prefix, length_amount) at (reading_fine low n prefixed m (rw amount_lower a))

-- Both parts.
module _ (h gs : List ℕ) where
  pub parts_hrp : (r : Refusal) → hrp_reading h ≡ Err r → judging_parts h gs ≡ Err r
  unfolding judging_parts
  parts_hrp r e = then_refused r _ _ e

  module _ (p : HumanReadable) (e : hrp_reading h ≡ Ok p) where
    pub parts_fields : (r : Refusal) → fielding (middle_of gs) (signature_of gs) ≡ Err r → judging_parts h gs ≡ Err r
    unfolding judging_parts
    parts_fields r f = then_accepted p _ _ e ∙ then_refused r _ _ f

    pub parts_fine : (fs : List Field) → fielding (middle_of gs) (signature_of gs) ≡ Ok fs → judging_parts h gs ≡ Ok (record { hrp = p; groups = gs; fields = fs })
    unfolding judging_parts
    parts_fine fs f = then_accepted p _ _ e ∙ then_accepted fs _ _ f

  -- what an accepted invoice's groups and fields are
  pub parts_told : (t : Contents) → judging_parts h gs ≡ Ok t → (t.groups ≡ gs) × (fields_in (middle_of gs) ≡ Ok t.fields)
  unfolding judging_parts fielding
  parts_told t e =
      let a = both _ _ t e in
      let b = both _ _ t a.second in
      let s = ensured _ _ _ b.is b.first in
      let c = both _ _ b.is s.rest in
      let d = ensured _ _ _ b.is c.second in
      let f = ensured _ _ _ b.is d.rest in
      let fields : c.is ≡ b.is = cc f.rest in
      let is : record { hrp = a.is; groups = gs; fields = b.is } ≡ t = cc b.second in
      (sym (ap (λ (x : Contents). x.groups) is), c.first ∙ ap Ok (fields ∙ ap (λ (x : Contents). x.fields) is))

-- The human readable part and all groups of the data.
module _ (h gs : List ℕ) where
  pub data_refused : (r : Refusal) → sealing (length h + 1) h gs ≡ Err r → judging_data h gs ≡ Err r
  unfolding judging_data
  data_refused r e = then_refused r _ _ e

  pub data_parts : sealing (length h + 1) h gs ≡ Ok tt → judging_data h gs ≡ judging_parts (map lower h) (take (length gs - 6) gs)
  unfolding judging_data
  data_parts e = then_accepted tt _ _ e

-- The whole text.
pub judging_parts_is : (t : List ℕ) → spelling t ≡ Ok tt → judging t ≡ judging_parts (map lower (hrp_of t)) (groups_of t)
unfolding judging
judging_parts_is t e = then_accepted tt _ _ e

pub judging_refused : (t : List ℕ) (r : Refusal) → spelling t ≡ Err r → judging t ≡ Err r
unfolding judging
judging_refused t r e = then_refused r _ _ e

-- a text in two parts, by these
pub judging_data_is : (t : List ℕ) → parting t ≡ Ok tt → judging t ≡ judging_data (hrp_of t) (groups_in (data_of t))
unfolding judging judging_data
judging_data_is t e =
    let p = accepted_parted t e in
    let begin : length (hrp_of t) + 1 ≡ up_to_last_one t = omega (arith, length-take-le (up_to_last_one t - 1) t (omega (arith, p.enough)), p.separator) in
    rw (begin, length_groups_in (data_of t), spelling_parted t e) refl

-- With buffers of some lengths.
module _ (groups index : ℕ) (x : Answer Contents) where
  pub room_refused : (r : Refusal) → x ≡ Err r → fitting_both groups index x ≡ Err r
  room_refused r e = fitting_refused _ _ _ r (fitting_refused _ _ _ r e)

  module _ (c : Contents) (e : x ≡ Ok c) where
    pub room_groups : groups < length c.groups → fitting_both groups index x ≡ Err (bare 12)
    room_groups h = fitting_refused _ _ _ _ (fitting_short _ _ _ c e h)

    module _ (room : length c.groups ≤ groups) where
      pub room_index : index < 3 * length c.fields → fitting_both groups index x ≡ Err (bare 12)
      room_index h = fitting_short _ _ _ c (fitting_fits _ _ _ c e room) h

      pub room_fits : 3 * length c.fields ≤ index → fitting_both groups index x ≡ Ok c
      room_fits h = fitting_fits _ _ _ c (fitting_fits _ _ _ c e room) h
