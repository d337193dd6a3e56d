-- What an accepted invoice says of its text, taken apart once for all who need a part. Assumes nothing.
use Rattle.std.specs.Prelude.{Ok}
use mathlib.Core.List.{List, map}
use mathlib.Core.Path.{◌≡◌, refl, sym, ap, ap₂, ◌∙◌, subst}
use Prim.Native.Nat.{ℕ, ◌+◌, ◌-◌, ◌≤◌}
use native.Mathlib.Omega.{arith}
use lib.ListN.{length, take, drop, length-append, length-drop, length-map, length-take, take-append-drop}
use lib.Seq.{take-add, drop_at, length-take-le}
use Rattle.answer.proofs.Answer.{both, fitted}
use Rattle.bech32.specs.Alphabet.{groups_in}
use Rattle.bech32.proofs.AlphabetLaws.{length_groups_in}
use Rattle.field.specs.Fields.{fielding}
use Rattle.invoice_text.specs.Text.{first_where, up_to_last_one, hrp_of, data_of, spelling}
use Rattle.invoice_text.proofs.FirstWhere.{first_most}
use Rattle.invoice_text.proofs.TextLaws.{last_most, accepted_spelled}
use Rattle.letters.specs.Letters.{lower}
use Rattle.money.specs.Amount.{is_digit}
use Rattle.invoice.specs.Invoice.{Contents, prefix_in, amount_in, prefixing, asking, hrp_reading, groups_of, middle_of, signature_of, amount_of, judging_parts, judging, reading}
use Rattle.invoice.proofs.InvoiceLaws.{map_drop}

pub record Judged (text : List ℕ) (told : Contents) : Type 0 where
  pub spelled : spelling text ≡ Ok tt
  pub prefix : prefixing (map lower (hrp_of text)) ≡ Ok told.hrp.prefix
  pub start : told.hrp.start ≡ length (prefix_in (map lower (hrp_of text)))
  pub size : told.hrp.size ≡ length (amount_in (map lower (hrp_of text)))
  pub asked : asking (amount_in (map lower (hrp_of text))) ≡ Ok told.hrp.msat
  pub groups : told.groups ≡ groups_of text
  pub fielded : fielding (middle_of (groups_of text)) (signature_of (groups_of text)) ≡ Ok told.fields

pub judged : (text : List ℕ) (told : Contents) → judging text ≡ Ok told → Judged text told
unfolding judging judging_parts hrp_reading
judged text told h =
    let a = both _ _ told h in
    let b = both _ _ told a.second in
    let c = both _ _ told b.second in
    let d = both _ _ b.is b.first in
    let e = both _ _ b.is d.second in
    let low = map lower (hrp_of text) in
    let is : record { hrp = record { prefix = d.is; start = length (prefix_in low); size = length (amount_in low); msat = e.is }; groups = groups_of text; fields = c.is } ≡ told =
    cc (c.second, e.second) in
    subst (λ (t : Contents). Judged text t) is
    (record { spelled = a.first; prefix = d.first; start = refl; size = refl; asked = e.first; groups = refl; fielded = c.first })

-- a part of a part
drop_take : (p n : ℕ) (t : List ℕ) → p ≤ n → p ≤ length t → drop p (take n t) ≡ take (n - p) (drop p t)
drop_take p n t h inside =
    let e : n ≡ p + (n - p) = omega arith in
    ap (λ (m : ℕ). drop p (take m t)) e ∙ ap (drop p) (take-add p (n - p) t) ∙ drop_at (take p t) (take (n - p) (drop p t)) p (length-take-le p t inside)

-- The amount's characters, where the reader says that they stand.
module _ (t : List ℕ) where
  abbrev hrp : List ℕ
  hrp = map lower (hrp_of t)

  amount_back : map lower (take (length (amount_in hrp)) (drop (length (prefix_in hrp)) t)) ≡ amount_in hrp
  amount_back =
      let n = up_to_last_one t - 1 in
      let p = first_where is_digit hrp in
      let within : p ≤ length hrp = first_most is_digit hrp in
      let long : length hrp ≡ n = length-map (hrp_of t) lower ∙ length-take-le n t (omega (arith, last_most t)) in
      let start : length (prefix_in hrp) ≡ p = length-take-le p hrp within in
      let size : length (amount_in hrp) ≡ n - p = length-drop p hrp ∙ ap (λ (m : ℕ). m - p) long in
      ap₂ (λ (m i : ℕ). map lower (take m (drop i t))) size start
      ∙ ap (map lower) (sym (drop_take p n t (omega arith) (omega (arith, last_most t))))
      ∙ map_drop lower p (hrp_of t)

  pub amount_told : (told : Contents) → Judged t told → map lower (amount_of t told) ≡ amount_in hrp
  amount_told told j = rw (j.size, j.start) amount_back

-- Where its parts lie: the amount in the text, and there are a time and a signature.
module _ (text : List ℕ) (told : Contents) (j : Judged text told) where
  pub amount_inside : told.hrp.start + told.hrp.size ≤ length text
  amount_inside =
      let low = map lower (hrp_of text) in
      omega (
        arith,
        j.start,
        j.size,
        length-append (prefix_in low) (amount_in low),
        ap length (take-append-drop (first_where is_digit low) low),
        length-map (hrp_of text) lower,
        length-take (up_to_last_one text - 1) text,
      )

  pub enough_groups : 111 ≤ length (groups_of text)
  enough_groups =
      let n = length (data_of text) in
      omega (
        arith,
        length-take-le (n - 6) (groups_in (data_of text)) (omega (arith, length_groups_in (data_of text))),
        length-drop (up_to_last_one text) text,
        (accepted_spelled text j.spelled).parts.enough,
      )

-- what was read was judged so, and fits
pub read_judged : (text : List ℕ) (groups index : ℕ) (told : Contents) → reading text groups index ≡ Ok told →
    (judging text ≡ Ok told) × (length told.groups ≤ groups)
read_judged text groups index told e =
    let a = fitted _ _ _ told (fitted _ _ _ told e).was in
    (a.was, a.fits)
