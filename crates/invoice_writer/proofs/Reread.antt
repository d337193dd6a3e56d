-- What the writer makes, the reader accepts: the parts that it finds in a finished text. Assumes nothing.
use Rattle.std.specs.Prelude.{Option, Ok}
use Prim.Native.Char.{code}
use mathlib.Core.Bool.{Bool, true, false, ◌&&◌, and-false}
use mathlib.Core.List.{List, [], ◌∷◌, ◌++◌, map}
use mathlib.Core.Logic.{⊎_elim}
use mathlib.Core.Path.{◌≡◌, refl, ap, ap₂, ◌∙◌}
use Prim.Native.Nat.{ℕ, zero, suc, ◌+◌, ◌-◌, ◌≤◌, ◌<◌, suc-le-suc}
use native.Mathlib.Nat.{le_of_suc-le-suc, not-suc-le-zero}
use native.Mathlib.Omega.{arith}
use lib.Dec.{leb}
use lib.ListN.{length, get_or, take, drop, length-append, length-map}
use lib.Seq.{take_at, drop-append-add, take-append_seam, drop-append_seam}
use borrow.Author.Tests.{le-leb, lt-leb, ne_eqb}
use Rattle.bech32.specs.Alphabet.{char_of, groups_in}
use Rattle.bech32.specs.Checksum.{verify_checksum, create_checksum}
use Rattle.bech32.specs.Groups.{AreGroups}
use Rattle.bech32.proofs.AlphabetLaws.{char_least, char_most, char_not_one, char_not_upper, groups_chars}
use Rattle.bech32.proofs.CreateLaws.{length_created, created_groups, created_right}
use Rattle.invoice.specs.Edition.{same, prefix_number, prefixed}
use Rattle.invoice.proofs.EditionLaws.{by_prefix}
use Rattle.invoice.specs.Invoice.{prefix_in, amount_in, asking, hrp_reading, groups_of, judging_parts}
use Rattle.invoice_text.specs.Text.{first_where, has, is_outside, is_above31, up_to_last_one, hrp_of, data_of, spelling}
use Rattle.invoice_text.proofs.FirstWhere.{first_yes, has_none}
use Rattle.invoice_text.proofs.GroupTest.{none_above}
use Rattle.invoice_text.proofs.TextLaws.{last_behind, last_front, parting_right, sealing_right, spelling_parted}
use Rattle.laws.specs.Test.{pick}
use Rattle.laws.proofs.Test.{pick_no}
use Rattle.letters.specs.Letters.{is_upper, is_lower, lower}
use Rattle.money.specs.Amount.{is_digit}
use Rattle.money.specs.declared.Msat.{Msat}
use Rattle.money.proofs.Accepted.{accepted_spelled, accepted_characters}
use Rattle.money.proofs.DigitLaws.{digit_range, digit_at}
use Rattle.answer.specs.Answer.{ensure, ◌>>=◌}
use Rattle.answer.proofs.Answer.{then_accepted, both}
use Rattle.invoice_writer.specs.Private.{name_of}
use Rattle.invoice_writer.specs.Writer.{text_of}
use Rattle.invoice_writer.proofs.GroupLaws.{append_groups}
use Rattle.invoice_writer.proofs.TextLaws.{length_text}

-- The separator: the groups' characters hold no "1".

no_one : (gs : List ℕ) → AreGroups gs → up_to_last_one (map char_of gs) ≡ 0
unfolding up_to_last_one
no_one [] are = refl
no_one (g ∷ gs) are =
    rw (no_one gs (λ k. are (suc k))) (pick_no _ _ _ refl ∙ pick_no _ _ _ (ne_eqb (char_of g) (code "1") (char_not_one g (are 0))))

one_alone : up_to_last_one (code "1" ∷ []) ≡ 1
unfolding up_to_last_one pick
one_alone = refl

-- Characters that no question refuses: from 33 to 126, and none in upper case.

abbrev pub Plain : ℕ → Type 0
Plain c = (33 ≤ c) × (c ≤ 126) × (is_upper c ≡ false)

abbrev pub AllPlain : List ℕ → Type 0
AllPlain s = (k : ℕ) → k < length s → Plain (get_or s k 0)

plain_low : (c : ℕ) → 33 ≤ c → c < 65 → Plain c
plain_low c h k = (h, omega arith, rw (lt-leb 65 c k) refl)

plain_high : (c : ℕ) → 90 < c → c ≤ 126 → Plain c
plain_high c h k = (omega arith, k, rw (lt-leb c 90 h) (and-false (leb 65 c)))

plain_cons : (c : ℕ) (s : List ℕ) → Plain c → AllPlain s → AllPlain (c ∷ s)
plain_cons c s h all zero k = h
plain_cons c s h all (suc i) k = all i (le_of_suc-le-suc k)

plain_none : AllPlain []
plain_none k h = absurd (not-suc-le-zero h)

plain_append : (a b : List ℕ) → AllPlain a → AllPlain b → AllPlain (a ++ b)
plain_append [] b h k = k
plain_append (c ∷ a) b h k = plain_cons c (a ++ b) (h 0 (omega arith)) (plain_append a b (λ i l. h (suc i) (suc-le-suc l)) k)

plain_chars : (gs : List ℕ) → AreGroups gs → AllPlain (map char_of gs)
plain_chars [] are = plain_none
plain_chars (g ∷ gs) are =
    plain_cons (char_of g) (map char_of gs) (omega (arith, char_least g (are 0)), omega (arith, char_most g (are 0)), char_not_upper g (are 0)) (plain_chars gs (λ k. are (suc k)))

-- four characters that are all letters in lower case
plain_four : (a b c d : ℕ) → (90 < a) × (a ≤ 126) → (90 < b) × (b ≤ 126) → (90 < c) × (c ≤ 126) → (90 < d) × (d ≤ 126) → AllPlain (a ∷ b ∷ c ∷ d ∷ [])
plain_four a b c d ha hb hc hd =
    plain_cons a (b ∷ c ∷ d ∷ []) (plain_high a ha.0 ha.1)
    (plain_cons b (c ∷ d ∷ []) (plain_high b hb.0 hb.1) (plain_cons c (d ∷ []) (plain_high c hc.0 hc.1) (plain_cons d [] (plain_high d hd.0 hd.1) plain_none)))

plain_name : (prefix : ℕ) → prefixed prefix ≡ Ok (name_of prefix) → AllPlain (name_of prefix)
plain_name prefix named =
    by_prefix (λ (n : ℕ). AllPlain (name_of n)) prefix _ named
    (plain_four 108 110 98 99 (omega arith) (omega arith) (omega arith) (omega arith))
    (plain_four 108 110 116 98 (omega arith) (omega arith) (omega arith) (omega arith))

plain_amount : (t : List ℕ) (m : Option Msat) → asking t ≡ Ok m → AllPlain t
unfolding asking
plain_amount [] m h = plain_none
plain_amount (c ∷ t) m h =
    λ k within.
    let a = both _ _ m h in
    let x = get_or (c ∷ t) k 0 in
    let high : (n : ℕ) → 90 < n → n ≤ 126 → x ≡ n → Plain x = λ n low most is. plain_high x (omega arith) (omega arith) in
    ⊎_elim (λ d. let r = digit_range x d in plain_low x (omega (arith, r)) (omega (arith, r)))
    (⊎_elim (high 109 (omega arith) (omega arith))
    (⊎_elim (high 117 (omega arith) (omega arith)) (⊎_elim (high 110 (omega arith) (omega arith)) (high 112 (omega arith) (omega arith)))))
    (accepted_characters (c ∷ t) a.is a.first k within)

none_outside : (s : List ℕ) → AllPlain s → has is_outside s ≡ false
none_outside s all = has_none is_outside s 0 (λ k h. let p = all k h in rw (le-leb 33 (get_or s k 0) p.0, le-leb (get_or s k 0) 126 p.1) refl)

none_upper : (s : List ℕ) → AllPlain s → has is_upper s ≡ false
none_upper s all = has_none is_upper s 0 (λ k h. (all k h).2)

-- The parts of a finished text, whose human readable part is in lower case.
module _ (hrp groups : List ℕ) (lowered : map lower hrp ≡ hrp) (are : AreGroups groups) where
  -- all groups, the closing ones too
  abbrev all : List ℕ
  all = groups ++ create_checksum hrp groups

  all_groups : AreGroups all
  all_groups = append_groups groups (create_checksum hrp groups) are (created_groups hrp groups)

  length_all : length all ≡ length groups + 6
  length_all = length-append groups (create_checksum hrp groups) ∙ ap (λ (n : ℕ). length groups + n) (length_created hrp groups)

  separator_is : up_to_last_one (text_of hrp groups) ≡ length hrp + 1
  unfolding text_of
  separator_is =
      let behind : up_to_last_one (code "1" ∷ map char_of all) ≡ 1 = last_front (code "1" ∷ []) (map char_of all) (no_one all all_groups) ∙ one_alone in
      last_behind hrp (code "1" ∷ map char_of all) (omega arith) ∙ ap (λ (n : ℕ). length hrp + n) behind

  hrp_is : hrp_of (text_of hrp groups) ≡ hrp
  unfolding text_of
  hrp_is = take_at hrp _ (up_to_last_one (text_of hrp groups) - 1) (omega (arith, separator_is))

  data_is : data_of (text_of hrp groups) ≡ map char_of all
  unfolding text_of
  data_is = ap (λ (n : ℕ). drop n (text_of hrp groups)) separator_is ∙ drop-append-add hrp (code "1" ∷ map char_of all) 1

  data_groups : groups_in (data_of (text_of hrp groups)) ≡ all
  data_groups = ap groups_in data_is ∙ groups_chars all all_groups

  pub groups_are : groups_of (text_of hrp groups) ≡ groups
  groups_are =
      let e : length (data_of (text_of hrp groups)) - 6 ≡ length groups = omega (arith, ap length data_is, length-map all char_of, length_all) in
      ap₂ take e data_groups ∙ take-append_seam groups (create_checksum hrp groups)

  -- 30 to 35
  pub spelled : AllPlain hrp → 1 ≤ length hrp → 111 ≤ length groups → length (text_of hrp groups) ≤ 4096 → spelling (text_of hrp groups) ≡ Ok tt
  unfolding text_of
  spelled plain some enough short =
      let text = text_of hrp groups in
      let all_plain : AllPlain text = plain_append hrp (code "1" ∷ map char_of all) plain (plain_cons (code "1") (map char_of all) (plain_low (code "1") (omega arith) (omega arith)) (plain_chars all all_groups)) in
      let data-long : length text - up_to_last_one text ≡ length groups + 6 = omega (arith, length_text hrp groups, separator_is) in
      let own : has is_above31 (groups_in (data_of text)) ≡ false = ap (has is_above31) data_groups ∙ none_above all all_groups in
      let right : verify_checksum (map lower (hrp_of text)) (groups_in (data_of text)) ≡ true = ap₂ verify_checksum (ap (map lower) hrp_is ∙ lowered) data_groups ∙ created_right hrp groups in
      spelling_parted text
      (parting_right text short (none_outside text all_plain) (ap (λ (b : Bool). b && has is_lower text) (none_upper text all_plain)) (omega (arith, separator_is))
      (omega (arith, data-long)))
      ∙ sealing_right (up_to_last_one text) (hrp_of text) (groups_in (data_of text)) own right

  pub parts_are : judging_parts (map lower (hrp_of (text_of hrp groups))) (groups_of (text_of hrp groups)) ≡ judging_parts hrp groups
  parts_are = ap₂ judging_parts (ap (map lower) hrp_is ∙ lowered) groups_are

-- An amount, if any, begins with a digit.
digit_first : (t : List ℕ) (m : Option Msat) → asking t ≡ Ok m → first_where is_digit t ≡ 0
unfolding asking first_where
digit_first [] m h = refl
digit_first (c ∷ t) m h =
    let a = both _ _ m h in
    first_yes is_digit c t (digit_at (c ∷ t) 0 (accepted_spelled (c ∷ t) a.is a.first).some)

-- The prefix has none.
first_digit : (prefix : ℕ) (amount : List ℕ) → prefixed prefix ≡ Ok (name_of prefix) → first_where is_digit amount ≡ 0 →
    first_where is_digit (name_of prefix ++ amount) ≡ length (name_of prefix)
unfolding first_where pick
first_digit prefix amount named e = by_prefix (λ (n : ℕ). first_where is_digit (name_of n ++ amount) ≡ length (name_of n)) prefix _ named (rw e refl) (rw e refl)

-- A prefix that the writer takes is the one that the reader finds.
prefix_found : (prefix : ℕ) → prefixed prefix ≡ Ok (name_of prefix) → prefix_number (name_of prefix) ≡ Ok prefix
unfolding prefix_number first_where same pick ensure ◌>>=◌
prefix_found prefix named = by_prefix (λ (n : ℕ). prefix_number (name_of n) ≡ Ok n) prefix _ named refl refl

-- What a human readable part says that is a prefix and an amount.
module _ (prefix : ℕ) (amount : List ℕ) (m : Option Msat) (named : prefixed prefix ≡ Ok (name_of prefix)) (asked : asking amount ≡ Ok m) where
  abbrev written : List ℕ
  written = name_of prefix ++ amount

  behind : first_where is_digit written ≡ length (name_of prefix)
  behind = first_digit prefix amount named (digit_first amount m asked)

  prefix_is : prefix_in written ≡ name_of prefix
  prefix_is = ap (λ (n : ℕ). take n written) behind ∙ take-append_seam (name_of prefix) amount

  amount_is : amount_in written ≡ amount
  amount_is = ap (λ (n : ℕ). drop n written) behind ∙ drop-append_seam (name_of prefix) amount

  pub hrp_read : hrp_reading written ≡ Ok (record { prefix = prefix; start = length (name_of prefix); size = length amount; msat = m })
  unfolding hrp_reading
  hrp_read =
      then_accepted prefix _ _ (ap prefix_number prefix_is ∙ prefix_found prefix named)
      ∙ then_accepted m _ _ (ap asking amount_is ∙ asked)
      ∙ ap₂ (λ (i n : ℕ). Ok (record { prefix = prefix; start = i; size = n; msat = m })) (ap length prefix_is) (ap length amount_is)

  pub plain_hrp : AllPlain written
  plain_hrp = plain_append (name_of prefix) amount (plain_name prefix named) (plain_amount amount m asked)
