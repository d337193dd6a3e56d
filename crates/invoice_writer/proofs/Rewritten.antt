-- What the reader accepts, the writer makes again: the parts of an accepted text, one by one, and the text of them. Assumes nothing.
use Rattle.std.specs.Prelude.{Ok}
use Prim.Native.Char.{code}
use mathlib.Core.Bool.{true, false, and-eq-true_iff}
use mathlib.Core.List.{List, [], ◌∷◌, ◌++◌, map, map-append}
use mathlib.Core.Path.{◌≡◌, refl, sym, ap, ap₂, ◌∙◌}
use Prim.Native.Nat.{ℕ, suc, ◌+◌, ◌-◌, ◌^◌, ◌≤◌, ◌<◌}
use native.Mathlib.Omega.{arith}
use lib.Dec.{ltb, eqb}
use lib.ListN.{length, get_or, take, drop, length-drop, length-map, take-append-drop}
use lib.Seq.{take-add, length-take-le}
use borrow.Author.Tests.{ltb-true, eqb-true}
use Rattle.bech32.specs.Alphabet.{char_of, group_of, groups_in}
use Rattle.bech32.specs.Checksum.{verify_checksum, create_checksum}
use Rattle.bech32.specs.Groups.{AreGroups, digits}
use Rattle.bech32.proofs.AlphabetLaws.{chars_groups}
use Rattle.bech32.proofs.CreateLaws.{created_only}
use Rattle.bech32.proofs.GroupLaws.{number_below, digits_number, take_groups, drop_groups}
use Rattle.invoice.specs.Edition.{same, prefixes, prefix_number, prefixed}
use Rattle.invoice.proofs.EditionLaws.{prefixed_some}
use Rattle.invoice.specs.Invoice.{prefix_in, prefixing, groups_of, time_of, middle_of, signature_of}
use Rattle.invoice_text.specs.Text.{first_where, has, is_above31, up_to_last_one, hrp_of, data_of}
use Rattle.invoice_text.proofs.FirstWhere.{has_true}
use Rattle.invoice_text.proofs.GroupTest.{none_above}
use Rattle.invoice_text.proofs.TextLaws.{Spelled}
use Rattle.laws.proofs.Test.{pick_all}
use Rattle.letters.specs.Letters.{lower}
use Rattle.letters.proofs.LetterLaws.{lower_before}
use Rattle.answer.proofs.Answer.{ensured}
use Rattle.invoice_writer.specs.Writer.{groups_from, text_of}
use Rattle.invoice_writer.proofs.GroupLaws.{append_groups}

-- The prefix.

same_is : (a b : List ℕ) → same a b ≡ true → a ≡ b
unfolding same
same_is [] [] h = refl
same_is [] (y ∷ b) h = absurd (let z : ◌≡◌ {A = ℕ} 0 1 = cc in omega arith)
same_is (x ∷ a) [] h = absurd (let z : ◌≡◌ {A = ℕ} 0 1 = cc in omega arith)
same_is (x ∷ a) (y ∷ b) h =
    let e = (and-eq-true_iff (eqb x y) (same a b)).0 h in
    ap₂ {A = ℕ} {B = List ℕ} {C = List ℕ} (λ z l. z ∷ l) (eqb-true x y e.0) (same_is a b e.1)

pub prefix_back : (h : List ℕ) (n : ℕ) → prefixing h ≡ Ok n → prefixed n ≡ Ok (prefix_in h)
unfolding prefix_number
prefix_back h n e =
    let k = first_where (same (prefix_in h)) prefixes in
    let a = ensured _ _ _ n e in
    let is : suc k ≡ n = cc a.rest in
    let within = ltb-true k (length prefixes) a.holds in
    ap prefixed (sym is)
    ∙ prefixed_some (suc k) (omega arith) within
    ∙ ap (λ (i : ℕ). Ok (get_or prefixes i [])) (let less : suc k - 1 ≡ k = omega arith in less)
    ∙ ap Ok (sym (same_is (prefix_in h) (get_or prefixes k []) (has_true (same (prefix_in h)) prefixes [] a.holds)))

-- The text is its two parts with the separator between them.
pub parts_of : (t : List ℕ) → 0 < up_to_last_one t → t ≡ hrp_of t ++ code "1" ∷ data_of t
unfolding up_to_last_one
parts_of [] some = absurd (omega arith)
parts_of (c ∷ t) some =
    let u = up_to_last_one t in
    pick_all (λ (n : ℕ). 0 < n → c ∷ t ≡ take (n - 1) (c ∷ t) ++ code "1" ∷ drop n (c ∷ t)) (ltb 0 u) _ _
    (λ later _.
    let e : suc u - 1 ≡ suc (u - 1) = omega (arith, ltb-true 0 u later) in
    rw e (ap {A = List ℕ} {B = List ℕ} (λ l. c ∷ l) (parts_of t (ltb-true 0 u later))))
    (λ _. pick_all (λ (n : ℕ). 0 < n → c ∷ t ≡ take (n - 1) (c ∷ t) ++ code "1" ∷ drop n (c ∷ t)) (eqb c (code "1")) _ _
    (λ one _. ap {A = ℕ} {B = List ℕ} (λ x. x ∷ t) (eqb-true c (code "1") one))
    (λ _ none. absurd (omega arith)))
    some

-- The groups.
module _ (gs : List ℕ) (are : AreGroups gs) (enough : 111 ≤ length gs) where
  pub time_below : time_of gs < 2 ^ 35
  time_below = rw (length-take-le 7 gs (omega arith)) at (number_below (take 7 gs) (take_groups 7 gs are))

  pub groups_back : groups_from (time_of gs) (middle_of gs) (signature_of gs) ≡ gs
  groups_back =
      let n = length gs in
      let seven : digits 7 (time_of gs) ≡ take 7 gs = rw (length-take-le 7 gs (omega arith)) at (digits_number (take 7 gs) (take_groups 7 gs are)) in
      let e : n - 104 ≡ 7 + (n - 111) = omega arith in
      ap (λ (l : List ℕ). l ++ take (n - 111) (drop 7 gs) ++ signature_of gs) seven
      ∙ rw (← (take-add 7 (n - 111) gs), ← e) (take-append-drop (n - 104) gs)

  pub no_group_above : has is_above31 (middle_of gs ++ signature_of gs) ≡ false
  no_group_above =
      none_above (middle_of gs ++ signature_of gs)
      (append_groups (middle_of gs) (signature_of gs) (take_groups (length gs - 111) (drop 7 gs) (drop_groups 7 gs are)) (drop_groups (length gs - 104) gs are))

-- The text of the parts.
module _ (t : List ℕ) (s : Spelled t) where
  pub text_back : text_of (map lower (hrp_of t)) (groups_of t) ≡ map lower t
  unfolding text_of
  text_back =
      let low = map lower (hrp_of t) in
      let m = length (data_of t) - 6 in
      let d = groups_in (data_of t) in
      let six = drop m d in
      let both : groups_of t ++ six ≡ d = take-append-drop m d in
      let count : length six ≡ 6 = omega (arith, length-drop m d, length-map (data_of t) (λ c. group_of (lower c)), length-drop (up_to_last_one t) t, s.parts.enough) in
      let closes : six ≡ create_checksum low (groups_of t) = created_only low (groups_of t) six count (drop_groups m d s.seal.are) (ap (verify_checksum low) both ∙ s.seal.checked) in
      let chars : map char_of (groups_of t ++ create_checksum low (groups_of t)) ≡ map lower (data_of t) =
      ap (λ (l : List ℕ). map char_of (groups_of t ++ l)) (sym closes) ∙ ap (map char_of) both ∙ chars_groups (data_of t) s.seal.are in
      ap (λ (l : List ℕ). low ++ code "1" ∷ l) chars
      ∙ sym
      (ap (map lower) (parts_of t (omega (arith, s.parts.separator)))
      ∙ map-append lower (hrp_of t) (code "1" ∷ data_of t)
      ∙ ap (λ (c : ℕ). low ++ c ∷ map lower (data_of t)) (lower_before (code "1") (omega arith)))
