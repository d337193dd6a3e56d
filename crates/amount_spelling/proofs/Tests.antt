-- The code's test of an amount says whether it is spelled shortest. Assumes nothing.
use Rattle.std.specs.Prelude.{Ok, Err}
use mathlib.Core.Bool.{true, false, not}
use mathlib.Core.List.{List, [], ◌∷◌, map}
use mathlib.Core.Logic.{◌↔◌, inl, inr}
use mathlib.Core.Path.{◌≡◌, refl, sym, ap, ◌∙◌}
use Prim.Native.Char.{code}
use Prim.Native.Nat.{ℕ, suc, ◌+◌, ◌-◌, ◌%◌, ◌≤◌, ◌<◌}
use native.Mathlib.Nat.{add-zero}
use native.Mathlib.Omega.{arith}
use borrow.Author.Tests.{leb-true, ltb-true, eqb-true, le-leb, lt-ltb, eq-eqb, ne_eqb, not-true}
use lib.Dec.{ltb, eqb}
use lib.ListN.{length, get_or, length-map, get_or-map}
use lib.Seq.{get_or-drop}
use Rattle.answer.specs.declared.Refusal.{Refusal}
use Rattle.laws.proofs.Test.{by_order, by_test, and_true}
use Rattle.letters.specs.Letters.{lower}
use Rattle.letters.proofs.LetterLaws.{lower_before, lower_upper, lower_behind}
use Rattle.money.specs.Amount.{digit_count, amounting}
use Rattle.money.specs.declared.Msat.{Msat}
use Rattle.money.proofs.Accepted.{IsLetter, Letter, none, one, accepted_letter, accepted_spelled}
use Rattle.money.proofs.DigitLaws.{digit_range, digit_at, decimal_few, decimal_above}
use Rattle.amount_spelling.specs.Private.{from_end, is_thousands}
use Rattle.amount_spelling.specs.Shortest.{Shortest}
use Rattle.amount_spelling.proofs.Spellings.{number_in, letter_in, no_shorter}
use Rattle.amount_spelling.proofs.Thousands.{zeros, long, longer}

-- The test of a text, taken apart and put together.
pub record Thousands (t : List ℕ) : Type 0 where
  pub enough : 4 ≤ length t
  pub letter : code "9" < from_end t 1
  pub third : from_end t 2 ≡ code "0"
  pub second : from_end t 3 ≡ code "0"
  pub first : from_end t 4 ≡ code "0"

pub thousands_true : (t : List ℕ) → is_thousands t ≡ true → Thousands t
thousands_true t h =
    let d = and_true _ _ h in
    let c = and_true _ _ d.0 in
    let b = and_true _ _ c.0 in
    let a = and_true _ _ b.0 in
    record {
      enough = leb-true 4 (length t) a.0;
      letter = ltb-true 57 (from_end t 1) a.1;
      third = eqb-true (from_end t 2) 48 b.1;
      second = eqb-true (from_end t 3) 48 c.1;
      first = eqb-true (from_end t 4) 48 d.1;
    }

pub thousands_are : (t : List ℕ) → Thousands t → is_thousands t ≡ true
thousands_are t h =
    rw (le-leb 4 (length t) h.enough, lt-ltb 57 (from_end t 1) h.letter, eq-eqb (from_end t 2) 48 h.third, eq-eqb (from_end t 3) 48 h.second, eq-eqb (from_end t 4) 48 h.first)

-- a letter's code is above that of 9
letter_above : (c : ℕ) → IsLetter c → code "9" < c
letter_above c (inl e) = omega arith
letter_above c (inr (inl e)) = omega arith
letter_above c (inr (inr (inl e))) = omega arith
letter_above c (inr (inr (inr e))) = omega arith

-- An accepted amount passes the test exactly where it has a letter and its number divides by a thousand.
module _ (m : Msat) (t : List ℕ) (of-t : amounting t ≡ Ok m) where
  at : (behind place : ℕ) → length t - behind ≡ place → from_end t behind ≡ get_or t place 0
  at behind place e = ap (λ (k : ℕ). get_or t k 0) e

  abbrev digits : ℕ
  digits = digit_count t

  many_digits : number_in t % 1000 ≡ 0 → 3 ≤ digits
  many_digits whole =
      let s = accepted_spelled t m of-t in
      by_order digits 3
      (λ few. absurd (omega (arith, decimal_few 3 t digits (omega arith) (omega arith), decimal_above t digits s.some (omega arith) s.first)))
      (λ h. h)

  passes : (c : ℕ) → letter_in t ≡ c ∷ [] → IsLetter c → number_in t % 1000 ≡ 0 → Thousands t
  passes c is letter whole =
      let n = digits - 3 in
      let many = many_digits whole in
      let count : digits ≡ suc (suc (suc n)) = omega arith in
      let z = zeros t n (omega arith) (rw count at whole) in
      let size : length t ≡ digits + 1 = omega (arith, long m t of-t, ap length is) in
      let end : get_or t digits 0 ≡ c = sym (get_or-drop digits t 0 0 ∙ ap (λ (k : ℕ). get_or t k 0) (add-zero digits)) ∙ ap (λ (l : List ℕ). get_or l 0 0) is in
      record {
        enough = omega arith;
        letter = rw (at 1 digits (omega arith), end) (letter_above c letter);
        third = at 2 (suc (suc n)) (omega arith) ∙ z.third;
        second = at 3 (suc n) (omega arith) ∙ z.second;
        first = at 4 n (omega arith) ∙ z.first;
      }

  fails : Thousands t → Letter (letter_in t) → Shortest t → ⊥
  fails h (none e) shortest =
      let size : length t ≡ digits = omega (arith, long m t of-t, ap length e) in
      let last = digit_range (get_or t (digits - 1) 0) (digit_at t (digits - 1) (omega (arith, (accepted_spelled t m of-t).some))) in
      omega (arith, h.letter, at 1 (digits - 1) (omega arith), last)
  fails h (one c is letter) shortest =
      let n = digits - 3 in
      let size : length t ≡ digits + 1 = omega (arith, long m t of-t, ap length is) in
      let count : digits ≡ suc (suc (suc n)) = omega (arith, h.enough) in
      longer m t of-t n c count is letter
      (record { first = sym (at 4 n (omega arith)) ∙ h.first; second = sym (at 3 (suc n) (omega arith)) ∙ h.second; third = sym (at 2 (suc (suc n)) (omega arith)) ∙ h.third })
      shortest

  odd : is_thousands t ≡ false → Letter (letter_in t) → number_in t % 1000 ≡ 0 → length (letter_in t) ≡ 0
  odd h (none e) whole = ap length e
  odd h (one c is letter) whole =
      let yes = thousands_are t (passes c is letter whole) in
      absurd (let z : ◌≡◌ {A = ℕ} 0 1 = cc in omega arith)

  -- The test says whether a shorter spelling is allowed.
  pub shortest_test : (not (is_thousands t) ≡ true) ↔ Shortest t
  shortest_test = (
    (λ h n of other spelled. no_shorter n t other of spelled (odd (not-true _ h) (accepted_letter t m of-t))),
    λ shortest.
        by_test (is_thousands t) (λ yes. absurd (fails (thousands_true t yes) (accepted_letter t m of-t) shortest)) (λ fine. ap not fine),
  )

-- a text that spells no amount keeps the rule
pub shortest_none : (t : List ℕ) (r : Refusal) → amounting t ≡ Err r → (true ≡ true) ↔ Shortest t
shortest_none t r h = ((λ _ m of. absurd (let z : ◌≡◌ {A = ℕ} 0 1 = cc in omega arith)), λ _. refl)

-- The case of a text makes no difference to the test.
module _ (c : ℕ) where
  above_lower : ltb (code "9") (lower c) ≡ ltb (code "9") c
  above_lower =
      by_order c 65 (λ h. rw (lower_before c h)) λ low.
      by_order 90 c (λ h. rw (lower_behind c h)) λ high.
      rw (lower_upper c low high) (lt-ltb 57 (c + 32) (omega arith) ∙ sym (lt-ltb 57 c (omega arith)))

  zero_lower : eqb (lower c) (code "0") ≡ eqb c (code "0")
  zero_lower =
      by_order c 65 (λ h. rw (lower_before c h)) λ low.
      by_order 90 c (λ h. rw (lower_behind c h)) λ high.
      rw (lower_upper c low high) (ne_eqb (c + 32) 48 (λ e. omega arith) ∙ sym (ne_eqb c 48 (λ e. omega arith)))

module _ (s : List ℕ) where
  end_lower : (behind : ℕ) → from_end (map lower s) behind ≡ lower (from_end s behind)
  end_lower behind =
      let place = length s - behind in
      rw (length-map s lower) (ap (get_or (map lower s) place) (sym (lower_before 0 (omega arith))) ∙ get_or-map lower s place 0)

  pub thousands_lower : is_thousands (map lower s) ≡ is_thousands s
  thousands_lower =
      rw (
        end_lower 1,
        end_lower 2,
        end_lower 3,
        end_lower 4,
        length-map s lower,
        above_lower (from_end s 1),
        zero_lower (from_end s 2),
        zero_lower (from_end s 3),
        zero_lower (from_end s 4),
      )
