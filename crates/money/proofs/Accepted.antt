-- What an accepted amount says: its digits, the letter behind them, its characters and its value. Assumes nothing.
use Rattle.std.specs.Prelude.{Ok}
use mathlib.Core.Path.{◌≡◌, refl, ap}
use mathlib.Core.Bool.{true}
use mathlib.Core.List.{List, [], ◌∷◌}
use mathlib.Core.Logic.{◌⊎◌, inl, inr}
use Prim.Native.Char.{code}
use Prim.Native.Nat.{ℕ, ◌+◌, ◌-◌, ◌^◌, ◌≤◌, ◌<◌}
use native.Mathlib.Omega.{arith}
use lib.ListN.{length, get_or, take, drop, length-drop}
use lib.Seq.{get_or-drop}
use borrow.Author.Tests.{leb-true, eqb-true, eqb-false, not-true}
use Rattle.laws.proofs.Test.{split, by_order}
use Rattle.answer.proofs.Answer.{both, ensured}
use Rattle.money.specs.Amount.{is_digit, digit_count, from_decimal, scaled, capped, valued, amounting}
use Rattle.money.specs.Units.{msat}
use Rattle.money.specs.declared.Msat.{Msat}
use Rattle.money.proofs.DigitLaws.{digit_at, count_le}

-- m, u, n or p
abbrev pub IsLetter : ℕ → Type 0
IsLetter c = (c ≡ code "m") ⊎ ((c ≡ code "u") ⊎ ((c ≡ code "n") ⊎ (c ≡ code "p")))

-- 1 to 19 digits without leading zero, their number with the letter as value, and the cap
pub record Spelled (t : List ℕ) (m : Msat) : Type 0 where
  pub some : 1 ≤ digit_count t
  pub few : digit_count t ≤ 19
  pub first : get_or t 0 0 ≡ code "0" → ⊥
  pub value : scaled (from_decimal (take (digit_count t) t)) (drop (digit_count t) t) ≡ Ok m.0
  pub cap : m.0 ≤ 2_100_000_000_000_000_000

-- no letter, or one
pub data Letter (cs : List ℕ) : Type 0 where
  none : cs ≡ [] → Letter cs
  one : (c : ℕ) → cs ≡ c ∷ [] → IsLetter c → Letter cs

pub scaled_letter : (n : ℕ) (cs : List ℕ) (v : ℕ) → scaled n cs ≡ Ok v → Letter cs
unfolding scaled
scaled_letter n [] v h = none refl
scaled_letter n (c ∷ []) v h =
    split _ _ _ _ h (λ e _. one c refl (inl (eqb-true c 109 e))) λ _ h₁.
    split _ _ _ _ h₁ (λ e _. one c refl (inr (inl (eqb-true c 117 e)))) λ _ h₂.
    split _ _ _ _ h₂ (λ e _. one c refl (inr (inr (inl (eqb-true c 110 e))))) λ _ h₃.
    split _ _ _ _ h₃ (λ e _. one c refl (inr (inr (inr (eqb-true c 112 e))))) λ _ h₄.
    absurd (let z : ◌≡◌ {A = ℕ} 0 1 = cc in omega arith)
scaled_letter n (c ∷ d ∷ cs) v h = absurd (let z : ◌≡◌ {A = ℕ} 0 1 = cc in omega arith)

letter_short : (cs : List ℕ) → Letter cs → length cs ≤ 1
letter_short cs (none e) = omega (arith, ap length e)
letter_short cs (one c e l) = omega (arith, ap length e)

letter_at : (cs : List ℕ) (k : ℕ) → k < length cs → Letter cs → IsLetter (get_or cs k 0)
letter_at cs k h (none e) = absurd (omega (arith, ap length e))
letter_at cs k h (one c e l) =
    let is : k ≡ 0 = omega (arith, ap length e) in
    rw (is, e) l

module _ (t : List ℕ) (m : Msat) (h : amounting t ≡ Ok m) where
  pub accepted_spelled : Spelled t m
  unfolding amounting valued capped
  accepted_spelled =
      let a = ensured _ _ _ m h in
      let b = ensured _ _ _ m a.rest in
      let c = ensured _ _ _ m b.rest in
      let d = both _ _ m c.rest in
      let e = ensured _ _ _ m d.second in
      let is : msat d.is ≡ m = cc e.rest in
      record {
        some = leb-true 1 (digit_count t) a.holds;
        few = leb-true (digit_count t) 19 b.holds;
        first = eqb-false (get_or t 0 0) 48 (not-true _ c.holds);
        value = rw (← is) d.first;
        cap = rw (← is) (leb-true d.is 2_100_000_000_000_000_000 e.holds);
      }

  pub accepted_letter : Letter (drop (digit_count t) t)
  accepted_letter = scaled_letter _ _ _ accepted_spelled.value

  -- the value leaves room for a sign
  pub accepted_below : m.0 < 2 ^ 63
  accepted_below = omega (arith, accepted_spelled.cap)

  pub accepted_length : (1 ≤ length t) × (length t ≤ 20)
  accepted_length =
      let s = accepted_spelled in
      let l = letter_short _ accepted_letter in
      omega (arith, count_le t, length-drop (digit_count t) t)

  pub accepted_characters : (k : ℕ) → k < length t → (is_digit (get_or t k 0) ≡ true) ⊎ IsLetter (get_or t k 0)
  accepted_characters k within =
      by_order k (digit_count t) (λ below. inl (digit_at t k below)) λ from.
      let is : digit_count t + (k - digit_count t) ≡ k = omega arith in
      let l : IsLetter (get_or (drop (digit_count t) t) (k - digit_count t) 0) = letter_at _ _ (omega (arith, length-drop (digit_count t) t)) accepted_letter in
      inr (rw (get_or-drop, is) at l)
