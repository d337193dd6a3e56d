-- An accepted amount is exact and above zero: document 02 (i). Assumes nothing.
use Rattle.std.specs.Prelude.{Ok}
use mathlib.Core.Path.{◌≡◌, ap, ◌∙◌}
use mathlib.Core.List.{List, [], ◌∷◌}
use Prim.Native.Char.{code}
use Prim.Native.Nat.{ℕ, suc, ◌+◌, ◌*◌, ◌-◌, ◌/◌, ◌%◌, ◌^◌, ◌≤◌, ◌<◌}
use native.Mathlib.Nat.{div-add-mod', mul-pos}
use native.Mathlib.Omega.{arith}
use lib.ListN.{get_or, take, drop}
use borrow.Author.Tests.{eqb-true}
use Rattle.laws.specs.Test.{pick}
use Rattle.laws.proofs.Test.{pick_yes, pick_no, split}
use Rattle.answer.specs.Answer.{mapped}
use Rattle.answer.proofs.Answer.{ensured}
use Rattle.money.specs.Amount.{digit_count, from_decimal, tenth, scaled, valued, amounting}
use Rattle.money.specs.Exact.{unit, Exact}
use Rattle.money.specs.declared.Msat.{Msat}
use Rattle.money.specs.Units.{msat}
use Rattle.money.proofs.Accepted.{accepted_spelled}
use Rattle.money.proofs.AmountLaws.{tenth_exact, valued_p, amounting_valued}
use Rattle.money.proofs.DigitLaws.{decimal_few, decimal_above, decimal_last}

-- a tenth is exact
tenth_back : (n v : ℕ) → tenth n ≡ Ok v → 10 * v ≡ n
unfolding tenth
tenth_back n v h =
    let e = ensured _ _ _ v h in
    let is : n / 10 ≡ v = cc e.rest in
    rw (← is) (omega (arith, div-add-mod' n 10, eqb-true (n % 10) 0 e.holds))

-- ten times the value is the number times its unit, and there is such a unit
scaled_unit : (n : ℕ) (cs : List ℕ) (v : ℕ) → scaled n cs ≡ Ok v → (10 * v ≡ n * unit cs) × (1 ≤ unit cs)
unfolding scaled unit
scaled_unit n [] v h = let is : n * 100_000_000_000 ≡ v = cc h in omega arith
scaled_unit n (c ∷ []) v h =
    split _ _ _ _ h (λ e h₀. rw (pick_yes _ _ _ e) (let is : n * 100_000_000 ≡ v = cc h₀ in omega arith)) λ no-m h₁.
    split _ _ _ _ h₁ (λ e h₀. rw (pick_no _ _ _ no-m, pick_yes _ _ _ e) (let is : n * 100_000 ≡ v = cc h₀ in omega arith)) λ no-u h₂.
    split _ _ _ _ h₂ (λ e h₀. rw (pick_no _ _ _ no-m, pick_no _ _ _ no-u, pick_yes _ _ _ e) (let is : n * 100 ≡ v = cc h₀ in omega arith)) λ no-n h₃.
    split _ _ _ _ h₃ (λ e h₀. rw (pick_no _ _ _ no-m, pick_no _ _ _ no-u, pick_no _ _ _ no-n, pick_yes _ _ _ e) (omega (arith, tenth_back n v h₀))) λ _ h₄.
    absurd (let z : ◌≡◌ {A = ℕ} 0 1 = cc in omega arith)
scaled_unit n (c ∷ d ∷ cs) v h = absurd (let z : ◌≡◌ {A = ℕ} 0 1 = cc in omega arith)

-- the last digit of an amount
last_digit : (text : List ℕ) → 1 ≤ digit_count text → get_or text (digit_count text - 1) 0 ≡ code "0" + from_decimal (take (digit_count text) text) % 10
last_digit text some =
    let count : suc (digit_count text - 1) ≡ digit_count text = omega arith in
    rw count at (decimal_last text (digit_count text - 1) (omega arith))

module _ (text : List ℕ) (m : Msat) (h : amounting text ≡ Ok m) where
  -- Of an accepted amount ten times the millisatoshi is the number times its unit, and it is at least 1.
  pub accepted_exact : Exact text m
  accepted_exact =
      let s = accepted_spelled text m h in
      let u = scaled_unit _ _ _ s.value in
      let number = decimal_above text (digit_count text) s.some (omega arith) s.first in
      record { tenfold = u.0; above_zero = omega (arith, u.0, mul-pos number u.1) }

  -- With the letter p its last digit is 0.
  pub accepted_last : drop (digit_count text) text ≡ code "p" ∷ [] → get_or text (digit_count text - 1) 0 ≡ code "0"
  unfolding scaled pick
  accepted_last p =
      let s = accepted_spelled text m h in
      omega (arith, last_digit text s.some, tenth_back (from_decimal (take (digit_count text) text)) m.0 (rw p at s.value))

-- And whatever ends so is accepted: 1 to 19 digits without leading zero, the last of them 0, and p.
pub last_accepted : (text : List ℕ) → 1 ≤ digit_count text → digit_count text ≤ 19 → (get_or text 0 0 ≡ code "0" → ⊥) → drop (digit_count text) text ≡ code "p" ∷ [] →
    get_or text (digit_count text - 1) 0 ≡ code "0" → (m : Msat) × (amounting text ≡ Ok m)
last_accepted text some few first p last =
    let n = from_decimal (take (digit_count text) text) in
    let whole : n % 10 ≡ 0 = omega (arith, last_digit text some, last) in
    let below : n < 2 ^ 64 = omega (arith, decimal_few 19 text (digit_count text) (omega arith) few) in
    (msat (n / 10), amounting_valued text some few first ∙ ap (valued n) p ∙ valued_p n below ∙ ap (mapped msat) (tenth_exact n whole))
