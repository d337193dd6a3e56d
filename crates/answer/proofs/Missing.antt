-- Laws of how many bytes are missing. Assumes nothing.
use mathlib.Core.Bool.{true, false}
use mathlib.Core.Path.{◌≡◌}
use Prim.Native.Nat.{ℕ, ◌<◌}
use native.Mathlib.Decide.{dec_le}
use native.Mathlib.Nat.{lt_of_not-le}
use native.Mathlib.Omega.{arith}
use borrow.Author.Tests.{ne_eqb}
use Rattle.answer.specs.declared.Refusal.{Refusal}
use Rattle.answer.specs.Answer.{lacking}
use Rattle.answer.specs.Missing.{is_cut, CutShort, Counted}

-- one of what is cut short, with some missing
pub some_missing : (n p k m : ℕ) → CutShort (lacking n p k m) → 0 < m → Counted (lacking n p k m)
some_missing n p k m cut some = (λ _. cut, λ _. some)

-- the numbers of what is cut short are small
pub cut_below : (n : ℕ) → is_cut n ≡ true → n < 14
cut_below n cut =
    elim (dec_le 14 n) [
      | yes h ↦ absurd
          (let k : false ≡ true = rw (ne_eqb n 1 (λ e. omega arith), ne_eqb n 4 (λ e. omega arith), ne_eqb n 6 (λ e. omega arith), ne_eqb n 13 (λ e. omega arith)) at cut in
          let z : ◌≡◌ {A = ℕ} 0 1 = cc in
          omega arith)
      | no h ↦ lt_of_not-le h
    ]

-- nothing is missing, and it is none of what is cut short
abbrev pub Whole : Refusal → Type 0
Whole r = (is_cut r.number ≡ false) × (r.missing ≡ 0)

pub whole_uncut : (r : Refusal) → Whole r → CutShort r → ⊥
whole_uncut r h cut = let e = h.0 in let z : ◌≡◌ {A = ℕ} 0 1 = cc in omega arith

pub whole_counted : (r : Refusal) → Whole r → Counted r
whole_counted r h = (λ some. absurd (omega (arith, h.1)), λ cut. absurd (whole_uncut r h cut))
