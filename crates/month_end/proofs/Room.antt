-- 39 bytes are room enough for the digits of every sum. Assumes nothing.
use Rattle.std.specs.Prelude.{Ok, Err}
use Rattle.std.proofs.Common.{◌≡◌, ℕ, zero, suc, ◌/◌, ◌≤◌, length, sym, ap, ◌∙◌, lt_of_not-le, arith, length-append}
use native.Mathlib.Decide.{dec_le}
use Rattle.answer.specs.Answer.{Answer, mapped}
use Rattle.answer.specs.declared.Refusal.{Refusal}
use Rattle.halves.specs.Halves.{digits, decimal, writing}
use Rattle.halves.proofs.DigitLaws.{digits_one, digits_more}
use Rattle.halves.proofs.Laws.{writing_fits}

few : (most n : ℕ) → length (digits most n) ≤ most
unfolding digits
few zero n = omega arith
few (suc most) n =
    elim (dec_le 1 (n / 10)) [
      | yes more ↦ rw (digits_more most n (λ e. omega arith), length-append (digits most (n / 10))) (omega (arith, few most (n / 10)))
      | no one ↦ rw (digits_one most n (omega (arith, lt_of_not-le one))) (omega arith)
    ]

module _ (n room : ℕ) (long : 39 ≤ room) (w : Answer ℕ) (answer : w ≡ mapped length (writing n room)) where
  all_written : w ≡ Ok (length (decimal n))
  all_written = answer ∙ ap (mapped length) (writing_fits n room (omega (arith, few 39 n)))

  pub never_12 : (r : Refusal) → w ≡ Err r → ⊥
  never_12 r told =
      let e : Err r ≡ Ok (length (decimal n)) = sym (told) ∙ all_written in
      let z : ◌≡◌ {A = ℕ} 0 1 = cc in
      omega arith
