-- What callers use of the definitions of halves: there and back, what is added, an equation for each answer. Assumes nothing.
use Rattle.std.specs.Prelude.{Some, None, Ok, Err}
use Rattle.std.proofs.Common.{◌≡◌, ℕ, ◌+◌, ◌*◌, ◌/◌, ◌%◌, ◌^◌, ◌<◌, ◌≤◌, length, sym, ap, ◌∙◌, add_assoc, mod-eq_of_lt, div-lt_iff_lt-mul, arith, eq-eqb, ne_eqb, le-leb}
use native.Mathlib.Nat.{mod-add-mod, mod-mod, mul-add-div_right, mul-add-mod_self_right}
use lib.Pow as Pow
use borrow.Author.Tests.{lt-leb}
use Rattle.laws.proofs.Test.{pick_yes, pick_no}
use Rattle.answer.proofs.Answer.{ensure_yes, ensure_no}
use Rattle.answer.specs.Answer.{bare}
use Rattle.halves.specs.Halves.{value, halves, thousandths, decimal, writing}
use Rattle.halves.specs.declared.Halves.{Halves}

-- There and back.

pub value_halves : (n : ℕ) → n < 2 ^ 128 → value (halves n) ≡ n
unfolding halves
value_halves n h = Pow.recompose 64 64 h

pub halves_value : (h : Halves) → h.high < 2 ^ 64 → h.low < 2 ^ 64 → halves (value h) ≡ h
unfolding halves
halves_value h high_fits low_fits = rw (Pow.high h.high 64 low_fits, Pow.low h.high 64 low_fits, mod-eq_of_lt high_fits)

pub value_fits : (h : Halves) → h.high < 2 ^ 64 → h.low < 2 ^ 64 → value h < 2 ^ 128
value_fits h high_fits low_fits = (div-lt_iff_lt-mul {k = 2 ^ 64} {x = value h} {y = 2 ^ 64} (omega arith)).0 (rw (Pow.high h.high 64 low_fits) high_fits)

-- Halves know a number up to 2^128.

value_mod : (n : ℕ) → value (halves n) ≡ n % 2 ^ 128
unfolding halves
value_mod n = sym (Pow.mod-pow-add n 64 64)

halves_mod : (n : ℕ) → halves (n % 2 ^ 128) ≡ halves n
unfolding halves
halves_mod n = rw (Pow.field n 64 64, Pow.mod-mod-pow n 64 64, mod-mod)

-- what is added to the halves of a number is added to it
pub halves_add : (n x : ℕ) → halves (value (halves n) + x) ≡ halves (n + x)
halves_add n x =
    ap (λ (m : ℕ). halves (m + x)) (value_mod n)
    ∙ sym (halves_mod (n % 2 ^ 128 + x))
    ∙ ap halves (mod-add-mod n (2 ^ 128) x)
    ∙ halves_mod (n + x)

-- The carry.

module _ (high low x : ℕ) where
  -- a number added to two halves
  pub carried : halves (high * 2 ^ 64 + low + x) ≡ record { high = (high + (low + x) / 2 ^ 64) % 2 ^ 64; low = (low + x) % 2 ^ 64 }
  unfolding halves
  carried = rw (add_assoc (high * 2 ^ 64) low x, mul-add-div_right {m = 2 ^ 64} (omega arith) high (low + x), mul-add-mod_self_right high (2 ^ 64) (low + x))

-- A thousandth.

pub thousandths_whole : (n : ℕ) → n % 1000 ≡ 0 → thousandths n ≡ Some (n / 1000)
unfolding thousandths
thousandths_whole n h = pick_yes _ _ _ (eq-eqb (n % 1000) 0 h)

pub thousandths_not : (n : ℕ) → (n % 1000 ≡ 0 → ⊥) → thousandths n ≡ None
unfolding thousandths
thousandths_not n h = pick_no _ _ _ (ne_eqb (n % 1000) 0 h)

-- Writing.

pub writing_fits : (n room : ℕ) → length (decimal n) ≤ room → writing n room ≡ Ok (decimal n)
unfolding writing
writing_fits n room h = ensure_yes _ _ _ (le-leb (length (decimal n)) room h)

pub writing_short : (n room : ℕ) → room < length (decimal n) → writing n room ≡ Err (bare 12)
unfolding writing
writing_short n room h = ensure_no _ _ _ (lt-leb (length (decimal n)) room h)
