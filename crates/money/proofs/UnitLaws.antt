-- What callers use of the units: an equation for each answer of the conversion, and what an accepted one says. Assumes nothing.
use Rattle.std.specs.Prelude.{Ok, Err}
use mathlib.Core.Path.{◌≡◌}
use Prim.Native.Nat.{ℕ, ◌*◌, ◌/◌, ◌%◌}
use native.Mathlib.Omega.{arith}
use native.Mathlib.Nat.{div-add-mod'}
use borrow.Author.Tests.{eq-eqb, ne_eqb, eqb-true}
use Rattle.answer.specs.Answer.{bare}
use Rattle.answer.proofs.Answer.{ensure_yes, ensure_no, ensured}
use Rattle.money.specs.Units.{msat, sat, to_sat}
use Rattle.money.specs.declared.Sat.{Sat}

pub to_sat_exact : (n : ℕ) → n % 1000 ≡ 0 → to_sat (msat n) ≡ Ok (sat (n / 1000))
unfolding to_sat
to_sat_exact n h = ensure_yes _ _ _ (eq-eqb (n % 1000) 0 h)

pub to_sat_not : (n : ℕ) → (n % 1000 ≡ 0 → ⊥) → to_sat (msat n) ≡ Err (bare 43)
unfolding to_sat
to_sat_not n h = ensure_no _ _ _ (ne_eqb (n % 1000) 0 h)

-- a satoshi count is a thousandth of the millisatoshi count, to the last one
pub to_sat_back : (n : ℕ) (s : Sat) → to_sat (msat n) ≡ Ok s → n ≡ s.0 * 1000
unfolding to_sat
to_sat_back n s h =
    let e = ensured _ _ _ s h in
    let is : sat (n / 1000) ≡ s = cc e.rest in
    rw (← is) (omega (arith, div-add-mod' n 1000, eqb-true (n % 1000) 0 e.holds))
