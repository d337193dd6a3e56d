-- The laws of a test. Assumes nothing.
use mathlib.Core.Path.{◌≡◌, refl}
use mathlib.Core.Bool.{Bool, true, false, ◌&&◌}
use Prim.Native.Nat.{ℕ, ◌≤◌, ◌<◌}
use native.Mathlib.Decide.{dec_le}
use native.Mathlib.Nat.{lt_of_not-le}
use native.Mathlib.Omega.{arith}
use Rattle.laws.specs.Test.{pick}

pub pick_yes : {A : Type 0} (c : Bool) (x y : A) → c ≡ true → pick c x y ≡ x
unfolding pick
pick_yes c x y h = rw h

pub pick_no : {A : Type 0} (c : Bool) (x y : A) → c ≡ false → pick c x y ≡ y
unfolding pick
pick_no c x y h = rw h

-- a function goes inside
pub pick_ap : {A B : Type 0} (f : A → B) (c : Bool) (x y : A) → f (pick c x y) ≡ pick c (f x) (f y)
unfolding pick
pick_ap f true x y = refl
pick_ap f false x y = refl

-- from what a test gives to which way it went
pub split {ℓ} : {A : Type 0} {G : Type ℓ} (c : Bool) (x y z : A) → pick c x y ≡ z → (c ≡ true → x ≡ z → G) → (c ≡ false → y ≡ z → G) → G
unfolding pick
split true x y z h f g = f refl h
split false x y z h f g = g refl h

-- what holds both ways
pub pick_all {ℓ} : {A : Type 0} (G : A → Type ℓ) (c : Bool) (x y : A) → (c ≡ true → G x) → (c ≡ false → G y) → G (pick c x y)
unfolding pick
pick_all G true x y f g = f refl
pick_all G false x y f g = g refl

-- one order of two numbers or the other
pub by_order {ℓ} : {G : Type ℓ} (a b : ℕ) → (a < b → G) → (b ≤ a → G) → G
by_order a b f g = elim (dec_le b a) [ yes h ↦ g h | no h ↦ f (lt_of_not-le h) ]

-- by the outcome of a test
pub by_test {ℓ} : {G : Type ℓ} (b : Bool) → (b ≡ true → G) → (b ≡ false → G) → G
by_test true f g = f refl
by_test false f g = g refl

-- two tests of which both hold
pub and_true : (a b : Bool) → (a && b) ≡ true → (a ≡ true) × (b ≡ true)
and_true true b h = (refl, h)
and_true false b h = absurd (let z : ◌≡◌ {A = ℕ} 0 1 = cc in omega arith)

pub and_both : (a b : Bool) → a ≡ true → b ≡ true → (a && b) ≡ true
and_both a b h k = rw (h, k)
