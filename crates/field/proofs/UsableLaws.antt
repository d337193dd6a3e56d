-- Which fields are usable, type by type. Assumes nothing.
use mathlib.Core.Bool.{◌&&◌}
use mathlib.Core.Path.{◌≡◌, refl}
use Prim.Native.Nat.{ℕ, ◌%◌}
use lib.Dec.{leb, eqb}
use Rattle.laws.specs.Test.{pick}
use Rattle.field.specs.Fields.{whole_bytes, usable}

module _ (size : ℕ) where
  pub usable_p : usable 1 size ≡ eqb size 52
  unfolding usable pick
  usable_p = refl

  pub usable_h : usable 23 size ≡ eqb size 52
  unfolding usable pick
  usable_h = refl

  pub usable_n : usable 19 size ≡ eqb size 53
  unfolding usable pick
  usable_n = refl

  pub usable_x : usable 6 size ≡ leb size 12
  unfolding usable pick
  usable_x = refl

  pub usable_c : usable 24 size ≡ leb size 12
  unfolding usable pick
  usable_c = refl

  pub usable_r : usable 3 size ≡ leb 1 (whole_bytes size) && eqb (whole_bytes size % 51) 0
  unfolding usable pick
  usable_r = refl
