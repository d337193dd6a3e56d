-- What the definitions of a descriptor come to, by how many bytes there are. Assumes nothing.
use Rattle.std.specs.Prelude.{Ok, Err}
use mathlib.Core.Bool.{true, false, ◌&&◌}
use mathlib.Core.List.{List, [], ◌∷◌, ◌++◌}
use mathlib.Core.Path.{◌≡◌, refl, ◌∙◌}
use Prim.Native.Nat.{ℕ, suc, ◌+◌, ◌-◌, ◌≤◌, ◌<◌}
use native.Mathlib.Omega.{arith}
use lib.Dec.{leb, eqb}
use borrow.Rule.Slice.PartMut.{put_mid}
use lib.ListN.{length, get_or, take, drop, set, length-set}
use borrow.Author.Tests.{le-leb, lt-leb}
use Rattle.laws.proofs.Lists.{tail_put, sets_front}
use Rattle.answer.specs.Answer.{bare}
use Rattle.answer.proofs.Answer.{ensure_yes, ensure_no}
use Rattle.address.specs.Address.{is_name, is_rest, is_descriptor, Descriptor, descriptor, reading, writing}

-- a name's rest
pub name_none : (v : List ℕ) → length v ≡ 0 → is_name v ≡ false
unfolding is_name
name_none [] e = refl
name_none (n ∷ v) e = absurd (omega arith)

pub name_some : (v : List ℕ) → 0 < length v → is_name v ≡ (leb 1 (get_or v 0 0) && eqb (length v - 1) (get_or v 0 0 + 2))
unfolding is_name
name_some [] h = absurd (omega arith)
name_some (n ∷ v) h =
    let behind : suc (length v) - 1 ≡ length v = omega arith in
    rw behind refl

-- a value
pub value_none : (v : List ℕ) → length v ≡ 0 → is_descriptor v ≡ false
unfolding is_descriptor
value_none [] e = refl
value_none (kind ∷ rest) e = absurd (omega arith)

pub value_some : (v : List ℕ) → 0 < length v → is_descriptor v ≡ is_rest (get_or v 0 0) (drop 1 v)
unfolding is_descriptor
value_some [] h = absurd (omega arith)
value_some (kind ∷ rest) h = refl

pub value_long : (v : List ℕ) → is_descriptor v ≡ true → 0 < length v
unfolding is_descriptor
value_long [] e = absurd (let z : ◌≡◌ {A = ℕ} 0 1 = cc in omega arith)
value_long (kind ∷ rest) e = omega arith

-- what it is read as
pub reading_no : (v : List ℕ) → is_descriptor v ≡ false → reading v ≡ Err (bare 8)
unfolding is_descriptor reading
reading_no [] e = refl
reading_no (kind ∷ rest) e = ensure_no _ _ _ e

pub reading_yes : (v : List ℕ) → is_descriptor v ≡ true → reading v ≡ Ok (descriptor (get_or v 0 0) (drop 1 v))
unfolding is_descriptor reading
reading_yes [] e = absurd (let z : ◌≡◌ {A = ℕ} 0 1 = cc in omega arith)
reading_yes (kind ∷ rest) e = ensure_yes _ _ _ e

-- the bytes that lie in an output: the type, and the rest copied behind it
pub written : (out q rest : List ℕ) (kind : ℕ) → length rest < length out →
    q ≡ rest ++ drop (length rest) (take (length (set out 0 kind) - 1) (drop 1 (set out 0 kind))) →
    put_mid 1 (length (set out 0 kind) - 1) (set out 0 kind) q ≡ (kind ∷ rest) ++ drop (suc (length rest)) out
written out q rest kind h e =
    let long : length (set out 0 kind) ≡ length out = length-set out 0 kind in
    tail_put (set out 0 kind) rest q 1 (omega (arith, long)) e ∙ sets_front out (kind ∷ rest) (omega arith)

-- what is written
module _ (d : Descriptor) (room : ℕ) where
  pub writing_no : is_rest d.kind d.rest ≡ false → writing d room ≡ Err (bare 8)
  unfolding writing
  writing_no e = ensure_no _ _ _ e

  module _ (right : is_rest d.kind d.rest ≡ true) where
    pub writing_short : room ≤ length d.rest → writing d room ≡ Err (bare 12)
    unfolding writing
    writing_short h = ensure_yes _ _ _ right ∙ ensure_no _ _ _ (lt-leb (suc (length d.rest)) room (omega arith))

    pub writing_fits : length d.rest < room → writing d room ≡ Ok (d.kind ∷ d.rest)
    unfolding writing
    writing_fits h = ensure_yes _ _ _ right ∙ ensure_yes _ _ _ (le-leb (suc (length d.rest)) room (omega arith))
