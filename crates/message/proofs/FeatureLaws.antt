-- The joined feature maps: their length, their bytes, and whether they fit. Assumes nothing.
use Rattle.std.specs.Prelude.{Ok, Err}
use mathlib.Core.Path.{◌≡◌, refl, sym, ap, ◌∙◌}
use mathlib.Core.List.{List, [], ◌∷◌, ◌++◌, zip_with}
use Prim.Native.Nat.{ℕ, zero, suc, ◌+◌, ◌-◌, ◌≤◌, ◌<◌, max}
use native.Mathlib.Numerals.{add-one}
use native.Mathlib.Omega.{arith}
use lib.Bits.{bit_or}
use lib.ListN.{length, get_or, drop, set, replicate, length-append, length-replicate, get_or-replicate, get_or-append}
use lib.Seq.{sets, drop-cons, get_or-append-add}
use Rattle.answer.proofs.Answer.{fitting_fits, fitting_short}
use Rattle.answer.specs.Answer.{bare}
use Rattle.message.specs.Features.{padded, joined, joining}

-- A map with zero bytes in front.

pub length_padded : (n : ℕ) (l : List ℕ) → length l ≤ n → length (padded n l) ≡ n
unfolding padded
length_padded n l h = omega (arith, length-append (replicate (n - length l) 0) l, length-replicate {A = ℕ} (n - length l) 0)

pub padded_zero : (n i : ℕ) (l : List ℕ) → i < n - length l → get_or (padded n l) i 0 ≡ 0
unfolding padded
padded_zero n i l h =
    get_or-append (replicate (n - length l) 0) l 0 i (omega (arith, length-replicate {A = ℕ} (n - length l) 0))
    ∙ get_or-replicate (n - length l) i 0 0 h

pub padded_byte : (n i : ℕ) (l : List ℕ) → n - length l ≤ i → get_or (padded n l) i 0 ≡ get_or l (i - (n - length l)) 0
unfolding padded
padded_byte n i l h =
    let zeros = replicate {A = ℕ} (n - length l) 0 in
    let at : i ≡ length zeros + (i - (n - length l)) = omega (arith, length-replicate {A = ℕ} (n - length l) 0) in
    ap (λ (k : ℕ). get_or (zeros ++ l) k 0) at ∙ get_or-append-add zeros l (i - (n - length l)) 0

-- Two lists of one length, byte by byte.

length_zip : (a b : List ℕ) → length a ≡ length b → length (zip_with bit_or a b) ≡ length a
unfolding zip_with
length_zip [] b e = refl
length_zip (x ∷ a) [] e = absurd (omega arith)
length_zip (x ∷ a) (y ∷ b) e = ap suc (length_zip a b (omega arith))

get_d_zip : (a b : List ℕ) (i : ℕ) → i < length a → i < length b → get_or (zip_with bit_or a b) i 0 ≡ bit_or (get_or a i 0) (get_or b i 0)
unfolding zip_with
get_d_zip [] b i h k = absurd (omega arith)
get_d_zip (x ∷ a) [] i h k = absurd (omega arith)
get_d_zip (x ∷ a) (y ∷ b) zero h k = refl
get_d_zip (x ∷ a) (y ∷ b) (suc i) h k = get_d_zip a b i (omega arith) (omega arith)

-- The joined maps.

module _ (a b : List ℕ) where
  pub length_joined : length (joined a b) ≡ max (length a) (length b)
  unfolding joined
  length_joined =
      let n = max (length a) (length b) in
      let p = length_padded n a (omega arith) in
      length_zip (padded n a) (padded n b) (p ∙ sym (length_padded n b (omega arith))) ∙ p

  pub joined_byte : (i : ℕ) → i < max (length a) (length b) →
      get_or (joined a b) i 0 ≡ bit_or (get_or (padded (max (length a) (length b)) a) i 0) (get_or (padded (max (length a) (length b)) b) i 0)
  unfolding joined
  joined_byte i h =
      let n = max (length a) (length b) in
      get_d_zip (padded n a) (padded n b) i (omega (arith, length_padded n a (omega arith))) (omega (arith, length_padded n b (omega arith)))

  pub joining_fits : (room : ℕ) → max (length a) (length b) ≤ room → joining a b room ≡ Ok (joined a b)
  joining_fits room h = fitting_fits length room (Ok (joined a b)) (joined a b) refl (omega (arith, length_joined))

  pub joining_short : (room : ℕ) → room < max (length a) (length b) → joining a b room ≡ Err (bare 12)
  joining_short room h = fitting_short length room (Ok (joined a b)) (joined a b) refl (omega (arith, length_joined))

-- one byte put: what is left is put behind it
pub put_next : (l bytes : List ℕ) (i x : ℕ) → i < length bytes → x ≡ get_or bytes i 0 → sets (set l i x) (i + 1) (drop (i + 1) bytes) ≡ sets l i (drop i bytes)
put_next l bytes i x h e = rw (drop-cons bytes i 0 h, e, add-one)
