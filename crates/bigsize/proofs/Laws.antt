-- What callers use of the definitions of BigSize: an equation for each case. Assumes nothing.
use Rattle.std.specs.Prelude.{Ok, Err, None, Some}
use mathlib.Core.Path.{◌≡◌, refl, sym, ap, ◌∙◌}
use mathlib.Core.List.{List, [], ◌∷◌, ◌++◌}
use mathlib.Core.Logic.{◌⊎◌, inl, inr}
use Prim.Native.Nat.{ℕ, suc, ◌+◌, ◌-◌, ◌*◌, ◌%◌, ◌^◌, ◌≤◌, ◌<◌}
use native.Mathlib.Omega.{arith}
use lib.Dec.{ltb, leb}
use lib.ListN.{length, get_or, take, drop, length-append, length-drop}
use lib.Seq.{sets, take-append-le}
use borrow.Author.Tests.{leb-true, lt-ltb, le-ltb, le-leb, lt-leb, eq-eqb, ne_eqb}
use Rattle.laws.specs.Digits.{from_bytes, to_bytes}
use Rattle.laws.specs.Test.{pick}
use Rattle.laws.proofs.Digits.{length_digits}
use Rattle.laws.proofs.Lists.{sets_front}
use Rattle.laws.proofs.Test.{pick_yes, pick_no, split, pick_all, by_order}
use Rattle.answer.proofs.Answer.{not_refused, ensure_yes, ensure_no, ensure_all}
use Rattle.answer.specs.Answer.{Answer, lacking, bare, mapped, filled}
use Rattle.bigsize.specs.BigSize.{number, shortest, at_least, spelled, reading, missing_in, peeked, peeking, writing}
use Rattle.answer.specs.declared.Refusal.{Refusal}
use Rattle.bigsize.specs.declared.Number.{Number}
use Rattle.std.specs.Result.{result_ok}

-- The shortest form.

pub shortest_1 : (v : ℕ) → v < 253 → shortest v ≡ v ∷ []
unfolding shortest
shortest_1 v h = pick_yes _ _ _ (lt-ltb v 253 h)

pub shortest_3 : (v : ℕ) → 253 ≤ v → v < 65536 → shortest v ≡ 253 ∷ to_bytes 2 v
unfolding shortest
shortest_3 v l h = pick_no _ _ _ (le-ltb v 253 l) ∙ pick_yes _ _ _ (lt-ltb v 65536 h)

pub shortest_5 : (v : ℕ) → 65536 ≤ v → v < 2 ^ 32 → shortest v ≡ 254 ∷ to_bytes 4 v
unfolding shortest
shortest_5 v l h =
    pick_no _ _ _ (le-ltb v 253 (omega arith)) ∙ pick_no _ _ _ (le-ltb v 65536 l) ∙ pick_yes _ _ _ (lt-ltb v (2 ^ 32) h)

pub shortest_9 : (v : ℕ) → 2 ^ 32 ≤ v → shortest v ≡ 255 ∷ to_bytes 8 v
unfolding shortest
shortest_9 v l =
    pick_no _ _ _ (le-ltb v 253 (omega arith)) ∙ pick_no _ _ _ (le-ltb v 65536 (omega arith)) ∙ pick_no _ _ _ (le-ltb v (2 ^ 32) l)

-- The width: 1, 3, 5 or 9.

pub width_1 : (v : ℕ) → v < 253 → length (shortest v) ≡ 1
width_1 v h = rw (shortest_1 v h)

pub width_3 : (v : ℕ) → 253 ≤ v → v < 65536 → length (shortest v) ≡ 3
width_3 v l h = rw (shortest_3 v l h, length_digits 8 2 v)

pub width_5 : (v : ℕ) → 65536 ≤ v → v < 2 ^ 32 → length (shortest v) ≡ 5
width_5 v l h = rw (shortest_5 v l h, length_digits 8 4 v)

pub width_9 : (v : ℕ) → 2 ^ 32 ≤ v → length (shortest v) ≡ 9
width_9 v l = rw (shortest_9 v l, length_digits 8 8 v)

pub width_le : (v : ℕ) → length (shortest v) ≤ 9
width_le v =
    by_order v 253 (λ h. omega (arith, width_1 v h)) λ a.
    by_order v 65536 (λ h. omega (arith, width_3 v a h)) λ b.
    by_order v (2 ^ 32) (λ h. omega (arith, width_5 v b h)) λ c.
    omega (arith, width_9 v c)

-- Writing.

pub writing_fits : (v room : ℕ) → length (shortest v) ≤ room → writing v room ≡ Ok (shortest v)
unfolding writing
writing_fits v room h = ensure_yes _ _ _ (le-leb (length (shortest v)) room h)

pub writing_short : (v room : ℕ) → room < length (shortest v) → writing v room ≡ Err (bare 12)
unfolding writing
writing_short v room h = ensure_no _ _ _ (lt-leb (length (shortest v)) room h)

-- what an accepted writing says
pub written_fits : (v room w : ℕ) → Ok w ≡ mapped length (writing v room) → (w ≡ length (shortest v)) × (w ≤ room)
written_fits v room w h =
    by_order room (length (shortest v))
    (λ short. absurd (let k : Ok w ≡ Err (bare 12) = rw (writing_short v room short) at h in let z : ◌≡◌ {A = ℕ} 0 1 = cc in omega arith))
    (λ fits.
    let k : Ok w ≡ Ok (length (shortest v)) = rw (writing_fits v room fits) at h in
    let is : w ≡ length (shortest v) = cc in
    (is, omega arith))

-- the shortest form, known as `form`, stored at the front
pub laid : (v : ℕ) (form l : List ℕ) → shortest v ≡ form → length (shortest v) ≤ length l →
    sets l 0 form ≡ filled (Ok (shortest v)) l
laid v form l e h = rw e (sets_front l form (rw e at h))

-- Reading, over the number n of bytes behind the first one.

pub at_least_yes : (least : ℕ) (x : Number) → least ≤ x.value → at_least least x ≡ Ok x
unfolding at_least
at_least_yes least x h = ensure_yes _ _ _ (le-leb least x.value h)

pub at_least_no : (least : ℕ) (x : Number) → x.value < least → at_least least x ≡ Err (bare 2)
unfolding at_least
at_least_no least x h = ensure_no _ _ _ (lt-leb least x.value h)

module _ (n least : ℕ) (bs : List ℕ) where
  pub spelled_cut : length bs < n → spelled n least bs ≡ Err (lacking 1 0 0 (n - length bs))
  unfolding spelled
  spelled_cut h = ensure_no _ _ _ (lt-leb n (length bs) h)

  pub spelled_whole : n ≤ length bs → spelled n least bs ≡ at_least least (number (from_bytes (take n bs)) (1 + n))
  unfolding spelled
  spelled_whole h = ensure_yes _ _ _ (le-leb n (length bs) h)

-- Reading, by the first byte.

pub reading_nothing : (s : List ℕ) → length s ≡ 0 → reading s ≡ Err (lacking 13 0 0 1)
unfolding reading
reading_nothing [] e = refl
reading_nothing (b ∷ bs) e = absurd (omega arith)

pub reading_1 : (s : List ℕ) → 0 < length s → get_or s 0 0 < 253 → reading s ≡ Ok (number (get_or s 0 0) 1)
unfolding reading
reading_1 [] some h = absurd (omega arith)
reading_1 (b ∷ bs) some h = pick_yes _ _ _ (lt-ltb b 253 h)

pub reading_3 : (s : List ℕ) → get_or s 0 0 ≡ 253 → reading s ≡ spelled 2 253 (drop 1 s)
unfolding reading
reading_3 [] e = absurd (omega arith)
reading_3 (b ∷ bs) e = pick_no _ _ _ (le-ltb b 253 (omega arith)) ∙ pick_yes _ _ _ (eq-eqb b 253 e)

pub reading_5 : (s : List ℕ) → get_or s 0 0 ≡ 254 → reading s ≡ spelled 4 65536 (drop 1 s)
unfolding reading
reading_5 [] e = absurd (omega arith)
reading_5 (b ∷ bs) e =
    pick_no _ _ _ (le-ltb b 253 (omega arith)) ∙ pick_no _ _ _ (ne_eqb b 253 (omega arith)) ∙ pick_yes _ _ _ (eq-eqb b 254 e)

pub reading_9 : (s : List ℕ) → 255 ≤ get_or s 0 0 → reading s ≡ spelled 8 (2 ^ 32) (drop 1 s)
unfolding reading
reading_9 [] h = absurd (omega arith)
reading_9 (b ∷ bs) h =
    pick_no _ _ _ (le-ltb b 253 (omega arith)) ∙ pick_no _ _ _ (ne_eqb b 253 (omega arith)) ∙ pick_no _ _ _ (ne_eqb b 254 (omega arith))

-- Of some bytes a number takes one or more and no more than there are; a refusal is 1 or 2.
abbrev pub Sound : (room : ℕ) → Answer Number → Type 0
Sound room (Ok x) = (1 ≤ x.width) × (x.width ≤ room)
Sound room (Err r) = (r.number ≡ 1) ⊎ (r.number ≡ 2)

spelled_sound : (n least : ℕ) (bs : List ℕ) → Sound (suc (length bs)) (spelled n least bs)
unfolding spelled at_least
spelled_sound n least bs =
    ensure_all (Sound (suc (length bs))) _ _ _
    (λ whole. ensure_all (Sound (suc (length bs))) _ _ _ (λ _. omega (arith, leb-true n (length bs) whole)) (λ _. inr refl))
    (λ _. inl refl)

pub reading_sound : (b : ℕ) (bs : List ℕ) → Sound (suc (length bs)) (reading (b ∷ bs))
unfolding reading
reading_sound b bs =
    pick_all (Sound (suc (length bs))) _ _ _ (λ _. omega arith) λ _.
    pick_all (Sound (suc (length bs))) _ _ _ (λ _. spelled_sound 2 253 bs) λ _.
    pick_all (Sound (suc (length bs))) _ _ _ (λ _. spelled_sound 4 65536 bs) λ _.
    spelled_sound 8 (2 ^ 32) bs

pub reading_width : (s : List ℕ) (x : Number) → reading s ≡ Ok x → (1 ≤ x.width) × (x.width ≤ length s)
unfolding reading
reading_width [] x h = absurd (let z : ◌≡◌ {A = ℕ} 0 1 = cc in omega arith)
reading_width (b ∷ bs) x h = rw h at (reading_sound b bs)

-- Peeking, by the first byte.

module _ (n : ℕ) (bs : List ℕ) where
  peeked_cut : length bs < n → peeked n bs ≡ number 0 0
  unfolding peeked
  peeked_cut h = pick_no _ _ _ (lt-leb n (length bs) h)

  peeked_whole : n ≤ length bs → peeked n bs ≡ number (from_bytes (take n bs)) (1 + n)
  unfolding peeked
  peeked_whole h = pick_yes _ _ _ (le-leb n (length bs) h)

pub peeking_nothing : (s : List ℕ) → length s ≡ 0 → peeking s ≡ number 0 0
unfolding peeking
peeking_nothing [] e = refl
peeking_nothing (b ∷ bs) e = absurd (omega arith)

pub peeking_1 : (s : List ℕ) → 0 < length s → get_or s 0 0 < 253 → peeking s ≡ number (get_or s 0 0) 1
unfolding peeking
peeking_1 [] some h = absurd (omega arith)
peeking_1 (b ∷ bs) some h = pick_yes _ _ _ (lt-ltb b 253 h)

pub peeking_3 : (s : List ℕ) → get_or s 0 0 ≡ 253 → peeking s ≡ peeked 2 (drop 1 s)
unfolding peeking
peeking_3 [] e = absurd (omega arith)
peeking_3 (b ∷ bs) e = pick_no _ _ _ (le-ltb b 253 (omega arith)) ∙ pick_yes _ _ _ (eq-eqb b 253 e)

pub peeking_5 : (s : List ℕ) → get_or s 0 0 ≡ 254 → peeking s ≡ peeked 4 (drop 1 s)
unfolding peeking
peeking_5 [] e = absurd (omega arith)
peeking_5 (b ∷ bs) e =
    pick_no _ _ _ (le-ltb b 253 (omega arith)) ∙ pick_no _ _ _ (ne_eqb b 253 (omega arith)) ∙ pick_yes _ _ _ (eq-eqb b 254 e)

pub peeking_9 : (s : List ℕ) → 255 ≤ get_or s 0 0 → peeking s ≡ peeked 8 (drop 1 s)
unfolding peeking
peeking_9 [] h = absurd (omega arith)
peeking_9 (b ∷ bs) h =
    pick_no _ _ _ (le-ltb b 253 (omega arith)) ∙ pick_no _ _ _ (ne_eqb b 253 (omega arith)) ∙ pick_no _ _ _ (ne_eqb b 254 (omega arith))

-- a first byte that calls for n bytes behind it
module _ (s : List ℕ) (n : ℕ) (form : peeking s ≡ peeked n (drop 1 s)) where
  pub peeking_cut : 0 < n → length s < 1 + n → peeking s ≡ number 0 0
  peeking_cut some h = form ∙ peeked_cut n (drop 1 s) (simp length-drop (omega arith))

  pub peeking_whole : (v : ℕ) → v ≡ from_bytes (take n (drop 1 s)) → 1 + n ≤ length s → peeking s ≡ number v (1 + n)
  peeking_whole v e h = rw e (form ∙ peeked_whole n (drop 1 s) (simp length-drop (omega arith)))

-- a first byte of 253 or more before fewer than two bytes, and one of 254 or more before fewer than four
pub peeking_below3 : (s : List ℕ) → 253 ≤ get_or s 0 0 → length s < 3 → peeking s ≡ number 0 0
peeking_below3 s h short =
    by_order (get_or s 0 0) 254 (λ a. peeking_cut s 2 (peeking_3 s (omega arith)) (omega arith) (omega arith)) λ a.
    by_order (get_or s 0 0) 255 (λ b. peeking_cut s 4 (peeking_5 s (omega arith)) (omega arith) (omega arith)) λ b.
    peeking_cut s 8 (peeking_9 s b) (omega arith) (omega arith)

pub peeking_below5 : (s : List ℕ) → 254 ≤ get_or s 0 0 → length s < 5 → peeking s ≡ number 0 0
peeking_below5 s h short =
    by_order (get_or s 0 0) 255 (λ b. peeking_cut s 4 (peeking_5 s (omega arith)) (omega arith) (omega arith)) λ b.
    peeking_cut s 8 (peeking_9 s b) (omega arith) (omega arith)

-- What is read by what is peeked, where it is not cut short: 2 where the shortest form is shorter, else the number itself.
abbrev told : Number → Answer Number
told x = pick (ltb (length (shortest x.value)) x.width) (Err (bare 2)) (Ok x)

-- by a first byte that calls for n bytes, which are too many for a number below `least` and for no other one
module _ (s : List ℕ) (n least : ℕ) (read : reading s ≡ spelled n least (drop 1 s)) (peek : peeking s ≡ peeked n (drop 1 s)) where
  told_form : ((peeking s).width ≡ 0 → ⊥) → ((v : ℕ) → v < least → length (shortest v) < 1 + n) → ((v : ℕ) → least ≤ v → 1 + n ≤ length (shortest v)) →
      reading s ≡ told (peeking s)
  told_form any long short =
      by_order (length (drop 1 s)) n
      (λ cut. absurd (any (rw (peek, peeked_cut n (drop 1 s) cut))))
      (λ whole.
      rw (peek, peeked_whole n (drop 1 s) whole)
      (read
      ∙ spelled_whole n least (drop 1 s) whole
      ∙ by_order (from_bytes (take n (drop 1 s))) least
      (λ low. at_least_no least _ low ∙ sym (pick_yes _ _ _ (lt-ltb _ _ (long _ low))))
      (λ high. at_least_yes least _ high ∙ sym (pick_no _ _ _ (le-ltb _ _ (short _ high))))))

  -- where it is cut short
  pub reading_cut : (peeking s).width ≡ 0 → (length s - 1 < n) × (reading s ≡ Err (lacking 1 0 0 (n - (length s - 1))))
  reading_cut none =
      by_order (length (drop 1 s)) n
      (λ cut. (omega (arith, length-drop 1 s), rw (← length-drop 1 s) (read ∙ spelled_cut n least (drop 1 s) cut)))
      (λ whole. absurd (let w : 1 + n ≡ 0 = sym (ap (λ x. x.width) (peek ∙ peeked_whole n (drop 1 s) whole)) ∙ none in omega arith))

-- the widths of numbers below a form's least one, and from it on
below_3 : (v : ℕ) → v < 253 → length (shortest v) < 3
below_3 v h = omega (arith, width_1 v h)

from_3 : (v : ℕ) → 253 ≤ v → 3 ≤ length (shortest v)
from_3 v h =
    by_order v 65536 (λ a. omega (arith, width_3 v h a)) λ a.
    by_order v (2 ^ 32) (λ b. omega (arith, width_5 v a b)) λ b.
    omega (arith, width_9 v b)

below_5 : (v : ℕ) → v < 65536 → length (shortest v) < 5
below_5 v h = by_order v 253 (λ a. omega (arith, width_1 v a)) λ a. omega (arith, width_3 v a h)

from_5 : (v : ℕ) → 65536 ≤ v → 5 ≤ length (shortest v)
from_5 v h = by_order v (2 ^ 32) (λ b. omega (arith, width_5 v h b)) λ b. omega (arith, width_9 v b)

below_9 : (v : ℕ) → v < 2 ^ 32 → length (shortest v) < 9
below_9 v h =
    by_order v 253 (λ a. omega (arith, width_1 v a)) λ a.
    by_order v 65536 (λ b. omega (arith, width_3 v a b)) λ b.
    omega (arith, width_5 v b h)

from_9 : (v : ℕ) → 2 ^ 32 ≤ v → 9 ≤ length (shortest v)
from_9 v h = omega (arith, width_9 v h)

module _ (s : List ℕ) (some : 0 < length s) where
  -- the first byte of a number that is cut short
  pub cut_first : (peeking s).width ≡ 0 → 253 ≤ get_or s 0 0
  cut_first none =
      by_order (get_or s 0 0) 253
      (λ h. absurd (let w : ◌≡◌ {A = ℕ} 1 0 = sym (ap (λ x. x.width) (peeking_1 s some h)) ∙ none in omega arith))
      (λ h. h)

  module _ (any : (peeking s).width ≡ 0 → ⊥) where
    reading_told : reading s ≡ told (peeking s)
    reading_told =
        by_order (get_or s 0 0) 253
        (λ h.
        rw (peeking_1 s some h)
        (reading_1 s some h ∙ sym (pick_no _ _ _ (le-ltb (length (shortest (get_or s 0 0))) 1 (omega (arith, width_1 (get_or s 0 0) h))))))
        λ a.
        by_order (get_or s 0 0) 254
        (λ b. told_form s 2 253 (reading_3 s (omega arith)) (peeking_3 s (omega arith)) any below_3 from_3)
        λ b.
        by_order (get_or s 0 0) 255
        (λ d. told_form s 4 65536 (reading_5 s (omega arith)) (peeking_5 s (omega arith)) any below_5 from_5)
        λ d. told_form s 8 (2 ^ 32) (reading_9 s d) (peeking_9 s d) any below_9 from_9

    pub reading_long : length (shortest (peeking s).value) < (peeking s).width → reading s ≡ Err (bare 2)
    reading_long h = reading_told ∙ pick_yes _ _ _ (lt-ltb _ _ h)

    pub reading_short : (peeking s).width ≤ length (shortest (peeking s).value) → reading s ≡ Ok (peeking s)
    reading_short h = reading_told ∙ pick_no _ _ _ (le-ltb _ _ h)

-- What a first byte of 253 or more announces: n bytes, and so it is read and peeked whatever stands behind it.
pub record Announces (b : ℕ) : Type 0 where
  pub n : ℕ
  pub least : ℕ
  pub some : 1 ≤ n
  pub few : n ≤ 8
  pub read : (bs : List ℕ) → reading (b ∷ bs) ≡ spelled n least bs
  pub peek : (bs : List ℕ) → peeking (b ∷ bs) ≡ peeked n bs

pub announces : (b : ℕ) → 253 ≤ b → Announces b
announces b h =
    by_order b 254 (λ a. of 2 253 (omega arith) (omega arith) (λ bs. reading_3 (b ∷ bs) (omega arith)) (λ bs. peeking_3 (b ∷ bs) (omega arith))) λ a.
    by_order b 255 (λ d. of 4 65536 (omega arith) (omega arith) (λ bs. reading_5 (b ∷ bs) (omega arith)) (λ bs. peeking_5 (b ∷ bs) (omega arith))) λ d.
    of 8 (2 ^ 32) (omega arith) (omega arith) (λ bs. reading_9 (b ∷ bs) d) (λ bs. peeking_9 (b ∷ bs) d)
  where
    of : (n least : ℕ) → 1 ≤ n → n ≤ 8 → ((bs : List ℕ) → reading (b ∷ bs) ≡ spelled n least bs) → ((bs : List ℕ) → peeking (b ∷ bs) ≡ peeked n bs) → Announces b
    of n least some few read peek = record { n = n; least = least; some = some; few = few; read = read; peek = peek }

-- a number that was read is what is peeked
pub read_peeked : (s : List ℕ) (x : Number) → reading s ≡ Ok x → peeking s ≡ x
unfolding reading
read_peeked [] x e = absurd (let z : ◌≡◌ {A = ℕ} 0 1 = cc in omega arith)
read_peeked (b ∷ bs) x e =
    by_order 0 (peeking (b ∷ bs)).width
    (λ any.
    split _ _ _ _ (sym (reading_told (b ∷ bs) (omega arith) (λ z. omega arith)) ∙ e)
    (λ _ k. absurd (let z : ◌≡◌ {A = ℕ} 0 1 = cc in omega arith))
    (λ _ k. cc))
    (λ none.
    let f = announces b (cut_first (b ∷ bs) (omega arith) (omega arith)) in
    absurd (not_refused e (reading_cut (b ∷ bs) f.n f.least (f.read bs) (f.peek bs) (omega arith)).1))

-- what is peeked lies in its bytes, and takes nine at the most
pub peeking_width : (s : List ℕ) → ((peeking s).width ≤ length s) × ((peeking s).width ≤ 9)
unfolding peeking peeked
peeking_width [] = (omega arith, omega arith)
peeking_width (b ∷ bs) =
    pick_all G _ _ _ (λ _. (omega arith, omega arith)) λ _.
    pick_all G _ _ _ (λ _. of 2 (omega arith)) λ _.
    pick_all G _ _ _ (λ _. of 4 (omega arith)) λ _.
    of 8 (omega arith)
  where
    G : Number → Type 0
    G x = (x.width ≤ suc (length bs)) × (x.width ≤ 9)

    of : (n : ℕ) → n ≤ 8 → G (pick (leb n (length bs)) (number (from_bytes (take n bs)) (1 + n)) (number 0 0))
    of n few = pick_all G _ _ _ (λ h. (omega (arith, leb-true n (length bs) h), omega arith)) (λ _. (omega arith, omega arith))

-- what was read is read where more bytes follow
pub reading_more : (s : List ℕ) (x : Number) → reading s ≡ Ok x → (more : List ℕ) → reading (s ++ more) ≡ Ok x
reading_more [] x e more = absurd (not_refused e (reading_nothing [] refl))
reading_more (b ∷ bs) x e more =
    by_order b 253
    (λ h. reading_1 (b ∷ (bs ++ more)) (omega arith) h ∙ sym (reading_1 (b ∷ bs) (omega arith) h) ∙ e)
    (λ h.
    let f = announces b h in
    by_order (length bs) f.n
    (λ cut. absurd (not_refused e (f.read bs ∙ spelled_cut f.n f.least bs cut)))
    (λ whole.
    f.read (bs ++ more)
    ∙ spelled_whole f.n f.least (bs ++ more) (omega (arith, length-append bs more))
    ∙ rw (take-append-le f.n bs more whole) (sym (spelled_whole f.n f.least bs whole) ∙ sym (f.read bs) ∙ e)))

-- The number that is readable: by what is peeked.

-- a number that is cut short is refused
cut_refused : (s : List ℕ) → (peeking s).width ≡ 0 → (q : Refusal) × (reading s ≡ Err q)
cut_refused [] e = (_, reading_nothing [] refl)
cut_refused (b ∷ bs) e =
    let f = announces b (cut_first (b ∷ bs) (omega arith) e) in
    (_, (reading_cut (b ∷ bs) f.n f.least (f.read bs) (f.peek bs) e).1)

module _ (s : List ℕ) where
  pub readable_cut : (peeking s).width ≡ 0 → result_ok (reading s) ≡ None
  readable_cut none = rw (cut_refused s none).1

  module _ (any : (peeking s).width ≡ 0 → ⊥) where
    pub readable_long : length (shortest (peeking s).value) < (peeking s).width → result_ok (reading s) ≡ None
    readable_long h = rw (reading_long s (omega (arith, (peeking_width s).0)) any h)

    pub readable_short : (peeking s).width ≤ length (shortest (peeking s).value) → result_ok (reading s) ≡ Some (peeking s)
    readable_short h = rw (reading_short s (omega (arith, (peeking_width s).0)) any h)

-- what is readable is read, and what is not is refused
pub readable_read : {x : Answer Number} {n : Number} → Some n ≡ result_ok x → x ≡ Ok n
readable_read {x = Ok m} {n = n} e = let is : n ≡ m = cc in ap Ok (sym is)
readable_read {x = Err q} e = absurd (let z : ◌≡◌ {A = ℕ} 0 1 = cc in omega arith)

pub unreadable : {x : Answer Number} → None ≡ result_ok x → (q : Refusal) × (x ≡ Err q)
unreadable {x = Err q} e = (q, refl)
unreadable {x = Ok m} e = absurd (let z : ◌≡◌ {A = ℕ} 0 1 = cc in omega arith)

-- How many bytes a number lacks: by the n bytes that its first byte announces.
module _ (s : List ℕ) where
  abbrev Missing : (n : ℕ) → Type 0
  Missing n = (length s - 1 < n → n - (length s - 1) ≡ missing_in (reading s)) × (n ≤ length s - 1 → 0 ≡ missing_in (reading s))

  missing_form : (n least : ℕ) → reading s ≡ spelled n least (drop 1 s) → Missing n
  missing_form n least read = (
    λ cut. rw (read, spelled_cut n least (drop 1 s) (omega (arith, length-drop 1 s)), length-drop),
    λ whole.
        rw (read, spelled_whole n least (drop 1 s) (omega (arith, length-drop 1 s)))
        (by_order (from_bytes (take n (drop 1 s))) least (λ low. rw (at_least_no least (number (from_bytes (take n (drop 1 s))) (1 + n)) low))
        (λ high. rw (at_least_yes least (number (from_bytes (take n (drop 1 s))) (1 + n)) high))),
  )

  pub missing_nothing : length s ≡ 0 → 1 ≡ missing_in (reading s)
  missing_nothing none = rw (reading_nothing s none)

  pub missing_none : 0 < length s → get_or s 0 0 < 253 → 0 ≡ missing_in (reading s)
  missing_none some h = rw (reading_1 s some h)

  -- as the code computes what is announced
  pub missing_behind : 253 ≤ get_or s 0 0 → get_or s 0 0 < 256 → Missing (1 * 2 ^ (get_or s 0 0 - 252) % 2 ^ 64)
  missing_behind high byte =
      by_order (get_or s 0 0) 254 (λ a. let is : get_or s 0 0 ≡ 253 = omega arith in rw is (missing_form 2 253 (reading_3 s is))) λ a.
      by_order (get_or s 0 0) 255 (λ b. let is : get_or s 0 0 ≡ 254 = omega arith in rw is (missing_form 4 65536 (reading_5 s is))) λ b.
      let is : get_or s 0 0 ≡ 255 = omega arith in
      rw is (missing_form 8 (2 ^ 32) (reading_9 s b))

-- the refusal of a number that is cut short
pub reading_none : (s : List ℕ) → 0 < length s → (peeking s).width ≡ 0 → reading s ≡ Err (lacking 1 0 0 (missing_in (reading s)))
reading_none [] some e = absurd (omega arith)
reading_none (b ∷ bs) some e =
    let f = announces b (cut_first (b ∷ bs) some e) in
    rw (reading_cut (b ∷ bs) f.n f.least (f.read bs) (f.peek bs) e).1
