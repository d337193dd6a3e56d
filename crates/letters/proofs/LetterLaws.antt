-- Lower case: by a character's code, and of a text. Assumes nothing.
use Rattle.std.specs.Char.{to_ascii_lowercase}
use mathlib.Core.Path.{◌≡◌, refl, sym, ap}
use mathlib.Core.Bool.{and-false}
use mathlib.Core.List.{List, [], ◌∷◌, map}
use Prim.Native.Nat.{ℕ, zero, suc, ◌+◌, ◌≤◌, ◌<◌}
use native.Mathlib.Omega.{arith}
use lib.ListN.{length, get_or, drop}
use borrow.Author.Tests.{le-leb, lt-leb, lt-ltb, le-ltb}
use Rattle.letters.specs.Letters.{is_upper, lower}
use Rattle.laws.proofs.Test.{pick_yes, pick_no, by_order}

pub lower_upper : (c : ℕ) → 65 ≤ c → c ≤ 90 → lower c ≡ c + 32
unfolding lower
lower_upper c h k = pick_yes (is_upper c) (c + 32) c (rw (le-leb 65 c h, le-leb c 90 k))

pub lower_before : (c : ℕ) → c < 65 → lower c ≡ c
unfolding lower
lower_before c h = pick_no (is_upper c) (c + 32) c (rw (lt-leb 65 c h))

pub lower_behind : (c : ℕ) → 90 < c → lower c ≡ c
unfolding lower
lower_behind c h = pick_no (is_upper c) (c + 32) c (rw (lt-leb c 90 h, and-false))

-- so the library says it
pub lower_ascii : (c : ℕ) → to_ascii_lowercase c ≡ lower c
lower_ascii c =
    by_order c 65 (λ k. rw (lt-ltb c 65 k) (sym (lower_before c k))) λ k.
    by_order c 91 (λ l. rw (le-ltb c 65 k, lt-ltb c 91 l) (sym (lower_upper c k (omega arith)))) λ l.
    rw (le-ltb c 65 k, le-ltb c 91 l) (sym (lower_behind c (omega arith)))

pub text_ascii : (s : List ℕ) → map to_ascii_lowercase s ≡ map lower s
text_ascii [] = refl
text_ascii (c ∷ s) = rw (lower_ascii c, text_ascii s)

-- a byte in lower case is a byte
pub lower_byte : (c : ℕ) → c < 256 → lower c < 256
lower_byte c h =
    by_order c 65 (λ k. omega (arith, lower_before c k)) λ k.
    by_order 90 c (λ l. omega (arith, lower_behind c l)) λ l. omega (arith, lower_upper c k l)

-- what is in lower case stays as it is
pub lower_twice : (c : ℕ) → lower (lower c) ≡ lower c
lower_twice c =
    by_order c 65 (λ k. ap lower (lower_before c k)) λ k.
    by_order 90 c (λ l. ap lower (lower_behind c l)) λ l. lower_behind (lower c) (omega (arith, lower_upper c k l))

pub text_again : (s : List ℕ) → map lower (map lower s) ≡ map lower s
text_again [] = refl
text_again (c ∷ s) = rw (lower_twice c, text_again s)

pub drop_lower : (n : ℕ) (s : List ℕ) → drop n (map lower s) ≡ map lower (drop n s)
drop_lower zero s = refl
drop_lower (suc n) [] = refl
drop_lower (suc n) (c ∷ s) = drop_lower n s

-- a text of no character, and of one
pub none_lower : (s : List ℕ) → length s ≡ 0 → map lower s ≡ []
none_lower [] h = refl
none_lower (c ∷ s) h = absurd (omega arith)

pub one_lower : (s : List ℕ) → length s ≡ 1 → map lower s ≡ lower (get_or s 0 0) ∷ []
one_lower [] h = absurd (omega arith)
one_lower (c ∷ []) h = refl
one_lower (c ∷ d ∷ s) h = absurd (omega arith)
