-- A number's decimal digits: those of `io::decimal`, and at most 20. Assumes nothing.
use mathlib.Core.List.{[], ◌∷◌, ◌++◌}
use mathlib.Core.Path.{◌≡◌, ap, ◌∙◌}
use Prim.Native.Nat.{ℕ, zero, suc, ◌+◌, ◌-◌, ◌*◌, ◌/◌, ◌%◌, ◌^◌, ◌≤◌, ◌<◌}
use native.Mathlib.Nat.{pow-suc, pow-le-pow_right, one-le-pow, div-lt_iff_lt-mul, le-div_iff_mul-le, mod-eq_of_lt}
use native.Mathlib.Omega.{arith}
use lib.Dec.{ltb}
use lib.ListN.{length, length-append}
use borrow.Author.Tests.{lt-ltb, le-ltb}
use Rattle.io.specs.Digits.{IsDigitCount}
use Rattle.io.specs.Digits as io
use Rattle.laws.proofs.Test.{pick_yes, pick_no, pick_all, by_order}
use Rattle.report_lines.specs.Text.{decimal_in, decimal}

-- no more digits than were allowed
pub length_decimal : (most n : ℕ) → length (decimal_in most n) ≤ most
unfolding decimal_in
length_decimal zero n = omega arith
length_decimal (suc most) n =
    pick_all (λ x. length x ≤ suc most) (ltb n 10) ((48 + n) ∷ []) (decimal_in most (n / 10) ++ ((48 + n % 10) ∷ [])) (λ _. omega arith)
    (λ _. omega (arith, length-append (decimal_in most (n / 10)) ((48 + n % 10) ∷ []), length_decimal most (n / 10)))

-- one digit, and one behind others
decimal_one : (most n : ℕ) → n < 10 → decimal_in (suc most) n ≡ io.last_digits 10 1 n
unfolding decimal_in
decimal_one most n h = pick_yes _ _ _ (lt-ltb n 10 h) ∙ rw (mod-eq_of_lt h, lt-ltb n 10 h)

decimal_more : (most n : ℕ) → 10 ≤ n → decimal_in (suc most) n ≡ decimal_in most (n / 10) ++ (io.hex_digit_ascii (n % 10) ∷ [])
unfolding decimal_in
decimal_more most n h =
    let small : n % 10 < 10 = omega arith in
    pick_no _ _ _ (le-ltb n 10 h) ∙ rw (lt-ltb (n % 10) 10 small)

-- the fewest digits of a number, less the last one
fewest_rest : (n k : ℕ) → IsDigitCount 10 1 n (suc (suc k)) → (10 ≤ n) × IsDigitCount 10 1 (n / 10) (suc k)
fewest_rest n k f =
    let e : suc (suc k) - 1 ≡ suc k = omega arith in
    let d : suc k - 1 ≡ k = omega arith in
    let least : 10 ^ suc k ≤ n = rw e at (f.2 (omega arith)) in
    let tens : 10 ^ k * 10 ≤ n = rw (pow-suc 10 k) at least in
    let one : 1 ≤ 10 ^ k = one-le-pow k 10 (omega arith) in
    let holds : n < 10 ^ suc k * 10 = rw (pow-suc 10 (suc k)) at f.1 in
    (omega arith, (omega arith, (div-lt_iff_lt-mul {k = 10} {x = n} {y = 10 ^ suc k} (omega arith)).1 holds, λ _. rw d ((le-div_iff_mul-le {k = 10} {x = 10 ^ k} {y = n} (omega arith)).1 tens)))

pub decimal_are : (most k n : ℕ) → k ≤ most → IsDigitCount 10 1 n k → decimal_in most n ≡ io.last_digits 10 k n
decimal_are most zero n h f =
    let q = f.0 in
    absurd (omega arith)
decimal_are zero (suc k) n h f = absurd (omega arith)
decimal_are (suc most) (suc zero) n h f = decimal_one most n f.1
decimal_are (suc most) (suc (suc k)) n h f =
    let r = fewest_rest n k f in
    decimal_more most n r.0 ∙ ap (λ x. x ++ (io.hex_digit_ascii (n % 10) ∷ [])) (decimal_are most (suc k) (n / 10) (omega arith) r.1)

-- 20 digits hold a number of 64 bits
pub decimal_is : (k n : ℕ) → n < 2 ^ 64 → IsDigitCount 10 1 n k → decimal n ≡ io.last_digits 10 k n
decimal_is k n h f =
    let few : k ≤ 20 =
    by_order 20 k
    (λ more.
    let p : 10 ^ 20 ≤ 10 ^ (k - 1) = pow-le-pow_right {n = 10} (omega arith) {i = 20} {j = k - 1} (omega arith) in
    let q = f.2 (omega arith) in
    absurd (omega arith))
    (λ le. le) in
    decimal_are 20 k n few f
