-- What callers use of the definition of an amount: an equation for each answer. Assumes nothing.
use Rattle.std.specs.Prelude.{Ok, Err}
use mathlib.Core.Path.{◌≡◌, refl, sym, ap, ◌∙◌}
use mathlib.Core.Bool.{true, not}
use mathlib.Core.List.{List, [], ◌∷◌, map}
use Prim.Native.Char.{code}
use Prim.Native.Nat.{ℕ, ◌*◌, ◌/◌, ◌%◌, ◌^◌, ◌≤◌, ◌<◌, min}
use native.Mathlib.Nat.{add-zero}
use native.Mathlib.Omega.{arith}
use lib.ListN.{length, get_or, take, drop}
use lib.Seq.{get_or-drop}
use borrow.Author.Tests.{le-leb, lt-leb, eq-eqb, ne_eqb}
use Rattle.letters.specs.Letters.{lower}
use Rattle.laws.specs.Test.{pick}
use Rattle.laws.proofs.Test.{pick_no, by_order}
use Rattle.answer.specs.Answer.{bare, mapped}
use Rattle.answer.proofs.Answer.{then_accepted, then_refused, ensure_yes, ensure_no, ensure_all}
use Rattle.money.specs.Amount.{is_digit, digit_count, from_decimal, tenth, scaled, capped, valued, amounting}
use Rattle.money.specs.Units.{msat}
use Rattle.money.proofs.DigitLaws.{digit_range, digit_at, count_lower, digits_lower, first_lower}
use Rattle.letters.proofs.LetterLaws.{drop_lower}

-- The cap.

pub capped_yes : (v : ℕ) → v ≤ 2_100_000_000_000_000_000 → capped v ≡ Ok (msat v)
unfolding capped
capped_yes v h = ensure_yes _ _ _ (le-leb v 2_100_000_000_000_000_000 h)

pub capped_no : (v : ℕ) → 2_100_000_000_000_000_000 < v → capped v ≡ Err (bare 37)
unfolding capped
capped_no v h = ensure_no _ _ _ (lt-leb v 2_100_000_000_000_000_000 h)

-- A tenth.

pub tenth_exact : (n : ℕ) → n % 10 ≡ 0 → tenth n ≡ Ok (n / 10)
unfolding tenth
tenth_exact n h = ensure_yes _ _ _ (eq-eqb (n % 10) 0 h)

pub tenth_not : (n : ℕ) → (n % 10 ≡ 0 → ⊥) → tenth n ≡ Err (bare 37)
unfolding tenth
tenth_not n h = ensure_no _ _ _ (ne_eqb (n % 10) 0 h)

-- A number with what follows it.

module _ (n : ℕ) where
  pub valued_none : valued n [] ≡ capped (n * 100_000_000_000)
  unfolding valued scaled
  valued_none = then_accepted _ _ _ refl

  pub valued_m : valued n (code "m" ∷ []) ≡ capped (n * 100_000_000)
  unfolding valued scaled pick
  valued_m = then_accepted _ _ _ refl

  pub valued_u : valued n (code "u" ∷ []) ≡ capped (n * 100_000)
  unfolding valued scaled pick
  valued_u = then_accepted _ _ _ refl

  pub valued_n : valued n (code "n" ∷ []) ≡ capped (n * 100)
  unfolding valued scaled pick
  valued_n = then_accepted _ _ _ refl

  pub valued_p : n < 2 ^ 64 → valued n (code "p" ∷ []) ≡ mapped msat (tenth n)
  unfolding valued scaled pick
  valued_p below =
      by_order 0 (n % 10)
      (λ more. let e = tenth_not n (λ none. omega arith) in then_refused _ _ _ e ∙ sym (ap (mapped msat) e)) λ none.
      let e = tenth_exact n (omega arith) in
      then_accepted _ _ _ e ∙ capped_yes _ (omega arith) ∙ sym (ap (mapped msat) e)

  pub valued_other : (c : ℕ) → (c ≡ code "m" → ⊥) → (c ≡ code "u" → ⊥) → (c ≡ code "n" → ⊥) → (c ≡ code "p" → ⊥) → valued n (c ∷ []) ≡ Err (bare 37)
  unfolding valued scaled
  valued_other c no-m no-u no-n no-p =
      then_refused _ _ _
      (pick_no _ _ _ (ne_eqb c 109 no-m) ∙ pick_no _ _ _ (ne_eqb c 117 no-u) ∙ pick_no _ _ _ (ne_eqb c 110 no-n) ∙ pick_no _ _ _ (ne_eqb c 112 no-p))

  pub valued_long : (cs : List ℕ) → 1 < length cs → valued n cs ≡ Err (bare 37)
  unfolding valued scaled
  valued_long [] h = absurd (omega arith)
  valued_long (c ∷ []) h = absurd (omega arith)
  valued_long (c ∷ d ∷ cs) h = then_refused _ _ _ refl

  -- a further digit is no letter
  pub valued_digit : (cs : List ℕ) → is_digit (get_or cs 0 0) ≡ true → valued n cs ≡ Err (bare 37)
  valued_digit [] d = absurd (omega (arith, digit_range 0 d))
  valued_digit (c ∷ []) d =
      let range = digit_range c d in
      valued_other c (λ e. omega arith) (λ e. omega arith) (λ e. omega arith) (λ e. omega arith)
  valued_digit (c ∷ e ∷ cs) d = valued_long (c ∷ e ∷ cs) (omega arith)

-- A text.

module _ (t : List ℕ) where
  pub amounting_none : digit_count t ≡ 0 → amounting t ≡ Err (bare 37)
  unfolding amounting
  amounting_none h = ensure_no _ _ _ (lt-leb 1 (digit_count t) (omega arith))

  pub amounting_zero : get_or t 0 0 ≡ code "0" → amounting t ≡ Err (bare 37)
  unfolding amounting
  amounting_zero h =
      ensure_all (λ a. a ≡ Err (bare 37)) _ _ _
      (λ _. ensure_all (λ a. a ≡ Err (bare 37)) _ _ _ (λ _. ensure_no _ _ _ (ap not (eq-eqb (get_or t 0 0) 48 h))) (λ _. refl))
      (λ _. refl)

  pub amounting_many : 19 < digit_count t → amounting t ≡ Err (bare 37)
  unfolding amounting
  amounting_many h = ensure_yes _ _ _ (le-leb 1 (digit_count t) (omega arith)) ∙ ensure_no _ _ _ (lt-leb (digit_count t) 19 h)

  pub amounting_valued : 0 < digit_count t → digit_count t ≤ 19 → (get_or t 0 0 ≡ code "0" → ⊥) →
      amounting t ≡ valued (from_decimal (take (digit_count t) t)) (drop (digit_count t) t)
  unfolding amounting
  amounting_valued some few first =
      ensure_yes _ _ _ (le-leb 1 (digit_count t) some)
      ∙ ensure_yes _ _ _ (le-leb (digit_count t) 19 few)
      ∙ ensure_yes _ _ _ (ap not (ne_eqb (get_or t 0 0) 48 first))

  -- the same where no more than 19 digits are taken for the number
  pub amounting_taken : (n : ℕ) → n ≡ min 19 (digit_count t) → 0 < n → (get_or t 0 0 ≡ code "0" → ⊥) → amounting t ≡ valued (from_decimal (take n t)) (drop n t)
  amounting_taken n e some first =
      by_order 19 (digit_count t)
      (λ many.
      let is : n ≡ 19 = omega arith in
      let digit : is_digit (get_or (drop n t) 0 0) ≡ true = rw (get_or-drop, add-zero) (digit_at t n (omega arith)) in
      amounting_many many ∙ sym (valued_digit (from_decimal (take n t)) (drop n t) digit))
      (λ few.
      let is : n ≡ digit_count t = omega arith in
      rw is (amounting_valued (omega arith) few first))

-- a text in either case, of which no more than 19 digits are taken
pub amounting_read : (s : List ℕ) (n : ℕ) → n ≡ min 19 (digit_count s) → 0 < n → (get_or s 0 0 ≡ code "0" → ⊥) →
    amounting (map lower s) ≡ valued (from_decimal (take n s)) (map lower (drop n s))
amounting_read s n e some first =
    let same = digits_lower n s (omega arith) in
    let front = first_lower s (omega arith) in
    amounting_taken (map lower s) n (rw (count_lower s) e) some (λ z. first (sym front ∙ z))
    ∙ rw (same, drop_lower n s)
