-- The questions are asked of the lower-case text: a text of one case and the same in lower case get the same answer. Assumes nothing.
use mathlib.Core.Bool.{false, ◌&&◌, and-false}
use mathlib.Core.Path.{◌≡◌, refl, sym, ap, ◌∙◌}
use mathlib.Core.List.{List, [], ◌∷◌, map}
use Prim.Native.Char.{code}
use Prim.Native.Nat.{ℕ, ◌+◌, ◌-◌}
use native.Mathlib.Omega.{arith}
use lib.Dec.{eqb}
use lib.ListN.{length-map}
use Rattle.std.proofs.lemmas.List.{take-map}
use borrow.Author.Tests.{le-leb, lt-leb, ne_eqb}
use Rattle.bech32.proofs.AlphabetLaws.{groups_lower}
use Rattle.letters.specs.Letters.{is_upper, is_lower, lower}
use Rattle.letters.proofs.LetterLaws.{lower_before, lower_upper, lower_behind, text_again, drop_lower}
use Rattle.laws.proofs.Test.{by_order}
use Rattle.invoice_text.specs.Text.{first_where, has, is_outside, up_to_last_one, data_of, hrp_of, parting, sealing, spelling}
use Rattle.invoice_text.proofs.FirstWhere.{has_next}

-- no letter becomes a "1"
one_lower : (c : ℕ) → eqb (lower c) (code "1") ≡ eqb c (code "1")
one_lower c =
    by_order c 65 (λ k. rw (lower_before c k)) λ k.
    by_order 90 c (λ l. rw (lower_behind c l)) λ l.
    rw (lower_upper c k l) (ne_eqb (c + 32) 49 (λ e. omega arith) ∙ sym (ne_eqb c 49 (λ e. omega arith)))

pub last_lower : (t : List ℕ) → up_to_last_one (map lower t) ≡ up_to_last_one t
unfolding up_to_last_one
last_lower [] = refl
last_lower (c ∷ t) = rw (last_lower t, one_lower c)

-- no character comes in from outside 33 to 126, and none goes there
byte_lower : (c : ℕ) → is_outside (lower c) ≡ is_outside c
byte_lower c =
    by_order c 65 (λ k. ap is_outside (lower_before c k)) λ k.
    by_order 90 c (λ l. ap is_outside (lower_behind c l)) λ l.
    rw (lower_upper c k l, le-leb 33 (c + 32) (omega arith), le-leb (c + 32) 126 (omega arith), le-leb 33 c (omega arith), le-leb c 126 (omega arith))

outside_lower : (t : List ℕ) → first_where is_outside (map lower t) ≡ first_where is_outside t
unfolding first_where
outside_lower [] = refl
outside_lower (c ∷ t) = rw (byte_lower c, outside_lower t)

-- no upper-case letter is left
not_upper : (c : ℕ) → is_upper (lower c) ≡ false
not_upper c =
    by_order c 65 (λ k. rw (lower_before c k, lt-leb 65 c k)) λ k.
    by_order 90 c (λ l. rw (lower_behind c l, lt-leb c 90 l, and-false)) λ l.
    rw (lower_upper c k l, lt-leb (c + 32) 90 (omega arith), and-false)

none_upper : (t : List ℕ) → has is_upper (map lower t) ≡ false
unfolding first_where
none_upper [] = refl
none_upper (c ∷ t) = has_next is_upper (lower c) (map lower t) ∙ rw (not_upper c) (none_upper t)

-- the two parts
pub hrp_lower : (t : List ℕ) → hrp_of (map lower t) ≡ map lower (hrp_of t)
hrp_lower t = rw (last_lower t, take-map lower (up_to_last_one t - 1) t)

pub data_lower : (t : List ℕ) → data_of (map lower t) ≡ map lower (data_of t)
data_lower t = rw (last_lower t, drop_lower (up_to_last_one t) t)

pub spelling_lower : (t : List ℕ) → (has is_upper t && has is_lower t) ≡ false → spelling (map lower t) ≡ spelling t
unfolding spelling parting sealing
spelling_lower t one_case =
    rw (
      one_case,
      none_upper t,
      outside_lower t,
      data_lower t,
      hrp_lower t,
      last_lower t,
      length-map t lower,
      length-map (data_of t) lower,
      text_again (hrp_of t),
      groups_lower (data_of t),
    )
