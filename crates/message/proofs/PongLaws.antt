-- The pong that answers a ping: an equation for each answer. Assumes nothing.
use Rattle.std.specs.Prelude.{Ok, Err, None, Some}
use mathlib.Core.Path.{◌≡◌, sym, ap, ◌∙◌}
use mathlib.Core.List.{List, [], ◌∷◌, ◌++◌, append_assoc}
use Prim.Native.Nat.{ℕ, ◌+◌, ◌-◌, ◌/◌, ◌%◌, ◌≤◌, ◌<◌}
use native.Mathlib.Nat.{add-sub_cancel_left, div-one, mod-eq_of_lt}
use native.Mathlib.Omega.{arith}
use lib.ListN.{length, drop, set, replicate, length-append, length-replicate}
use borrow.Rule.Slice.PartMut.{put_mid}
use lib.Seq.{sets, sets-eq, drop-drop, length-sets}
use borrow.Author.Tests.{lt-ltb, le-ltb}
use Rattle.laws.proofs.Digits.{length_digits}
use Rattle.laws.proofs.Lists.{sets_append, sets_front}
use Rattle.laws.proofs.Test.{pick_yes, pick_no}
use Rattle.laws.specs.Digits.{to_digits}
use Rattle.answer.proofs.Answer.{fitting_fits, fitting_short}
use Rattle.answer.specs.Answer.{bare}
use Rattle.message.specs.Replies.{bytes_in, pong_bytes, pong_to, ponging}

-- the bytes that the code puts
pub pong_is : (count : ℕ) → count < 65536 → pong_bytes count ≡ (0 ∷ 19 ∷ count / 256 ∷ count % 256 ∷ []) ++ replicate count 0
unfolding pong_bytes to_digits
pong_is count h =
    let small : count / 256 < 256 = omega arith in
    rw (div-one count, mod-eq_of_lt small)

pub length_pong : (count : ℕ) → length (pong_bytes count) ≡ 4 + count
unfolding pong_bytes
length_pong count = rw (length-append, length-append, length_digits 8, length_digits 8, length-replicate)

-- a run laid over the middle of a list, seen in the whole
mid_put : (l b : List ℕ) (at : ℕ) → at + length b ≤ length l → put_mid at (length b) l b ≡ sets l at b
mid_put l b at h = rw (drop-drop (length b) at l) (sym (rw append_assoc at (sets-eq b l at h)))

-- the four bytes put one by one and the zero bytes behind them: the pong at the front, the rest as it was
pub pong_put : (l q : List ℕ) (count : ℕ) → count < 65536 → 4 + count ≤ length l → q ≡ replicate count 0 →
    put_mid 4 (4 + count - 4) (set (set (set (set l 0 0) 1 19) 2 (count / 256)) 3 (count % 256)) q ≡ pong_bytes count ++ drop (length (pong_bytes count)) l
pong_put l q count h fits zeros =
    let front = 0 ∷ 19 ∷ count / 256 ∷ count % 256 ∷ [] in
    let long : 4 + length (replicate count 0) ≤ length (sets l 0 front) = omega (arith, fits, length-replicate {A = ℕ} count 0, length-sets l 0 front) in
    let mid : put_mid 4 count (sets l 0 front) (replicate count 0) ≡ sets (sets l 0 front) 4 (replicate count 0) =
    rw (length-replicate {A = ℕ} count 0) at (mid_put (sets l 0 front) (replicate count 0) 4 long) in
    rw (zeros, add-sub_cancel_left 4 count)
    (mid
    ∙ sym (sets_append l 0 front (replicate count 0))
    ∙ ap (sets l 0) (sym (pong_is count h))
    ∙ sets_front l (pong_bytes count) (omega (arith, length_pong count)))

pong_to_is : (wanted : ℕ) → wanted < 65532 → pong_to wanted ≡ Some (pong_bytes wanted)
unfolding pong_to
pong_to_is wanted h = pick_yes _ _ _ (lt-ltb wanted 65532 h)

no_pong_to : (wanted : ℕ) → 65532 ≤ wanted → pong_to wanted ≡ None
unfolding pong_to
no_pong_to wanted h = pick_no _ _ _ (le-ltb wanted 65532 h)

module _ (wanted room : ℕ) where
  pub ponging_none : 65532 ≤ wanted → ponging wanted room ≡ Ok None
  ponging_none h = fitting_fits (λ pong. length (bytes_in pong)) room _ None (ap Ok (no_pong_to wanted h)) (omega arith)

  pub ponging_fits : wanted < 65532 → 4 + wanted ≤ room → ponging wanted room ≡ Ok (Some (pong_bytes wanted))
  ponging_fits h fits =
      fitting_fits (λ pong. length (bytes_in pong)) room _ (Some (pong_bytes wanted)) (ap Ok (pong_to_is wanted h)) (omega (arith, length_pong wanted))

  pub ponging_short : wanted < 65532 → room < 4 + wanted → ponging wanted room ≡ Err (bare 12)
  ponging_short h short =
      fitting_short (λ pong. length (bytes_in pong)) room _ (Some (pong_bytes wanted)) (ap Ok (pong_to_is wanted h)) (omega (arith, length_pong wanted))
