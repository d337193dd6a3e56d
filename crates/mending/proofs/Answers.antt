-- The answers of the mender, one by one: 14, 12 and what is mended. Assumes nothing.
use Rattle.std.specs.Prelude.{Ok, Err}
use borrow.Author.Tests.{le-leb, lt-leb}
use mathlib.Core.List.{List, []}
use mathlib.Core.Path.{◌≡◌, ◌∙◌}
use Prim.Native.Nat.{ℕ, ◌≤◌, ◌<◌}
use lib.ListN.{length}
use Rattle.answer.specs.Answer.{bare}
use Rattle.answer.proofs.Answer.{ensure_yes, ensure_no, then_accepted, fitting_refused, fitting_short, fitting_fits}
use Rattle.sorting.specs.Private.{All}
use Rattle.mending.specs.Mender.{read_in, ordered, agreed, spelled, Mended, mended, making, mending, Strict}
use Rattle.mending.proofs.Contents.{agreed_strict}

abbrev size_of : Mended → ℕ
size_of m = length m.bytes

pub mend_long : (s : List ℕ) (room : ℕ) → 65535 < length s → mending s room ≡ Err (bare 14)
unfolding making
mend_long s room h = fitting_refused size_of room _ (bare 14) (ensure_no _ _ _ (lt-leb (length s) 65535 h))

-- All agree: what is mended fits, or it does not.
module _ (s : List ℕ) (short : length s ≤ 65535) where
  module _ (agree : agreed [] (read_in s) ≡ Ok tt) where
    made : making s ≡ Ok (mended s)
    unfolding making
    made = ensure_yes _ _ _ (le-leb (length s) 65535 short) ∙ then_accepted tt _ _ agree

    pub mend_short : (room : ℕ) → room < length (spelled (ordered (read_in s))) → mending s room ≡ Err (bare 12)
    mend_short room h = fitting_short size_of room _ (mended s) made h

    pub mend_done : (room : ℕ) → length (spelled (ordered (read_in s))) ≤ room → mending s room ≡ Ok (mended s)
    mend_done room h = fitting_fits size_of room _ (mended s) made h

  -- Types that rise agree.
  pub rising_agrees : Strict 0 (read_in s) → agreed [] (read_in s) ≡ Ok tt
  unfolding All
  rising_agrees h = agreed_strict 0 [] (read_in s) tt h
