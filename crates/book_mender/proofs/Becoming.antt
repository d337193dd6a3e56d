-- What a stream becomes, by the mender's answers. Assumes nothing.
use Rattle.std.specs.Prelude.{Ok, Err}
use mathlib.Core.List.{List}
use mathlib.Core.Path.{◌≡◌, refl, sym, ap, ◌∙◌}
use Prim.Native.Nat.{ℕ, ◌≤◌}
use native.Mathlib.Omega.{arith}
use lib.ListN.{length}
use Rattle.answer.specs.Answer.{Answer, mapped}
use Rattle.answer.specs.declared.Refusal.{Refusal}
use Rattle.answer.proofs.Answer.{mapped_accepted, mapped_refused, both, ensured, fitting_fits, fitted}
use Rattle.laws.specs.Digits.{AreBytes}
use Rattle.mending.specs.Mender.{Mended, mended, making, mending, told_of, bytes_of}
use Rattle.mending.specs.declared.Mending.{Mending}
use Rattle.mending.proofs.Shorter.{mended_shorter}
use Rattle.book_mender.specs.BookMender.{or_as_it_was, becoming}

module _ (s : List ℕ) where
  becoming_mended : (m : Mended) → making s ≡ Ok m → becoming s ≡ m.bytes
  unfolding becoming
  becoming_mended m e = ap (or_as_it_was s) e

  becoming_refused : (r : Refusal) → making s ≡ Err r → becoming s ≡ s
  unfolding becoming
  becoming_refused r e = ap (or_as_it_was s) e

  -- what is made is the stream mended
  made : (m : Mended) → making s ≡ Ok m → m ≡ mended s
  unfolding making
  made m e = cc (both _ _ m (ensured _ _ _ m e).rest).second

  by_making : (G : Type 0) → ((m : Mended) → making s ≡ Ok m → G) → ((r : Refusal) → making s ≡ Err r → G) → G
  by_making G f g = by_answer (making s) refl
    where
      by_answer : (x : Answer Mended) → making s ≡ x → G
      by_answer (Ok m) e = f m e
      by_answer (Err r) e = g r e

  -- it is no longer than it was
  pub becoming_shorter : AreBytes s → length (becoming s) ≤ length s
  becoming_shorter bytes =
      by_making _
      (λ m e. rw (becoming_mended m e, made m e) (mended_shorter s bytes))
      (λ r e. rw (becoming_refused r e) (omega arith))

  module _ (room : ℕ) where
    -- the mender's answer, where it mends
    pub told_mended : (t : Mending) → mapped told_of (mending s room) ≡ Ok t → (t.size ≡ length (becoming s)) × (mapped bytes_of (mending s room) ≡ Ok (becoming s))
    told_mended t e =
        let m = mapped_accepted told_of (mending s room) t e in
        let is = becoming_mended m.0 (fitted _ room (making s) m.0 m.1).was in
        (ap (λ (x : Mending). x.size) (sym m.2) ∙ ap length (sym is), ap (mapped bytes_of) m.1 ∙ ap Ok (sym is))

    -- where it refuses and the stream itself has room
    pub told_refused : AreBytes s → length s ≤ room → (r : Refusal) → mapped told_of (mending s room) ≡ Err r →
        (becoming s ≡ s) × (mapped bytes_of (mending s room) ≡ Err r)
    told_refused bytes fits r e =
        let no = mapped_refused told_of (mending s room) r e in (
          by_making _
              (λ m is.
              let yes = fitting_fits (λ (x : Mended). length x.bytes) room (making s) m is (rw (made m is) (omega (arith, mended_shorter s bytes))) in
              absurd (cc (no, yes)))
              (λ q is. becoming_refused q is),
          ap (mapped bytes_of) no,
        )
