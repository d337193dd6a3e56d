-- What the reader says of a stream that is right in frame: only of its records' types and values. Assumes nothing.
use Rattle.std.specs.Prelude.{Ok, Err}
use mathlib.Core.List.{List, []}
use mathlib.Core.Path.{◌≡◌, refl, sym, ◌∙◌}
use Prim.Native.Nat.{ℕ, suc, ◌+◌, ◌<◌}
use native.Mathlib.Omega.{arith}
use lib.ListN.{length}
use Rattle.answer.specs.Answer.{Answer}
use Rattle.answer.specs.declared.Refusal.{Refusal}
use Rattle.answer.proofs.Answer.{then_accepted, then_refused}
use Rattle.frame.specs.Frame.{Frame, value_in, behind}
use Rattle.frame.proofs.Laws.{framed}
use Rattle.stream.specs.Order.{Lies, first, later}
use Rattle.stream.specs.Stream.{record_at, knows, judged, rows_in}
use Rattle.stream.proofs.Records.{rows_end, rows_refused, rows_on}
use Rattle.mending.specs.Mender.{Right, right_end, right_next}
use Rattle.mending.proofs.Accepted.{framed_anywhere}

-- by an answer
by_answer {ℓ} : {A : Type 0} {G : Type ℓ} (x : Answer A) → ((a : A) → x ≡ Ok a → G) → ((r : Refusal) → x ≡ Err r → G) → G
by_answer (Ok a) f g = f a refl
by_answer (Err r) f g = g r refl

one_refusal : {A : Type 0} {x : Answer A} (q r : Refusal) → x ≡ Err q → x ≡ Err r → q ≡ r
one_refusal q r a b = let c = sym a ∙ b in cc

not_both : {A : Type 0} {x : Answer A} (a : A) (r : Refusal) → x ≡ Ok a → x ≡ Err r → ⊥
not_both a r h k = let c = sym h ∙ k in cc

-- a refusal is for a record's type and value
module _ (table : List ℕ) (ns l : ℕ) (r : Refusal) where
  pub right_judged : {low : ℕ} {bs : List ℕ} → Right low bs → (place : ℕ) → rows_in table ns l place low bs ≡ Err r →
      (x : Frame) × (from : List ℕ) × (at : ℕ) × Lies x from bs ×
      (judged table l (knows table (record_at ns l at from x)) at x.kind (at + x.head) (value_in x from) ≡ Err r)
  right_judged {low} right_end place h = absurd (not_both [] r (rows_end table ns l place low [] refl) h)
  right_judged (right_next {low = low} {bs = bs} x ex rest) place h =
      let f = framed low 0 bs x ex in
      let here = framed_anywhere low 0 bs x ex low place f.0 in
      let alone = framed_anywhere low 0 bs x ex 0 0 (omega arith) in
      let some : 0 < length bs = omega (arith, f.1, f.2) in
      by_answer (judged table l (knows table (record_at ns l place bs x)) place x.kind (place + x.head) (value_in x bs))
      (λ mark e.
      let on = rows_on table ns l place low bs some x here mark e in
      by_answer (rows_in table ns l (place + (x.head + x.size)) (suc x.kind) (behind x bs))
      (λ rows a. absurd (not_both _ r (on ∙ then_accepted rows _ _ a) h))
      (λ q a.
      let t = right_judged rest (place + (x.head + x.size)) (rw (one_refusal q r (on ∙ then_refused q _ _ a) h) at a) in
      (t.0, t.1, t.2, later alone t.3, t.4)))
      (λ q e. (x, bs, place, first alone, rw (one_refusal q r (rows_refused table ns l place low bs some x here q e) h) at e))
