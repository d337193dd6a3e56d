-- The payload that the writer makes: its answers, its length, and its bytes as they are put. Assumes nothing.
use Rattle.std.specs.Prelude.{Ok, Err}
use mathlib.Core.List.{List, ◌++◌}
use mathlib.Core.Path.{◌≡◌, sym}
use Prim.Native.Nat.{ℕ, ◌+◌, ◌/◌, ◌%◌, ◌<◌}
use native.Mathlib.Nat.{div-one, mod-eq_of_lt}
use native.Mathlib.Numerals.{towards_suc}
use native.Mathlib.Omega.{arith}
use lib.ListN.{length, set, length-append}
use lib.Seq.{sets}
use borrow.Author.Tests.{eqb-true, eq-eqb, ne_eqb}
use Rattle.laws.specs.Digits.{to_digits, to_bytes}
use Rattle.laws.proofs.Digits.{length_digits}
use Rattle.laws.proofs.Lists.{sets_append}
use Rattle.answer.specs.Answer.{refuse}
use Rattle.answer.specs.declared.Refusal.{Refusal}
use Rattle.answer.proofs.Answer.{then_accepted, then_refused, both, ensure_yes, ensure_no, ensured}
use Rattle.message.specs.declared.layout.Front.{Front}
use Rattle.message_writer.specs.Writer.{sized_bytes, front_bytes, payload}

pub length_sized : (v : List ℕ) → length (sized_bytes v) ≡ 2 + length v
length_sized v = rw (length-append, length_digits 8)

-- a number in two bytes, as they are put
pub number_put : (l : List ℕ) (at n : ℕ) → n < 65536 → set (set l at (n / 256)) (at + 1) (n % 256) ≡ sets l at (to_bytes 2 n)
unfolding to_digits
number_put l at n h =
    let small : n / 256 < 256 = omega arith in
    simp (div-one, mod-eq_of_lt small, towards_suc)

-- a part behind its length, put as two runs
pub sized_put : (l v : List ℕ) (at : ℕ) → sets (sets l at (to_bytes 2 (length v))) (at + 2) v ≡ sets l at (sized_bytes v)
sized_put l v at = sym (rw (length_digits 8) at (sets_append l at (to_bytes 2 (length v)) v))

-- The channel that stands in front.
module _ (kind : ℕ) (c : List ℕ) (wanted : ℕ) where
  pub channel_fits : length c ≡ 32 → front_bytes Front.Channel kind c wanted ≡ Ok c
  channel_fits h = ensure_yes _ _ _ (eq-eqb _ _ h)

  pub channel_wrong : (length c ≡ 32 → ⊥) → front_bytes Front.Channel kind c wanted ≡ Err (refuse 20 0 kind)
  channel_wrong h = ensure_no _ _ _ (ne_eqb _ _ h)

  pub channel_is : (b : List ℕ) → front_bytes Front.Channel kind c wanted ≡ Ok b → (b ≡ c) × (length c ≡ 32)
  channel_is b h =
      let e = ensured _ _ _ b h in
      (cc e.rest, eqb-true (length c) 32 e.holds)

-- The payload.
module _ (front : Front) (kind : ℕ) (first last : List ℕ) (wanted : ℕ) where
  pub payload_refused : (r : Refusal) → front_bytes front kind first wanted ≡ Err r → payload front kind first last wanted ≡ Err r
  unfolding payload
  payload_refused r e = then_refused r _ _ e

  pub payload_is : (b : List ℕ) → front_bytes front kind first wanted ≡ Ok b →
      payload front kind first last wanted ≡ Ok (to_bytes 2 kind ++ (b ++ sized_bytes last))
  unfolding payload
  payload_is b e = then_accepted b _ _ e

  -- what an accepted payload is made of
  pub record Made (bytes : List ℕ) : Type 0 where
    pub before : List ℕ
    pub fronted : front_bytes front kind first wanted ≡ Ok before
    pub is : bytes ≡ to_bytes 2 kind ++ (before ++ sized_bytes last)

  pub made : (bytes : List ℕ) → payload front kind first last wanted ≡ Ok bytes → Made bytes
  unfolding payload
  made bytes h =
      let b = both _ _ bytes h in
      record { before = b.is; fronted = b.first; is = cc b.second }

pub length_payload : (kind : ℕ) (before last : List ℕ) → length (to_bytes 2 kind ++ (before ++ sized_bytes last)) ≡ 4 + length before + length last
length_payload kind before last =
    omega (arith, length-append (to_bytes 2 kind) (before ++ sized_bytes last), length-append before (sized_bytes last), length_sized last, length_digits 8 2 kind)

-- its bytes, put as three runs
pub payload_put : (l : List ℕ) (kind : ℕ) (before last : List ℕ) →
    sets (sets (sets l 0 (to_bytes 2 kind)) 2 before) (2 + length before) (sized_bytes last) ≡ sets l 0 (to_bytes 2 kind ++ (before ++ sized_bytes last))
payload_put l kind before last =
    rw (sets_append l 0 (to_bytes 2 kind) (before ++ sized_bytes last), length_digits 8, sets_append (sets l 0 (to_bytes 2 kind)) 2 before (sized_bytes last))
