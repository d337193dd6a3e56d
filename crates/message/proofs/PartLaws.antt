-- The parts of a message: an equation for each answer, and where they lie. Assumes nothing.
use Rattle.std.specs.Prelude.{Ok, Err}
use mathlib.Core.Path.{◌≡◌, ap, ◌∙◌}
use mathlib.Core.List.{List}
use Prim.Native.Nat.{ℕ, ◌+◌, ◌*◌, ◌≤◌, ◌<◌}
use native.Mathlib.Omega.{arith}
use lib.ListN.{length, get_or}
use borrow.Author.Tests.{leb-true, le-leb, lt-leb}
use Rattle.laws.proofs.Digits.{from_part_one, from_part_add}
use Rattle.answer.specs.Answer.{refuse}
use Rattle.answer.specs.declared.Refusal.{Refusal}
use Rattle.answer.proofs.Answer.{then_accepted, then_refused, both, ensure_yes, ensure_no, ensured}
use Rattle.answer.specs.declared.Part.{Part}
use Rattle.message.specs.Layout.{part, end}
use Rattle.message.specs.Message.{number_at, fixed, sized, front_at}
use Rattle.message.specs.declared.layout.Front.{Front}

module _ (kind at : ℕ) (m : List ℕ) where
  module _ (n : ℕ) where
    pub fixed_fits : at + n ≤ length m → fixed kind at n m ≡ Ok (part at n)
    unfolding fixed
    fixed_fits h = ensure_yes _ _ _ (le-leb (at + n) (length m) h)

    pub fixed_cut : length m < at + n → fixed kind at n m ≡ Err (refuse 20 0 kind)
    unfolding fixed
    fixed_cut h = ensure_no _ _ _ (lt-leb (at + n) (length m) h)

    -- what is accepted lies in the message
    pub fixed_in : (p : Part) → fixed kind at n m ≡ Ok p → (p ≡ part at n) × (at + n ≤ length m)
    unfolding fixed
    fixed_in p h =
        let e = ensured _ _ _ p h in
        (cc e.rest, leb-true (at + n) (length m) e.holds)

  pub sized_refused : (r : Refusal) → fixed kind at 2 m ≡ Err r → sized kind at m ≡ Err r
  unfolding sized
  sized_refused r e = then_refused r _ _ e

  pub sized_then : (p : Part) → fixed kind at 2 m ≡ Ok p → sized kind at m ≡ fixed kind (at + 2) (number_at at m) m
  unfolding sized
  sized_then p e = then_accepted p _ _ e

pub fixed_end : (kind at n : ℕ) (m : List ℕ) (p : Part) → fixed kind at n m ≡ Ok p → end p ≤ length m
fixed_end kind at n m p h =
    let f = fixed_in kind at m n p h in
    rw f.0 f.1

pub sized_end : (kind at : ℕ) (m : List ℕ) (p : Part) → sized kind at m ≡ Ok p → end p ≤ length m
unfolding sized
sized_end kind at m p h = fixed_end kind (at + 2) (number_at at m) m p (both _ _ p h).second

-- what stands in front lies in the message, behind its type
pub front_end : (front : Front) (kind : ℕ) (m : List ℕ) (p : Part) → front_at front kind m ≡ Ok p → end p ≤ length m
front_end Front.Sized kind m p h = sized_end kind 2 m p h
front_end Front.Channel kind m p h = fixed_end kind 2 32 m p h
front_end Front.Number kind m p h = fixed_end kind 2 2 m p h
front_end Front.Empty kind m p h = fixed_end kind 2 0 m p h

-- a length stands before a part that has one
pub sized_length : (kind at : ℕ) (m : List ℕ) (p : Part) → sized kind at m ≡ Ok p → at + 2 ≤ length m
unfolding sized
sized_length kind at m p h =
    let b = both _ _ p h in
    (fixed_in kind at m 2 b.is b.first).1

-- the number of two bytes
pub number_is : (at : ℕ) (m : List ℕ) → at + 2 ≤ length m → number_at at m ≡ get_or m at 0 * 256 + get_or m (at + 1) 0
number_is at m h =
    from_part_add 8 m at 1 1 (omega arith) ∙ rw (from_part_one 8 m at (omega arith), from_part_one 8 m (at + 1) (omega arith))

-- what stands in front begins behind the type
fixed_begin : (kind at n : ℕ) (m : List ℕ) (p : Part) → fixed kind at n m ≡ Ok p → p.start ≡ at
fixed_begin kind at n m p h = ap (λ (q : Part). q.start) (fixed_in kind at m n p h).0

pub front_begin : (front : Front) (kind : ℕ) (m : List ℕ) (p : Part) → front_at front kind m ≡ Ok p → 2 ≤ p.start
unfolding sized
front_begin Front.Sized kind m p h = omega (arith, fixed_begin kind 4 (number_at 2 m) m p (both _ _ p h).second)
front_begin Front.Channel kind m p h = omega (arith, fixed_begin kind 2 32 m p h)
front_begin Front.Number kind m p h = omega (arith, fixed_begin kind 2 2 m p h)
front_begin Front.Empty kind m p h = omega (arith, fixed_begin kind 2 0 m p h)
