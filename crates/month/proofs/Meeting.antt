-- The pairs met, in rows and records: which they are, and how many. Assumes nothing.
use Rattle.std.proofs.Common.{◌≡◌, ℕ, suc, ◌+◌, ◌<◌, Bool, true, false, ◌||◌, eqb, List, [], ◌∷◌, length, sym, refl, ◌∙◌, le_refl, add-zero, zero-add, arith, eq-eqb, ne_eqb}
use Rattle.laws.specs.Test.{pick}
use Rattle.pairs.specs.declared.Row.{Row}
use Rattle.pairs.specs.Rows.{pair_of, entering, enters, Rises}
use Rattle.month.specs.Run.{is_met, different}
use Rattle.pairs.proofs.Entering.{enter_none, enter_past, enter_same, enter_before, none_rise, entered_rises}
use Rattle.pairs.proofs.Order.{apart, by_pair}

or_turn : (a b c : Bool) → (a || (b || c)) ≡ (b || (a || c))
or_turn true true c = refl
or_turn true false c = refl
or_turn false b c = refl

or_twice : (a b : Bool) → (a || b) ≡ (a || (a || b))
or_twice true b = refl
or_twice false b = refl

or_move : (a b c : Bool) → ((a || b) || c) ≡ (b || (a || c))
or_move true true c = refl
or_move true false c = refl
or_move false b c = refl

or_none : (a : Bool) → (a || false) ≡ a
or_none true = refl
or_none false = refl

-- Those met in rows with records entered are those met in the rows and in the records.
module _ (pair : ℕ) where
  enter_met : (m : Row) (rs : List Row) → is_met pair (entering m rs) ≡ is_met pair (m ∷ rs)
  unfolding is_met
  enter_met m [] = rw (enter_none m)
  enter_met m (r ∷ rs) =
      by_pair (pair_of r) (pair_of m)
      (λ l. rw (enter_past m r rs l, is_met, enter_met m rs) (or_turn (eqb (pair_of r) pair) (eqb (pair_of m) pair) (is_met pair rs)))
      (λ e. rw (enter_same m r rs e, is_met, ← e) (or_twice (eqb (pair_of r) pair) (is_met pair rs)))
      (λ l. rw (enter_before m r rs l))

  pub enters_met : (ms rs : List Row) → is_met pair (enters rs ms) ≡ (is_met pair rs || is_met pair ms)
  unfolding enters is_met
  enters_met [] rs = sym (or_none (is_met pair rs))
  enters_met (m ∷ ms) rs = enters_met ms (entering m rs) ∙ rw (enter_met m rs, is_met) (or_move (eqb (pair_of m) pair) (is_met pair rs) (is_met pair ms))

-- How many rows there are.

-- rows that start above a pair do not meet it
none_met : (pair low : ℕ) (rs : List Row) → pair < low → Rises low rs → is_met pair rs ≡ false
unfolding is_met Rises
none_met pair low [] h r = refl
none_met pair low (x ∷ rs) h r =
    rw (ne_eqb (pair_of x) pair (λ e. omega (arith, r.0)), is_met) (none_met pair (suc (pair_of x)) rs (omega (arith, r.0)) r.1)

enter_length : (m : Row) (low : ℕ) (rs : List Row) → Rises low rs → length (entering m rs) ≡ pick (is_met (pair_of m) rs) 0 1 + length rs
unfolding is_met Rises pick
enter_length m low [] r = rw (enter_none m)
enter_length m low (x ∷ rs) r =
    by_pair (pair_of x) (pair_of m)
    (λ l. rw (enter_past m x rs l, is_met, ne_eqb (pair_of x) (pair_of m) (λ e. apart _ _ l (sym e)), enter_length m (suc (pair_of x)) rs r.1) (omega arith))
    (λ e. rw (enter_same m x rs e, is_met, eq-eqb (pair_of x) (pair_of m) e) (sym (zero-add (length (x ∷ rs)))))
    (λ l. rw (enter_before m x rs l, none_met (pair_of m) (pair_of x) (x ∷ rs) l (le_refl _, r.1)) (omega arith))

-- what was met before decides, not how often or in which order
different_same : (a b ms : List Row) → ((pair : ℕ) → is_met pair a ≡ is_met pair b) → different a ms ≡ different b ms
unfolding different is_met
different_same a b [] same = refl
different_same a b (m ∷ ms) same =
    rw (different, same (pair_of m), different_same (m ∷ a) (m ∷ b) ms (λ pair. rw (is_met, same pair)))

enters_length : (ms rs : List Row) → Rises 0 rs → length (enters rs ms) ≡ different rs ms + length rs
unfolding enters different
enters_length [] rs r = sym (zero-add (length rs))
enters_length (m ∷ ms) rs r =
    enters_length ms (entering m rs) (entered_rises m rs r)
    ∙ rw (enter_length m 0 rs r, different_same (entering m rs) (m ∷ rs) ms (λ pair. enter_met pair m rs)) (omega arith)

-- as many as there are different pairs among the records
pub entered_pairs : (ms : List Row) → length (enters [] ms) ≡ different [] ms
entered_pairs ms = enters_length ms [] none_rise ∙ add-zero (different [] ms)
