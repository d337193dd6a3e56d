-- What the code has in its hands is what is answered. Assumes nothing.
use Rattle.std.specs.Prelude.{Some, None, Ok, Err}
use borrow.Author.Tests.{le-leb}
use mathlib.Core.Bool.{true, false}
use mathlib.Core.List.{List, []}
use mathlib.Core.Path.{◌≡◌, sym, ap, ◌∙◌}
use Prim.Native.Nat.{ℕ, ◌-◌, ◌≤◌, ◌<◌}
use native.Mathlib.Nat.{sub_self}
use native.Mathlib.Omega.{arith}
use lib.ListN.{length, take, drop}
use lib.Seq.{sets, length-take-le}
use Rattle.answer.specs.Answer.{refuse, filled}
use Rattle.answer.proofs.Answer.{ensure_yes, then_refused, fitting_refused}
use Rattle.laws.specs.Digits.{AreBytes}
use Rattle.laws.proofs.Lists.{sets_front}
use Rattle.piece.specs.Piece.{kind_of, is_whole}
use Rattle.sorting.specs.Private.{All}
use Rattle.sorting.specs.Sorting.{sorted, key_by}
use Rattle.sorting.proofs.Laws.{all_map, sorted_all}
use Rattle.mending.specs.Mender.{read_in, places_of, kept, ordered, agreed, spelled, differing, Mended, mended, making, mending, told_of}
use Rattle.mending.specs.declared.Mending.{Mending}
use Rattle.mender.specs.Private.{Sees, AreWhole, least_in, Arranged}
use Rattle.mender.specs.declared.order.Sifted.{Sifted}
use Rattle.mender.specs.declared.walk.Seen.{Seen}
use Rattle.mender.proofs.Copied.{spelled_copied}
use Rattle.mender.proofs.Faults.{Finds, fault_found}
use Rattle.mending.proofs.Keeping.{all_ordered, kept_strict, ordered_same, differing_none}
use Rattle.mender.proofs.Placed.{placed_all, places_whole, old_order}

abbrev size_of : Mended → ℕ
size_of m = length m.bytes

module _ (s : List ℕ) (short : length s ≤ 65535) where
  -- The first that disagrees is what the scan finds.
  found : Finds (key_by s false) (least_in (sorted kind_of (read_in s))) (agreed [] (read_in s))
  found =
      let es = read_in s in
      let p = placed_all s in
      let b : All (λ e. e.place < 65536) es = all_map (λ e h. omega arith) es p.below in
      fault_found (key_by s false) es p.rises b (sorted_all kind_of _ es b) p.kinds

  pub none_found : None ≡ least_in (sorted kind_of (read_in s)) → agreed [] (read_in s) ≡ Ok tt
  none_found h = found.none (sym h)

  pub place_found : (p : ℕ) → Some p ≡ least_in (sorted kind_of (read_in s)) → p < 65536
  place_found p h = (found.some p (sym h)).0

  pub mend_fault : (room p : ℕ) → Some p ≡ least_in (sorted kind_of (read_in s)) → mending s room ≡ Err (refuse 80 p (key_by s false p))
  unfolding making
  mend_fault room p h =
      fitting_refused size_of room _ _ (ensure_yes _ _ _ (le-leb (length s) 65535 short) ∙ then_refused _ _ _ (found.some p (sym h)).1)

-- what is written, as the front of what was lent
pub written_is : (s out out' : List ℕ) → out' ≡ sets out 0 (spelled (ordered (read_in s))) → length (spelled (ordered (read_in s))) ≤ length out →
    out' ≡ filled (Ok (spelled (ordered (read_in s)))) out
written_is s out out' e h = e ∙ sets_front out (spelled (ordered (read_in s))) h

-- What is told of records that are right in frame.
module _ (s : List ℕ) (r : Seen) (f : Sees s r) (bytes : AreBytes s) (yes : r.right ≡ true) where
  same_order : ordered (read_in s) ≡ read_in s
  same_order = ordered_same 0 (read_in s) (f.right yes).0

  pub right_bytes : spelled (ordered (read_in s)) ≡ take r.end s
  right_bytes = ap spelled same_order ∙ spelled_copied s bytes (f.right yes).1 ∙ rw f.end

  pub right_length : length (spelled (ordered (read_in s))) ≡ r.end
  right_length = ap length right_bytes ∙ length-take-le r.end s f.inside

  pub right_told : ◌≡◌ {A = Mending} (record { size = r.end; changes = record { moved = 0; dropped = 0; respelled = 0; cut = length s - r.end } }) (told_of (mended s))
  right_told =
      let es = read_in s in
      let k = kept_strict 0 es (f.right yes).0 in
      rw (right_length, same_order, k, (f.right yes).1, f.end, differing_none (places_of es), sub_self (length es))

-- What is told of records that were sorted.
module _ (s o : List ℕ) (seen : Seen) (r : Sifted) (f : Sees s seen) (k : Arranged s o r) where
  pub kept_whole : AreWhole s (take r.kept o)
  kept_whole = rw k.placed (places_whole s (ordered (read_in s)) (all_ordered (λ e. is_whole (drop e.place s) ≡ true) (read_in s) (placed_all s).whole))

  pub sorted_told : (v : ℕ) → v ≡ differing (sorted (key_by s true) (take r.kept o)) (take r.kept o) →
      ◌≡◌ {A = Mending}
      (record { size = r.size; changes = record { moved = v; dropped = seen.count - r.kept; respelled = r.respelled; cut = length s - seen.end } })
      (told_of (mended s))
  sorted_told v b =
      let v' : v ≡ differing (places_of (kept (read_in s))) (places_of (ordered (read_in s))) = b ∙ rw (k.placed, old_order s) in
      rw (v', k.size, k.respelled, f.count, k.many, f.end)
