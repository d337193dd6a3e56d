-- Laws on lists: a run of elements written into a list, and parts of a list. Assumes nothing.
use mathlib.Core.Path.{◌≡◌, sym, ◌∙◌}
use Prim.Native.Nat.{ℕ, suc, ◌+◌, ◌-◌, ◌≤◌}
use native.Mathlib.Nat.{add-zero, add-suc, add-sub_cancel_left, suc-add, zero-add}
use native.Mathlib.Numerals.{towards_suc}
use native.Mathlib.Omega.{arith}
use mathlib.Core.List.{List, [], ◌∷◌, ◌++◌, append_assoc, append-nil}
use lib.ListN.{length, take, drop, set, length-take, length-drop, drop_of_length-le}
use borrow.Rule.Slice.PartMut.{put_mid}
use lib.Seq.{sets, sets-eq, take_all, take-add, drop-drop}

-- a run written in two parts
pub sets_append : (l : List ℕ) (i : ℕ) (a b : List ℕ) → sets l i (a ++ b) ≡ sets (sets l i a) (i + length a) b
sets_append l i [] b = rw add-zero
sets_append l i (x ∷ a) b = rw (add-suc, ← suc-add) (sets_append (set l i x) (suc i) a b)

-- three elements written one by one, and a run behind them
pub triple_put : (l : List ℕ) (i a b c : ℕ) (rest : List ℕ) → sets (set (set (set l i a) (i + 1) b) (i + 2) c) (i + 3) rest ≡ sets l i (a ∷ b ∷ c ∷ rest)
triple_put l i a b c rest = simp towards_suc

-- a run written at the front: the rest is as it was
pub sets_front : (l a : List ℕ) → length a ≤ length l → sets l 0 a ≡ a ++ drop (length a) l
sets_front l a h = sets-eq a l 0 (rw zero-add h) ∙ rw zero-add

-- a part that lies in a list has its length
pub length_part : (s : List ℕ) (at n : ℕ) → at + n ≤ length s → length (take n (drop at s)) ≡ n
length_part s at n h = simp (length-take, length-drop) (omega arith)

-- a part in two parts
pub part_add : (s : List ℕ) (at m n : ℕ) → take (m + n) (drop at s) ≡ take m (drop at s) ++ take n (drop (at + m) s)
part_add s at m n = take-add m n (drop at s) ∙ rw drop-drop

-- the part from an index to the end
pub part_tail : (s : List ℕ) (at : ℕ) → take (length s - at) (drop at s) ≡ drop at s
part_tail s at = take_all (length s - at) (drop at s) (omega (arith, length-drop at s))

-- n elements that lie h behind an index
pub part_behind : (s : List ℕ) (at h n : ℕ) → take (at + h + n - (at + h)) (drop (at + h) s) ≡ take n (drop h (drop at s))
part_behind s at h n = rw (drop-drop h at s, add-sub_cancel_left (at + h) n)

-- a run laid over the front of a lent tail, seen in the whole
pub tail_put : (l b q : List ℕ) (at : ℕ) → at + length b ≤ length l → q ≡ b ++ drop (length b) (take (length l - at) (drop at l)) →
    put_mid at (length l - at) l q ≡ sets l at b
tail_put l b q at h e =
    let p : q ≡ b ++ drop (at + length b) l = (rw (part_tail l at) at e) ∙ rw (drop-drop (length b) at l) in
    rw (drop_of_length-le (drop at l) {i = length l - at} (omega (arith, length-drop at l)), append-nil, p) (sym (rw append_assoc at (sets-eq b l at h)))
