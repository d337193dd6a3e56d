-- A turn along the records of a stream. Assumes nothing.
use Rattle.std.specs.Prelude.{Option, Some, None, IsSome}
use mathlib.Core.Bool.{true}
use mathlib.Core.List.{List, [], ◌∷◌}
use mathlib.Core.Path.{◌≡◌, refl, ap, ◌∙◌}
use Prim.Native.Nat.{ℕ, ◌+◌, ◌≤◌}
use native.Mathlib.Omega.{arith}
use lib.ListN.{length, drop, length-drop}
use lib.Seq.{drop-drop}
use Rattle.piece.specs.Piece.{span_of, is_whole, piece_of, piece_in}
use Rattle.piece.specs.declared.Piece.{Piece}
use Rattle.piece.proofs.Laws.{is_whole_means, piece_whole, piece_some, piece_none}
use Rattle.mender.specs.Private.{record_from}
use Rattle.mending.proofs.Walking.{walk, walk_next, walk_end}

-- A turn of the walk: the record at a place is told by p, and the next one stands behind it.
pub record Turn (s : List ℕ) (at : ℕ) (p : Piece) : Type 0 where
  pub whole : is_whole (drop at s) ≡ true
  pub is : p ≡ piece_of (record_from s at)
  pub walks : walk at (drop at s) ≡ record_from s at ∷ walk (at + (p.head + p.size)) (drop (at + (p.head + p.size)) s)
  pub two : 2 ≤ p.head
  pub room : at + (p.head + p.size) ≤ length s

pub turned : (s : List ℕ) (at : ℕ) (p : Piece) → Some p ≡ piece_in (drop at s) → Turn s at p
turned s at p is =
    let t = piece_some (drop at s) p is in
    let w = t.0 in
    let e : p ≡ piece_of (record_from s at) = t.1 in
    let i = is_whole_means (drop at s) w in
    let head = ap (λ (x : Piece). x.head) e in
    let size = ap (λ (x : Piece). x.size) e in
    record {
      whole = w;
      is = e;
      walks = walk_next at (drop at s) w ∙ rw (e, ← (drop-drop (span_of (record_from s at)) at s));
      two = omega (arith, i.0, i.1, head);
      room = omega (arith, i.0, i.2, head, size, length-drop at s);
    }

-- it is told
pub told_some : (s : List ℕ) (at : ℕ) {r : Option Piece} → is_whole (drop at s) ≡ true → r ≡ piece_in (drop at s) → IsSome r
told_some s at w is = rw (is, piece_whole (drop at s) w) refl

pub turn_end : (s : List ℕ) (at : ℕ) → None ≡ piece_in (drop at s) → walk at (drop at s) ≡ []
turn_end s at is = walk_end at (drop at s) (piece_none (drop at s) is)

pub place_inside : (s : List ℕ) (at : ℕ) → is_whole (drop at s) ≡ true → at ≤ length s
place_inside s at w = let i = is_whole_means (drop at s) w in omega (arith, i.0, i.2, length-drop at s)
