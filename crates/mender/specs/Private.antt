-- What the private functions promise each other: no public contract cites it. Assumes nothing.
use Rattle.std.specs.Prelude.{true, List, [], ◌∷◌, map, ◌≡◌, ℕ, ◌≤◌, eqb, ltb, length, take, drop, Option, Some, None}
use Rattle.laws.specs.Test.{pick}
use Rattle.piece.specs.Piece.{Record, kind_of, record_at, is_whole, same}
use Rattle.sorting.specs.Sorting.{sorted}
use Rattle.mending.specs.Mender.{Strict, read_in, places_of, kept, ordered, spelled, respelled, spans}
use Rattle.mender.specs.declared.walk.Seen.{Seen}
use Rattle.mender.specs.declared.order.Sifted.{Sifted}

-- what a look at all records tells
pub record Sees (s : List ℕ) (r : Seen) : Type 0 where
  pub count : r.count ≡ length (read_in s)
  pub end : r.end ≡ spans (read_in s)
  pub inside : r.end ≤ length s
  pub right : r.right ≡ true → Strict 0 (read_in s) × (respelled (read_in s) ≡ 0)

-- the record at a place, those at some places, and whether each is whole
abbrev pub record_from : List ℕ → (at : ℕ) → Record
record_from s at = record_at at (drop at s)

abbrev pub records_at : List ℕ → List ℕ → List Record
records_at s = map (record_from s)

unfoldable pub AreWhole : List ℕ → List ℕ → Type 0
AreWhole s [] = Unit {0}
AreWhole s (at ∷ places) = (is_whole (drop at s) ≡ true) × AreWhole s places

-- the first record of a type, where f is that of the last one seen
unfoldable pub leader : (f e : Record) → Record
leader f e = pick (eqb (kind_of f) (kind_of e)) f e

-- the lesser of two places, of which the first may be none
abbrev pub lesser : Option ℕ → ℕ → ℕ
lesser (Some p) q = pick (ltb q p) q p
lesser None q = q

-- the least place of a record that has another value than the first of its type
unfoldable pub lowered : (f e : Record) (least : Option ℕ) → Option ℕ
lowered f e least = pick (same f.value e.value) least (Some (lesser least e.place))

unfoldable pub least_from : (f : Record) (least : Option ℕ) → List Record → Option ℕ
least_from f least [] = least
least_from f least (e ∷ es) = least_from (leader f e) (lowered (leader f e) e least) es

abbrev pub least_in : List Record → Option ℕ
least_in [] = None
least_in (e ∷ es) = least_from e None es

-- what is kept of the records in the order of their types
pub record Sifts (s order order' : List ℕ) (r : Sifted) : Type 0 where
  pub fewer : r.kept ≤ length order
  pub records : records_at s (take r.kept order') ≡ kept (records_at s order)
  pub fault : r.fault ≡ least_in (records_at s order)
  pub size : r.size ≡ length (spelled (kept (records_at s order)))
  pub respelled : r.respelled ≡ respelled (kept (records_at s order))

-- what is in hand once they stand at the front
pub record Arranged (s order : List ℕ) (r : Sifted) : Type 0 where
  pub fewer : r.kept ≤ length (read_in s)
  pub room : r.kept ≤ length order
  pub placed : take r.kept order ≡ places_of (ordered (read_in s))
  pub records : records_at s (take r.kept order) ≡ ordered (read_in s)
  pub many : r.kept ≡ length (kept (read_in s))
  pub fault : r.fault ≡ least_in (sorted kind_of (read_in s))
  pub size : r.size ≡ length (spelled (ordered (read_in s)))
  pub respelled : r.respelled ≡ respelled (kept (read_in s))
