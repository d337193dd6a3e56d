-- A search of an accepted table finds what the table knows, and its next row serves the search for a higher type: the rows rise, so that those before a row
-- that comes before the type do so too, and those behind one that comes behind it. Assumes nothing.
use Rattle.std.specs.Prelude.{Ok, Option, None, Some}
use mathlib.Core.Path.{◌≡◌, refl, sym, ◌∙◌}
use mathlib.Core.List.{List}
use Prim.Native.Nat.{ℕ, zero, suc, ◌+◌, ◌-◌, ◌≤◌, ◌<◌}
use native.Mathlib.Omega.{arith}
use borrow.Author.Tests.{ltb-true, ltb-false}
use Rattle.laws.proofs.Test.{pick_all, by_order}
use Rattle.table.specs.Search.{rows_of, namespace_at, kind_at, known_at, seen, Searched, ending, behind_look, turned, middle, halving, searching, Cursor}
use Rattle.table.specs.Table.{checking, lookup}
use Rattle.table.specs.declared.Known.{Known}
use Rattle.table.specs.declared.Side.{Side}
use Rattle.table.proofs.Order.{Stands, stands, in_table, at_row, rise}
use Rattle.table.proofs.Rows.{in_rows, known_row, accepted_row, rising_of}
use Rattle.table.proofs.Searching.{turned_all}

pub cursor_start : (t : List ℕ) (namespace : ℕ) → Cursor t namespace 0 0
cursor_start t namespace row less end = absurd (omega arith)

-- it serves for higher types
higher : (t : List ℕ) (namespace low kind row : ℕ) → low ≤ kind → Cursor t namespace low row → Cursor t namespace kind row
higher t namespace low kind row up c r less end = let s = c r less end in (s.0, λ same. omega (arith, s.1 same))

module _ (t : List ℕ) (fine : checking t ≡ Ok tt) (namespace kind : ℕ) where
  -- the row of a type is what the table knows of it
  here_known : (row : ℕ) → row < rows_of t → seen t row namespace kind ≡ Side.Here → known_at t row ≡ lookup t namespace kind
  here_known row less e =
      let s = stands _ _ namespace kind Side.Here e in
      let a = accepted_row _ _ _ _ 0 0 (in_rows t) (rising_of t fine) (in_table (in_rows t) row less) in
      sym a.once ∙ rw (s.0, s.1)

  -- all rows from one on come behind the type
  abbrev Ahead : (row : ℕ) → Type 0
  Ahead row = (r : ℕ) → row ≤ r → r < rows_of t → Stands (namespace_at t r) (kind_at t r) namespace kind Side.Behind

  ahead_of : (row : ℕ) → row < rows_of t → seen t row namespace kind ≡ Side.Behind → Ahead row
  ahead_of row here e r up end =
      let s = stands _ _ namespace kind Side.Behind e in
      by_order row r
      (λ above. let u = rise 0 0 (in_rows t) (rising_of t fine) row r above end in (omega arith, λ same. omega (arith, u.1 (omega arith), s.1 (omega arith))))
      (λ not. let same : r ≡ row = omega arith in rw same s)

  -- where a row comes before a type, the search for it may go on behind that row
  up_to : (row : ℕ) → row < rows_of t → (k : ℕ) → Stands (namespace_at t row) (kind_at t row) namespace k Side.Before → Cursor t namespace k (row + 1)
  up_to row here k s r less end =
      by_order r row
      (λ below. let u = rise 0 0 (in_rows t) (rising_of t fine) r row below here in (omega arith, λ same. omega (arith, u.1 (omega arith), s.1 (omega arith))))
      (λ not. let same : r ≡ row = omega arith in rw same s)

  -- no row is left that could be the type's
  none_left : (row : ℕ) → Cursor t namespace kind row → Ahead row → lookup t namespace kind ≡ None
  none_left row before behind = of (lookup t namespace kind) refl
    where
      of : (x : Option Known) → lookup t namespace kind ≡ x → x ≡ None
      of None e = refl
      of (Some known_as) e =
          let a = at_row namespace kind known_as.form known_as.parameter (in_rows t) (known_row namespace kind known_as.form known_as.parameter (in_rows t) e) in
          absurd
          (by_order a.row row
          (λ less. omega (arith, a.ns, a.k, (before a.row less a.less).1 (omega (arith, a.ns))))
          (λ not. omega (arith, a.ns, a.k, (behind a.row not a.less).1 (omega (arith, a.ns)))))

  -- What is found is what the table knows, and the next row serves for a higher type.
  record Right (s : Searched) : Type 0 where
    found : s.found ≡ lookup t namespace kind
    next : Cursor t namespace (suc kind) s.next

  right_none : (row : ℕ) → Cursor t namespace kind row → Ahead row → Right (ending None row)
  right_none row before behind =
      record { found = sym (none_left row before behind); next = higher t namespace kind (suc kind) row (omega arith) before }

  -- a look at a row, by what is right where it comes before the type and where it comes behind it
  right_look : (row : ℕ) → row < rows_of t → (before behind : Searched) →
      (Cursor t namespace kind (row + 1) → Right before) → (Ahead row → Right behind) →
      Right (behind_look row (turned (seen t row namespace kind) (ending (known_at t row) (row + 1)) before behind))
  right_look row less before behind f g =
      turned_all (λ s. Right (behind_look row s)) _ _ _ _
      (λ e.
      let s = stands _ _ namespace kind Side.Here e in
      record { found = here_known row less e; next = up_to row less (suc kind) (omega arith, λ _. omega arith) })
      (λ e. let r = f (up_to row less kind (stands _ _ namespace kind Side.Before e)) in record { found = r.found; next = r.next })
      (λ e. let r = g (ahead_of row less e) in record { found = r.found; next = r.next })

  halving_right : (n low high : ℕ) → high - low ≤ n → high ≤ rows_of t → Cursor t namespace kind low → Ahead high → Right (halving t namespace kind n low high)
  unfolding halving
  halving_right zero low high few end before behind = right_none low before (λ r up. behind r (omega arith))
  halving_right (suc n) low high few end before behind =
      pick_all Right _ _ _
      (λ yes.
      let less = ltb-true low high yes in
      right_look (middle low high) (omega arith) _ _
      (λ c. halving_right n (middle low high + 1) high (omega arith) end c behind)
      (λ a. halving_right n low (middle low high) (omega arith) (omega arith) before a))
      (λ no. right_none low before (λ r up. behind r (omega (arith, ltb-false low high no))))

  searching_right : (low from : ℕ) → Cursor t namespace low from → low ≤ kind → Right (searching t from namespace kind)
  unfolding searching
  searching_right low from c up =
      let before = higher t namespace low kind from up c in
      pick_all Right _ _ _
      (λ yes.
      right_look from (ltb-true from (rows_of t) yes) _ _
      (λ d. halving_right (rows_of t) (from + 1) (rows_of t) (omega arith) (omega arith) d (λ r up end. absurd (omega arith)))
      (λ a. right_none from before a))
      (λ no. right_none from before (λ r up end. absurd (omega (arith, ltb-false from (rows_of t) no))))

-- For callers, whose types rise.
module _ (t : List ℕ) (namespace low row : ℕ) (at : Cursor t namespace low row) (kind : ℕ) (up : low ≤ kind) (fine : checking t ≡ Ok tt) where
  pub cursor_found : (searching t row namespace kind).found ≡ lookup t namespace kind
  cursor_found = (searching_right t fine namespace kind low row at up).found

  pub cursor_next : Cursor t namespace (suc kind) (searching t row namespace kind).next
  cursor_next = (searching_right t fine namespace kind low row at up).next
