-- The answers about an item and a section, one law each. Assumes nothing.
use Rattle.std.specs.Prelude.{Ok, Err}
use mathlib.Core.List.{List, [], ◌∷◌}
use mathlib.Core.Path.{◌≡◌, refl, sym, ap, ◌∙◌}
use Prim.Native.Nat.{ℕ, zero, suc, ◌+◌, ◌*◌, ◌≤◌, ◌<◌}
use native.Mathlib.Omega.{arith}
use lib.ListN.{length, take, drop}
use borrow.Author.Tests.{leb-true, le-leb, lt-leb}
use Rattle.laws.specs.Digits.{from_bytes}
use Rattle.answer.specs.Answer.{Answer, bare, mapped, ◌>>=◌}
use Rattle.answer.specs.declared.Refusal.{Refusal}
use Rattle.answer.proofs.Answer.{then_accepted, then_refused, both, ensure_yes, ensure_no, ensured, mapped_accepted, mapped_refused}
use Rattle.book.specs.Book.{number_at, lead, item, end, item_at, items_at, end_from, end_of, Listed, section_at, run_of}
use Rattle.book.specs.Private.{walked}
use Rattle.book.specs.declared.Item.{Item}
use Rattle.book.specs.declared.Run.{Run}
use Rattle.book.specs.declared.Section.{Section}

-- A number of two bytes.
module _ (at : ℕ) (book : List ℕ) where
  pub number_cut : length book < at + 2 → number_at at book ≡ Err (bare 70)
  unfolding number_at
  number_cut h = ensure_no _ _ _ (lt-leb (at + 2) (length book) h)

  pub number_there : at + 2 ≤ length book → number_at at book ≡ Ok (from_bytes (take 2 (drop at book)))
  unfolding number_at
  number_there h = ensure_yes _ _ _ (le-leb (at + 2) (length book) h)

  -- one that was read lies in the book
  pub number_inside : (n : ℕ) → number_at at book ≡ Ok n → at + 2 ≤ length book
  unfolding number_at
  number_inside n h = leb-true _ _ (ensured _ _ _ n h).holds

-- An item.
pub lead_small : (section : Section) → lead section ≤ 1
lead_small Section.Streams = omega arith
lead_small Section.Messages = omega arith
lead_small Section.Invoices = omega arith

module _ (section : Section) (at : ℕ) (book : List ℕ) where
  pub item_cut : length book < at + lead section + 2 → item_at section at book ≡ Err (bare 70)
  unfolding item_at
  item_cut h = then_refused (bare 70) _ _ (number_cut (at + lead section) book h)

  module _ (size : ℕ) (there : at + lead section + 2 ≤ length book) (is : size ≡ from_bytes (take 2 (drop (at + lead section) book))) where
    sized : number_at (at + lead section) book ≡ Ok size
    sized = number_there (at + lead section) book there ∙ ap Ok (sym is)

    pub item_short : length book < at + lead section + 2 + size → item_at section at book ≡ Err (bare 70)
    unfolding item_at
    item_short h = then_accepted size _ _ sized ∙ ensure_no _ _ _ (lt-leb (at + lead section + 2 + size) (length book) h)

    pub item_there : at + lead section + 2 + size ≤ length book →
        item_at section at book ≡ Ok (item (from_bytes (take (lead section) (drop at book))) (at + lead section + 2) size)
    unfolding item_at
    item_there h = then_accepted size _ _ sized ∙ ensure_yes _ _ _ (le-leb (at + lead section + 2 + size) (length book) h)

  -- one that was found: its part lies behind its place, and in the book
  pub record Inside (e : Item) : Type 0 where
    pub starts : e.start ≡ at + lead section + 2
    pub ends : end e ≤ length book

  pub item_inside : (e : Item) → item_at section at book ≡ Ok e → Inside e
  unfolding item_at
  item_inside e h =
      let b = both _ _ e h in
      let t = ensured _ _ _ e b.second in
      let is : item (from_bytes (take (lead section) (drop at book))) (at + lead section + 2) b.is ≡ e = cc t.rest in
      record { starts = ap (λ (x : Item). x.start) (sym is); ends = rw (← is) (leb-true _ _ t.holds) }

-- Items, one behind the other.
module _ (section : Section) (book : List ℕ) where
  pub items_broken : (n at : ℕ) (r : Refusal) → item_at section at book ≡ Err r → items_at section (suc n) at book ≡ Err r
  unfolding items_at
  items_broken n at r h = then_refused r _ _ h

  -- where they end does not hang on the items that were passed
  tail_ends : (at : ℕ) (e : Item) (x : Answer (List Item)) → mapped (end_from at) (x >>= λ rest. Ok (e ∷ rest)) ≡ mapped (end_from (end e)) x
  unfolding ◌>>=◌
  tail_ends at e (Ok rest) = refl
  tail_ends at e (Err r) = refl

  pub items_next : (n at : ℕ) (e : Item) → item_at section at book ≡ Ok e →
      mapped (end_from at) (items_at section (suc n) at book) ≡ mapped (end_from (end e)) (items_at section n (end e) book)
  unfolding items_at
  items_next n at e h = ap (mapped (end_from at)) (then_accepted e _ _ h) ∙ tail_ends at e (items_at section n (end e) book)

  pub items_none : (at : ℕ) → items_at section 0 at book ≡ Ok []
  unfolding items_at
  items_none at = refl

  -- the first of one or more, and the rest
  pub record First (n at : ℕ) (es : List Item) : Type 0 where
    pub is : Item
    pub found : item_at section at book ≡ Ok is
    pub rest : List Item
    pub follow : items_at section n (end is) book ≡ Ok rest
    pub all : es ≡ is ∷ rest

  pub items_first : (n at : ℕ) (es : List Item) → items_at section (suc n) at book ≡ Ok es → First n at es
  unfolding items_at
  items_first n at es h =
      let a = both _ _ es h in
      let b = both _ _ es a.second in
      record { is = a.is; found = a.first; rest = b.is; follow = b.first; all = cc b.second }

  -- there are as many as were asked for
  pub items_count : (n at : ℕ) (es : List Item) → items_at section n at book ≡ Ok es → length es ≡ n
  items_count zero at es h =
      let is : [] ≡ es = cc (items_none at) in
      rw (← is)
  items_count (suc n) at es h =
      let f = items_first n at es h in
      rw f.all (ap suc (items_count n (end f.is) f.rest f.follow))

  -- they end in the book
  pub items_end : (n at : ℕ) (es : List Item) → items_at section n at book ≡ Ok es → at ≤ length book → end_from at es ≤ length book
  items_end zero at es h k =
      let is : [] ≡ es = cc (items_none at) in
      rw (← is) k
  items_end (suc n) at es h k =
      let f = items_first n at es h in
      rw f.all (items_end n (end f.is) f.rest f.follow (item_inside section at book f.is f.found).ends)

  -- they are no more than as many as take two bytes each
  pub items_few : (n at : ℕ) (es : List Item) → items_at section n at book ≡ Ok es → 2 * length es + at ≤ end_from at es
  items_few zero at es h =
      let is : [] ≡ es = cc (items_none at) in
      rw (← is) (omega arith)
  items_few (suc n) at es h =
      let f = items_first n at es h in
      let i = item_inside section at book f.is f.found in
      rw f.all (omega (arith, i.starts, items_few n (end f.is) f.rest f.follow))

-- A section behind its count.
module _ (section : Section) (at : ℕ) (book : List ℕ) where
  pub section_cut : length book < at + 2 → section_at section at book ≡ Err (bare 70)
  unfolding section_at
  section_cut h = then_refused (bare 70) _ _ (number_cut at book h)

  module _ (count : ℕ) (there : at + 2 ≤ length book) (is : count ≡ from_bytes (take 2 (drop at book))) where
    counted : number_at at book ≡ Ok count
    counted = number_there at book there ∙ ap Ok (sym is)

    pub section_broken : (r : Refusal) → mapped (end_from (at + 2)) (items_at section count (at + 2) book) ≡ Err r → mapped walked (section_at section at book) ≡ Err r
    unfolding section_at
    section_broken r h = ap (mapped walked) (then_accepted count _ _ counted ∙ then_refused r _ _ (mapped_refused _ _ r h))

    pub section_walked : (next : ℕ) → mapped (end_from (at + 2)) (items_at section count (at + 2) book) ≡ Ok next →
        mapped walked (section_at section at book) ≡ Ok (record { count = count; begin = at + 2 }, next)
    unfolding section_at
    section_walked next h =
        let m = mapped_accepted _ _ next h in
        ap (mapped walked) (then_accepted count _ _ counted ∙ then_accepted m.0 _ _ m.1) ∙ rw (items_count section book count (at + 2) m.0 m.1, m.2)

  -- one that was read: its items behind the count, and where it begins
  pub record Read (l : Listed) : Type 0 where
    pub begins : l.begin ≡ at + 2
    pub inside : l.begin ≤ length book
    pub items : items_at section (length l.items) l.begin book ≡ Ok l.items
    pub ends : end_of l ≤ length book

  pub section_read : (l : Listed) → section_at section at book ≡ Ok l → Read l
  unfolding section_at
  section_read l h =
      let a = both _ _ l h in
      let b = both _ _ l a.second in
      let inside = number_inside at book a.is a.first in
      let is : ◌≡◌ {A = Listed} (record { begin = at + 2; items = b.is }) l = cc b.second in
      rw (← is) (record {
        begins = refl;
        inside = inside;
        items = rw (items_count section book a.is (at + 2) b.is b.first) b.first;
        ends = items_end section book a.is (at + 2) b.is b.first inside;
      })

-- and the run that was answered for it
module _ (section : Section) (at : ℕ) (book : List ℕ) (l : Listed) (r : Read section at book l) where
  pub run_items : (run : Run) → run_of l ≡ run → items_at section run.count run.begin book ≡ Ok l.items
  run_items run is = rw (← is) r.items

  pub run_inside : (run : Run) → run_of l ≡ run → run.begin ≤ length book
  run_inside run is = rw (← is) r.inside

-- What walking a section told, from a place on that is told otherwise.
module _ (section : Section) (at begin : ℕ) (book : List ℕ) (is : at ≡ begin) where
  pub walk_refused : (r : Refusal) → Err r ≡ mapped walked (section_at section at book) → section_at section begin book ≡ Err r
  walk_refused r h = mapped_refused walked _ r (sym (rw is at h))

  pub walk_to : (run : Run) (next : ℕ) → Ok (run, next) ≡ mapped walked (section_at section at book) →
      (l : Listed) × (section_at section begin book ≡ Ok l) × (run_of l ≡ run) × (end_of l ≡ next)
  walk_to run next h =
      let m = mapped_accepted walked _ (run, next) (sym (rw is at h)) in
      (m.0, m.1, ap (λ (t : Run × ℕ). t.0) m.2, ap (λ (t : Run × ℕ). t.1) m.2)
