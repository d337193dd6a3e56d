-- The streams of a book put one behind the other: what is put and what is left make the whole. Assumes nothing.
use Rattle.std.specs.Prelude.{Ok, Err}
use mathlib.Core.List.{List, [], ◌∷◌, ◌++◌}
use mathlib.Core.Path.{◌≡◌, refl, sym, ap, ◌∙◌}
use Prim.Native.Nat.{ℕ, suc, ◌+◌, ◌-◌, ◌≤◌, ◌<◌}
use native.Mathlib.Omega.{arith}
use lib.ListN.{length, take, drop, length-append}
use lib.Seq.{sets}
use Rattle.laws.specs.Digits.{AreBytes, from_bytes}
use Rattle.laws.proofs.Digits.{from_part_below}
use Rattle.laws.proofs.Lists.{sets_append}
use Rattle.answer.specs.declared.Refusal.{Refusal}
use Rattle.answer.proofs.Answer.{both, ensured}
use Rattle.book.specs.Book.{item, end, part_of, item_at, items_at, end_from}
use Rattle.book.specs.declared.Item.{Item}
use Rattle.book.specs.declared.Section.TheVariants as Section
use Rattle.book.proofs.SectionLaws.{First, item_inside, items_first, items_none}
use Rattle.book_mender.specs.BookMender.{becoming, stream_of, new_streams}

module _ (book : List ℕ) where
  -- a stream's namespace is a byte
  pub namespace_small : (at : ℕ) (e : Item) → AreBytes book → item_at Section.Streams at book ≡ Ok e → e.namespace < 256
  unfolding item_at
  namespace_small at e bytes h =
      let b = both _ _ e h in
      let t = ensured _ _ _ e b.second in
      let is : item (from_bytes (take 1 (drop at book))) (at + 1 + 2) b.is ≡ e = cc t.rest in
      let i = item_inside Section.Streams at book e h in
      rw (← is) (from_part_below 8 book at 1 (omega (arith, i.starts, i.ends)) bytes)

  -- the streams, from the first on
  pub none_left : new_streams book [] ≡ []
  unfolding new_streams
  none_left = refl

  pub one_left : (e : Item) (es : List Item) → new_streams book (e ∷ es) ≡ stream_of e.namespace (becoming (part_of e book)) ++ new_streams book es
  unfolding new_streams
  one_left e es = refl

  -- How far the streams are put that begin at a place: `next` is the place in the old book, `at` that in the new one.
  pub record Going (begin : ℕ) (es : List Item) (before after : List ℕ) (next at left : ℕ) : Type 0 where
    pub rest : List Item
    pub are : items_at Section.Streams left next book ≡ Ok rest
    pub ends : end_from next rest ≡ end_from begin es
    pub inside : next ≤ length book
    pub behind : at ≤ next
    pub long : length after ≡ length before
    pub goes : at + length (new_streams book rest) ≡ begin + length (new_streams book es)
    pub same : sets after at (new_streams book rest) ≡ sets before begin (new_streams book es)

  pub going_first : (begin count : ℕ) (es : List Item) (before : List ℕ) → items_at Section.Streams count begin book ≡ Ok es → begin ≤ length book →
      Going begin es before before begin begin count
  going_first begin count es before are inside =
      record { rest = es; are = are; ends = refl; inside = inside; behind = omega arith; long = refl; goes = refl; same = refl }

  module _ (begin : ℕ) (es : List Item) (before after : List ℕ) (next at left : ℕ) (g : Going begin es before after next at left) where
    first : 0 < left → First Section.Streams book (left - 1) next g.rest
    first more =
        let one : left ≡ suc (left - 1) = omega arith in
        items_first Section.Streams book (left - 1) next g.rest (rw one at g.are)

    -- there is a stream
    pub going_there : 0 < left → (r : Refusal) → item_at Section.Streams next book ≡ Err r → ⊥
    going_there more r e =
        cc (first more).found

    -- it is put
    pub going_next : 0 < left → (e : Item) → item_at Section.Streams next book ≡ Ok e → (put : List ℕ) (end' : ℕ) → length put ≡ length after →
        end' ≡ at + length (stream_of e.namespace (becoming (part_of e book))) → end' ≤ at + 3 + e.size →
        put ≡ sets after at (stream_of e.namespace (becoming (part_of e book))) → Going begin es before put (end e) end' (left - 1)
    going_next more e found put end' long to short is =
        let f = first more in
        let one : f.is ≡ e = cc f.found in
        let this = stream_of e.namespace (becoming (part_of e book)) in
        let all : g.rest ≡ e ∷ f.rest = f.all ∙ ap (λ x. x ∷ f.rest) one in
        let left_is : new_streams book g.rest ≡ this ++ new_streams book f.rest = ap (new_streams book) all ∙ one_left e f.rest in
        let i = item_inside Section.Streams next book e found in
        record {
          rest = f.rest;
          are = rw one at f.follow;
          ends = ap (end_from next) (sym all) ∙ g.ends;
          inside = i.ends;
          behind = omega (arith, i.starts, g.behind);
          long = long ∙ g.long;
          goes = omega (arith, g.goes, ap length left_is, length-append this (new_streams book f.rest));
          same = rw (is, to) (sym (sets_append after at this (new_streams book f.rest)) ∙ ap (sets after at) (sym left_is) ∙ g.same);
        }

    -- there is none
    pub record Last : Type 0 where
      pub ends : next ≡ end_from begin es
      pub goes : at ≡ begin + length (new_streams book es)
      pub same : after ≡ sets before begin (new_streams book es)

    pub going_last : left ≤ 0 → Last
    going_last none =
        let zero : left ≡ 0 = omega arith in
        let empty : g.rest ≡ [] = cc (rw zero at g.are, items_none Section.Streams book next) in
        let nothing : new_streams book g.rest ≡ [] = ap (new_streams book) empty ∙ none_left in
        record {
          ends = ap (end_from next) (sym empty) ∙ g.ends;
          goes = omega (arith, g.goes, ap length nothing);
          same = ap (sets after at) (sym nothing) ∙ g.same;
        }
