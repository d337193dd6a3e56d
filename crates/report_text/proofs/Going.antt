-- A section's lines, put one behind the other: what holds between two items. Assumes nothing.
use Rattle.std.specs.Prelude.{Ok, Err}
use Rattle.std.specs.Int.{from_bool}
use mathlib.Core.List.{List, [], ◌∷◌, ◌++◌, append_assoc, append-nil}
use mathlib.Core.Path.{◌≡◌, refl, sym, ap, ◌∙◌}
use Prim.Native.Nat.{ℕ, suc, ◌+◌, ◌-◌, ◌*◌, ◌≤◌, ◌<◌}
use native.Mathlib.Nat.{add-zero, sub-zero}
use native.Mathlib.Numerals.{add-one}
use native.Mathlib.Omega.{arith}
use lib.ListN.{length}
use Rattle.book.specs.Book.{end, item_at, items_at}
use Rattle.book.specs.declared.Item.{Item}
use Rattle.book.specs.declared.Section.{Section}
use Rattle.book.proofs.SectionLaws.{First, items_first, items_none, item_inside}
use Rattle.answer.specs.declared.Refusal.{Refusal}
use Rattle.table.specs.Table.{checking}
use Rattle.report_lines.specs.Private.{Puts}
use Rattle.report_text.specs.Report.{line_of, is_refused_in, lines, refusals}
use Rattle.report_lines.proofs.Putting.{puts_then, puts_none}
use Rattle.report_text.proofs.Sizes.{line_small, refusal_one, refusal_is}

module _ (section : Section) (table book : List ℕ) (count begin : ℕ) (out₀ : List ℕ) (at : ℕ) where
  -- `before` items are done, up to `next`; their lines and those of the rest are all lines
  pub record Going (out : List ℕ) (next before ends refuses : ℕ) : Type 0 where
    pub within : before ≤ count
    pub es : List Item
    pub is : items_at section count begin book ≡ Ok es
    pub rest : List Item
    pub left : items_at section (count - before) next book ≡ Ok rest
    pub done : List ℕ
    pub put : Puts done out₀ at out ends
    pub all : done ++ lines section table book before rest ≡ lines section table book 0 es
    pub counted : refuses + refusals section table book rest ≡ refusals section table book es
    pub few : refuses ≤ before
    pub inside : next ≤ length book
    pub room : ends ≤ 26 + 30 * next

  pub going_first : (es : List Item) → items_at section count begin book ≡ Ok es → begin ≤ length book → at ≤ 26 + 30 * begin → Going out₀ begin 0 at 0
  going_first es is inside room =
      record {
        within = omega arith;
        es = es;
        is = is;
        rest = es;
        left = rw (sub-zero count) is;
        done = [];
        put = puts_none out₀ at;
        all = refl;
        counted = omega arith;
        few = omega arith;
        inside = inside;
        room = room;
      }

  module _ (out : List ℕ) (next before ends refuses : ℕ) (g : Going out next before ends refuses) where
    -- the next item, where one is left
    pub going_item : before < count → First section book (count - (before + 1)) next g.rest
    going_item h =
        let one : count - before ≡ suc (count - (before + 1)) = omega arith in
        items_first section book (count - (before + 1)) next g.rest (rw one at g.left)

    pub going_there : before < count → (r : Refusal) → item_at section next book ≡ Err r → ⊥
    going_there h r e =
        let f = going_item h in
        let z : ◌≡◌ {A = ℕ} 0 1 = cc f.found in
        omega arith

    pub going_room : length book ≤ 65535 → ends ≤ 1000000000
    going_room short = omega (arith, g.room, g.inside)

    pub going_next : (e : Item) (out' : List ℕ) (ends' : ℕ) → before < count → checking table ≡ Ok tt → item_at section next book ≡ Ok e →
        Puts (line_of section table book (before + 1) e) out ends out' ends' → Going out' (end e) (before + 1) ends' (refuses + from_bool (is_refused_in section table book e))
    unfolding lines refusals
    going_next e out' ends' h fine found put =
        let f = going_item h in
        let same : f.is ≡ e = cc f.found in
        let i = item_inside section next book e found in
        let rest : g.rest ≡ e ∷ f.rest = f.all ∙ ap (λ x. x ∷ f.rest) same in
        let line = rw (add-one before) at (line_small table book fine section (before + 1) e i.ends) in
        record {
          within = omega arith;
          es = g.es;
          is = g.is;
          rest = f.rest;
          left = rw same at f.follow;
          done = g.done ++ line_of section table book (before + 1) e;
          put = puts_then g.put put;
          all = rw (append_assoc, add-one before) (rw rest at g.all);
          counted = omega (arith, rw rest at g.counted, refusal_is section table book e);
          few = omega (arith, g.few, refusal_one section table book e, refusal_is section table book e);
          inside = i.ends;
          room = omega (arith, put.ends, i.starts, line_small table book fine section (before + 1) e i.ends, g.room);
        }

    -- no item is left
    pub going_last : count ≤ before → (es : List Item) → items_at section count begin book ≡ Ok es →
        Puts (lines section table book 0 es) out₀ at out ends × (refuses ≡ refusals section table book es)
    unfolding lines refusals
    going_last h es is =
        let none : count - before ≡ 0 = omega arith in
        let same : g.es ≡ es = cc g.is in
        let empty : g.rest ≡ [] = cc (rw none at g.left, items_none section book next) in
        let all : g.done ≡ lines section table book 0 es = sym (append-nil g.done) ∙ rw (empty, same) at g.all in
        (rw (← all) g.put, sym (add-zero refuses) ∙ rw (empty, same) at g.counted)
