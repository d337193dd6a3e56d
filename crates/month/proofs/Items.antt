-- The items of a section that are left, one after the other. Assumes nothing.
use Rattle.std.specs.Prelude.{Ok}
use Rattle.std.proofs.Common.{◌≡◌, ℕ, suc, ◌-◌, ◌<◌, ◌≤◌, List, [], ◌∷◌, ap, ◌∙◌, arith}
use Rattle.answer.specs.Answer.{Answer}
use Rattle.book.specs.Book.{end, item_at, items_at}
use Rattle.book.specs.declared.Item.{Item}
use Rattle.book.specs.declared.Section.{Section}
use Rattle.book.proofs.SectionLaws.{First, items_first, items_none}

-- a section has no other items
pub same_items : (x : Answer (List Item)) {es fs : List Item} → x ≡ Ok es → x ≡ Ok fs → es ≡ fs
same_items x h k = cc

module _ (section : Section) (book : List ℕ) (left next : ℕ) (es : List Item) (are : items_at section left next book ≡ Ok es) where
  first : 0 < left → First section book (left - 1) next es
  first more =
      let one : left ≡ suc (left - 1) = omega arith in
      items_first section book (left - 1) next es (rw one at are)

  -- there is one
  pub item_there : 0 < left → (e : Item) × (item_at section next book ≡ Ok e)
  item_there more = ((first more).is, (first more).found)

  -- the one that was found, and those behind it
  pub record Behind (e : Item) : Type 0 where
    pub rest : List Item
    pub all : es ≡ e ∷ rest
    pub follow : items_at section (left - 1) (end e) book ≡ Ok rest

  pub item_next : 0 < left → (e : Item) → item_at section next book ≡ Ok e → Behind e
  item_next more e found =
      let f = first more in
      let same : f.is ≡ e = cc f.found in
      record { rest = f.rest; all = f.all ∙ ap (λ x. x ∷ f.rest) same; follow = rw same at f.follow }

  -- there is none
  pub items_done : left ≤ 0 → es ≡ []
  items_done none =
      let zero : left ≡ 0 = omega arith in
      cc (rw zero at are, items_none section book next)
