-- Items, and a section of them, that lie at another place in another book. Assumes nothing.
use Rattle.std.specs.Prelude.{Ok}
use mathlib.Core.List.{List, [], ◌∷◌}
use mathlib.Core.Path.{◌≡◌, refl, sym, ap, ◌∙◌}
use Prim.Native.Nat.{ℕ, zero, suc, ◌+◌, ◌≤◌}
use native.Mathlib.Omega.{arith}
use lib.ListN.{length, take, drop, length-drop}
use lib.Seq.{drop-drop}
use Rattle.laws.specs.Digits.{from_bytes}
use Rattle.answer.proofs.Answer.{then_accepted, both, ensured}
use Rattle.book.specs.Book.{number_at, lead, item, end, part_of, item_at, items_at, end_from, Listed, end_of, section_at}
use Rattle.book.specs.declared.Item.{Item}
use Rattle.book.specs.declared.Section.{Section}
use Rattle.book.proofs.SectionLaws.{number_there, number_inside, item_there, item_inside, items_first, items_none}
use Rattle.book_mender.specs.BookMender.{heard}

-- a number that was read
pub number_is : (at : ℕ) (book : List ℕ) (n : ℕ) → number_at at book ≡ Ok n → n ≡ from_bytes (take 2 (drop at book))
unfolding number_at
number_is at book n h = cc (ensured _ _ _ n h).rest

-- what an item is made of
pub record Made (section : Section) (at : ℕ) (book : List ℕ) (e : Item) : Type 0 where
  pub namespace : e.namespace ≡ from_bytes (take (lead section) (drop at book))
  pub size : e.size ≡ from_bytes (take 2 (drop (at + lead section) book))

pub item_made : (section : Section) (at : ℕ) (book : List ℕ) (e : Item) → item_at section at book ≡ Ok e → Made section at book e
unfolding item_at
item_made section at book e h =
    let b = both _ _ e h in
    let t = ensured _ _ _ e b.second in
    let is : item (from_bytes (take (lead section) (drop at book))) (at + lead section + 2) b.is ≡ e = cc t.rest in
    record { namespace = ap (λ (x : Item). x.namespace) (sym is); size = ap (λ (x : Item). x.size) (sym is) ∙ number_is (at + lead section) book b.is b.first }

-- one item more
pub items_more : (section : Section) (book : List ℕ) (n at : ℕ) (e : Item) (es : List Item) → item_at section at book ≡ Ok e →
    items_at section n (end e) book ≡ Ok es → items_at section (suc n) at book ≡ Ok (e ∷ es)
unfolding items_at
items_more section book n at e es first rest = then_accepted e _ _ first ∙ then_accepted es _ _ rest

-- a section of a count and items
pub section_is : (section : Section) (book : List ℕ) (at count : ℕ) (es : List Item) → number_at at book ≡ Ok count →
    items_at section count (at + 2) book ≡ Ok es → section_at section at book ≡ Ok (record { begin = at + 2; items = es })
unfolding section_at
section_is section book at count es first rest = then_accepted count _ _ first ∙ then_accepted es _ _ rest

module _ (section : Section) (old new : List ℕ) where
  -- what lies behind two places is the same, so it is behind as many bytes more
  further : (at at' k : ℕ) → drop at' new ≡ drop at old → drop (at' + k) new ≡ drop (at + k) old
  further at at' k same = sym (drop-drop k at' new) ∙ ap (drop k) same ∙ drop-drop k at old

  record MovedItem (at' : ℕ) (e : Item) : Type 0 where
    is : Item
    found : item_at section at' new ≡ Ok is
    namespace : is.namespace ≡ e.namespace
    part : part_of is new ≡ part_of e old
    behind : drop (end is) new ≡ drop (end e) old

  item_moved : (at at' : ℕ) (e : Item) → drop at' new ≡ drop at old → item_at section at old ≡ Ok e → MovedItem at' e
  item_moved at at' e same h =
      let m = item_made section at old e h in
      let i = item_inside section at old e h in
      let here : drop (at' + lead section) new ≡ drop (at + lead section) old = further at at' (lead section) same in
      let size : e.size ≡ from_bytes (take 2 (drop (at' + lead section) new)) = m.size ∙ ap (λ (x : List ℕ). from_bytes (take 2 x)) (sym here) in
      let long : at' + lead section + 2 + e.size ≤ length new =
      omega (arith, i.starts, i.ends, length-drop at old, length-drop at' new, ap length same) in
      let start : drop (at' + lead section + 2) new ≡ drop e.start old =
      further (at + lead section) (at' + lead section) 2 here ∙ ap (λ (k : ℕ). drop k old) (sym i.starts) in
      record {
        is = item (from_bytes (take (lead section) (drop at' new))) (at' + lead section + 2) e.size;
        found = item_there section at' new e.size (omega (arith, long)) size long;
        namespace = ap (λ (x : List ℕ). from_bytes (take (lead section) x)) same ∙ sym m.namespace;
        part = ap (take e.size) start;
        behind = further e.start (at' + lead section + 2) e.size start;
      }

  pub record MovedItems (n at' : ℕ) (es : List Item) (last : List ℕ) : Type 0 where
    pub are : List Item
    pub found : items_at section n at' new ≡ Ok are
    pub same : heard new are ≡ heard old es
    pub behind : drop (end_from at' are) new ≡ last

  pub items_moved : (n at at' : ℕ) (es : List Item) → drop at' new ≡ drop at old → items_at section n at old ≡ Ok es →
      MovedItems n at' es (drop (end_from at es) old)
  items_moved zero at at' es same h =
      let none : [] ≡ es = cc (items_none section old at) in
      rw (← none) (record { are = []; found = items_none section new at'; same = refl; behind = same })
  items_moved (suc n) at at' es same h =
      let f = items_first section old n at es h in
      let m = item_moved at at' f.is same f.found in
      let more = items_moved n (end f.is) (end m.is) f.rest m.behind f.follow in
      rw f.all (record {
        are = m.is ∷ more.are;
        found = items_more section new n at' m.is more.are m.found more.found;
        same = rw (m.namespace, m.part, more.same) refl;
        behind = more.behind;
      })

  pub record MovedSection (at' : ℕ) (l : Listed) : Type 0 where
    pub is : Listed
    pub found : section_at section at' new ≡ Ok is
    pub same : heard new is.items ≡ heard old l.items
    pub behind : drop (end_of is) new ≡ drop (end_of l) old

  pub section_moved : (at at' : ℕ) (l : Listed) → drop at' new ≡ drop at old → section_at section at old ≡ Ok l → MovedSection at' l
  unfolding section_at
  section_moved at at' l same h =
      let a = both _ _ l h in
      let b = both _ _ l a.second in
      let is : ◌≡◌ {A = Listed} (record { begin = at + 2; items = b.is }) l = cc b.second in
      let inside = number_inside at old a.is a.first in
      let count : number_at at' new ≡ Ok a.is =
      number_there at' new (omega (arith, inside, length-drop at old, length-drop at' new, ap length same))
      ∙ ap Ok (ap (λ (x : List ℕ). from_bytes (take 2 x)) same ∙ sym (number_is at old a.is a.first)) in
      let m = items_moved a.is (at + 2) (at' + 2) b.is (further at at' 2 same) b.first in
      rw (← is) (record { is = record { begin = at' + 2; items = m.are }; found = section_is section new at' a.is m.are count m.found; same = m.same; behind = m.behind })
