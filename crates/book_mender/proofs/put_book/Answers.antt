-- What stands before the streams, the streams, and what stands behind them.
use Rattle.std.specs.Prelude.{Ok}
use Rattle.std.proofs.Common.{◌≡◌, ℕ, ◌+◌, ◌-◌, ◌≤◌, List, ◌++◌, length, take, drop, length-drop, sym, ap, ◌∙◌, arith}
use Rattle.std.proofs.Math.Seq.{length-take-le}
use Rattle.std.proofs.lemmas.List.Edits.{sets}
use Rattle.laws.proofs.Lists.{sets_front, part_tail, tail_put}
use Rattle.book.specs.Book.{Parts, run_of, end_of, end_from, items_at, judging}
use Rattle.book.specs.declared.Item.{Item}
use Rattle.book.specs.declared.Run.{Run}
use Rattle.book.specs.declared.Section.TheVariants as Section
use Rattle.book.proofs.PartLaws.{Parted, parted, judged}
use Rattle.book.proofs.SectionLaws.{run_items, run_inside}
use Rattle.book_mender.specs.BookMender.{new_streams}
use Rattle.book_mender.proofs.Putting.{whole_put}
use Rattle.book_mender.proofs.put_book.Goals as goal

module _ (book : List ℕ) (streams : Run) (v : (p : Parts) × (judging book ≡ Ok p) × (run_of p.streams ≡ streams)) where
  -- the parts of the book
  parts : Parted book v.0
  parts = parted _ v.0 (judged _ v.0 v.1).0

  begins : streams.begin ≤ length book
  begins = run_inside _ _ _ _ parts.streams _ v.2

  -- the streams are the run's
  items : items_at Section.Streams streams.count streams.begin book ≡ Ok v.0.streams.items
  items = run_items _ _ _ _ parts.streams _ v.2

  -- what the streams become is put
  record Put (new put : List ℕ) (old at : ℕ) : Type 0 where
    ends : old ≡ end_of v.0.streams
    inside : old ≤ length book
    behind : at ≤ old
    begin : streams.begin ≡ v.0.streams.begin
    starts : at ≡ streams.begin + length (new_streams book v.0.streams.items)
    there : put ≡ sets (sets new 0 (take streams.begin book)) streams.begin (new_streams book v.0.streams.items)

  are_put : (new front put : List ℕ) (old at : ℕ) → length book ≤ length new →
      (length (take streams.begin book) ≤ length new → front ≡ take streams.begin book ++ drop (length (take streams.begin book)) new) →
      ((es : List Item) → items_at Section.Streams streams.count streams.begin book ≡ Ok es →
      (old ≡ end_from streams.begin es) × (at ≤ old) × (at ≡ streams.begin + length (new_streams book es)) × (put ≡ sets front streams.begin (new_streams book es))) →
      Put new put old at
  are_put new front put old at room copied done =
      let e = done _ items in
      let begin = ap (λ (r : Run). r.begin) (sym v.2) in
      let ends = e.0 ∙ ap (λ (x : ℕ). end_from x v.0.streams.items) begin in
      let fits : length (take streams.begin book) ≤ length new = omega (arith, length-take-le streams.begin book begins, begins) in
      let before = copied fits ∙ sym (sets_front new (take streams.begin book) fits) in
      record {
        ends = ends;
        inside = omega (arith, ends, parts.streams.ends);
        behind = e.1;
        begin = begin;
        starts = e.2;
        there = e.3 ∙ ap (λ (m : List ℕ). sets m streams.begin (new_streams book v.0.streams.items)) before;
      }

pub slice_bounds-copy-end : goal.slice_bounds-copy-end
slice_bounds-copy-end c = sym (length-take-le _ _ (begins _ _ c.requires.book_value))

pub put_streams-place-requires-clause-begin_in_bounds : goal.put_streams-place-requires-clause-begin_in_bounds
put_streams-place-requires-clause-begin_in_bounds c =
    (begins _ _ c.requires.book_value, (parts _ _ c.requires.book_value).short, omega (arith, c.copy.auto.to, c.requires.book_in_bounds))

pub put_streams-place-requires-clause-book_value : goal.put_streams-place-requires-clause-book_value
put_streams-place-requires-clause-book_value c = (c.requires.book_value.0.streams.items, items _ _ c.requires.book_value)

pub slice_bounds-copy-count : goal.slice_bounds-copy-count
slice_bounds-copy-count c = (are_put _ _ c.requires.book_value _ _ _ _ _ c.requires.book_in_bounds c.copy.ensures.whole c.put_streams-place.ensures).inside

pub slice_bounds-copy-start : goal.slice_bounds-copy-start
slice_bounds-copy-start c = (are_put _ _ c.requires.book_value _ _ _ _ _ c.requires.book_in_bounds c.copy.ensures.whole c.put_streams-place.ensures).inside

pub slice_bounds-copy-count-2 : goal.slice_bounds-copy-count-2
slice_bounds-copy-count-2 c =
    let p = are_put _ _ c.requires.book_value _ _ _ _ _ c.requires.book_in_bounds c.copy.ensures.whole c.put_streams-place.ensures in
    omega (arith, p.inside, p.behind, c.requires.book_in_bounds, c.copy.auto.to, c.put_streams-place.auto.new)

pub slice_bounds-copy-start-2 : goal.slice_bounds-copy-start-2
slice_bounds-copy-start-2 c =
    let p = are_put _ _ c.requires.book_value _ _ _ _ _ c.requires.book_in_bounds c.copy.ensures.whole c.put_streams-place.ensures in
    omega (arith, p.inside, p.behind, c.requires.book_in_bounds, c.copy.auto.to, c.put_streams-place.auto.new)

pub overflow_sub-result : goal.overflow_sub-result
overflow_sub-result c = (are_put _ _ c.requires.book_value _ _ _ _ _ c.requires.book_in_bounds c.copy.ensures.whole c.put_streams-place.ensures).inside

pub overflow_add-result : goal.overflow_add-result
overflow_add-result c =
    let p = are_put _ _ c.requires.book_value _ _ _ _ _ c.requires.book_in_bounds c.copy.ensures.whole c.put_streams-place.ensures in
    omega (arith, p.inside, p.behind, (parts _ _ c.requires.book_value).short)

pub returns : goal.returns
returns c q fine =
    let v = c.requires.book_value in
    let book = c.args.book.now in
    let put = c.put_streams-place.new.new in
    let old = c.put_streams-place.result.old in
    let at = c.put_streams-place.result.new in
    let p = are_put _ _ v _ _ _ _ _ c.requires.book_in_bounds c.copy.ensures.whole c.put_streams-place.ensures in
    let same : v.0 ≡ q = cc (v.1, fine) in
    let fits : at + length (drop old book) ≤ length put =
    omega (arith, p.inside, p.behind, length-drop old book, c.requires.book_in_bounds, c.copy.auto.to, c.put_streams-place.auto.new) in
    let room : length (drop old book) ≤ length (take (length put - at) (drop at put)) = rw (part_tail put at) (omega (arith, fits, length-drop at put)) in
    let behind = tail_put put (drop old book) _ at fits ((rw (part_tail book old) at c.copy-2.ensures.whole) room) in
    let w = whole_put book v.0 _ _ _ _ _ _ p.begin (begins _ _ v) p.ends p.starts p.there behind in
    rw (← same) (w.size, omega (arith, p.inside, p.behind), w.is)
