-- The book is refused, or put in work space that holds it, and copied where it fits.
use Rattle.std.specs.Prelude.{Ok, Err}
use Rattle.std.proofs.Common.{◌≡◌, ℕ, ◌≤◌, List, length, take, refl, sym, ap, arith}
use Rattle.std.proofs.Math.Seq.{length-take-le}
use Rattle.std.proofs.lemmas.List.Edits.{sets}
use Rattle.answer.specs.Answer.{mapped}
use Rattle.answer.proofs.Answer.{mapped_accepted, mapped_refused, handed_on, fitting_refused, fitting_short, fitting_fits}
use Rattle.book.specs.Book.{Parts, contents_of, judging}
use Rattle.book.specs.declared.Contents.{Contents}
use Rattle.book.proofs.PartLaws.{parted, judged, front_taken}
use Rattle.book_mender.specs.BookMender.{new_book}
use Rattle.book_mender.proofs.mend.Goals as goal

-- an accepted book's new one stands at the front of the work space
record Made (book put : List ℕ) (end : ℕ) : Type 0 where
  parts : Parts
  is : mapped (new_book book) (judging book) ≡ Ok (new_book book parts)
  size : end ≡ length (new_book book parts)
  inside : end ≤ length put
  there : take end put ≡ new_book book parts

made : (book work put : List ℕ) (end : ℕ) (contents : Contents) → Ok contents ≡ mapped contents_of (judging book) → 65535 ≡ length work → length put ≡ length work →
    ((p : Parts) → judging book ≡ Ok p → (end ≡ length (new_book book p)) × (end ≤ length book) × (put ≡ sets work 0 (new_book book p))) → Made book put end
made book work put end contents read long kept done =
    let t = mapped_accepted contents_of _ contents (sym read) in
    let d = done t.0 t.1 in
    let short = (parted _ t.0 (judged _ t.0 t.1).0).short in
    let inside : end ≤ length put = omega (arith, d.1, short, long, kept) in
    record {
      parts = t.0;
      is = ap (mapped (new_book book)) t.1;
      size = d.0;
      inside = inside;
      there = front_taken work put (new_book book t.0) end d.2 d.0 (omega (arith, inside, kept));
    }

pub put_book-size-requires-clause-book_in_bounds : goal.put_book-size-requires-clause-book_in_bounds
put_book-size-requires-clause-book_in_bounds c =
    let t = mapped_accepted contents_of (judging c.args.book.now) _ (sym c.in_ok-contents.ensures.value) in
    omega (arith, (parted _ t.0 (judged _ t.0 t.1).0).short, c.space-new.ensures)

pub returns-then-out-size : goal.returns-then-out-size
returns-then-out-size c =
    let m = made _ _ _ _ _ c.in_ok-contents.ensures.value c.space-new.ensures c.put_book-size.auto.new c.put_book-size.ensures in
    rw (fitting_short length (length c.args.out.now) _ (new_book c.args.book.now m.parts) m.is (omega (arith, m.size, c.if-out-size.true)))
    (record { result_value = ap Err c.bare.ensures; out_after = refl })

pub slice_bounds-new-end : goal.slice_bounds-new-end
slice_bounds-new-end c = (made _ _ _ _ _ c.in_ok-contents.ensures.value c.space-new.ensures c.put_book-size.auto.new c.put_book-size.ensures).inside

pub slice_bounds-copy-end : goal.slice_bounds-copy-end
slice_bounds-copy-end c =
    sym (length-take-le _ _ (made _ _ _ _ _ c.in_ok-contents.ensures.value c.space-new.ensures c.put_book-size.auto.new c.put_book-size.ensures).inside)

pub returns-in_err-contents : goal.returns-in_err-contents
returns-in_err-contents c =
    let r = mapped_refused contents_of (judging c.args.book.now) _ (sym c.in_err-contents.ensures.value) in
    rw (fitting_refused length (length c.args.out.now) (mapped (new_book c.args.book.now) (judging c.args.book.now)) _ (ap (mapped (new_book c.args.book.now)) r))
    (record { result_value = handed_on c.from_residual.ensures.1; out_after = refl })

pub returns : goal.returns
returns c =
    let m = made _ _ _ _ _ c.in_ok-contents.ensures.value c.space-new.ensures c.put_book-size.auto.new c.put_book-size.ensures in
    rw (fitting_fits length (length c.args.out.now) _ (new_book c.args.book.now m.parts) m.is (omega (arith, m.size, c.if-out-size.false)))
    (record { result_value = ap Ok m.size; out_after = rw m.there at (c.copy.ensures.whole (rw m.there (omega (arith, m.size, c.if-out-size.false)))) })
