-- 72, the rows, then the sections.
use Rattle.std.proofs.Common.{◌*◌, drop, sym, ap, ◌∙◌, arith}
use Rattle.answer.specs.Answer.{mapped}
use Rattle.book.specs.Book.{contents_of}
use Rattle.book.proofs.PartLaws.{parting_cut, parting_behind}
use Rattle.book.proofs.TableLaws.{length_numbers, table_cut, table_short, table_there}
use Rattle.book.proofs.part.Goals as goal

pub returns-then-book-lt2 : goal.returns-then-book-lt2
returns-then-book-lt2 c = rw c.bare-then-book-lt2.ensures (sym (ap (mapped contents_of) (parting_cut _ (omega arith) (table_cut _ c.if-book-lt2.true))))

pub returns-then-book-rows : goal.returns-then-book-rows
returns-then-book-rows c =
    rw c.bare-then-book-rows.ensures
    (sym (ap (mapped contents_of) (parting_cut _ (omega arith) (table_short _ _ c.if-book-lt2.false c.number-rows.ensures.0 (omega arith)))))

pub returns : goal.returns
returns c =
    c.sections.ensures _ (length_numbers (4 * c.number-rows.result) (drop 2 c.args.book.now))
    ∙ sym (ap (mapped contents_of) (parting_behind _ (omega arith) _ (table_there _ _ c.if-book-lt2.false c.number-rows.ensures.0 (omega arith))))
