-- The parts, then the table, checked and handed over.
use Rattle.std.specs.Prelude.{Ok, Err}
use Rattle.std.proofs.Common.{◌≡◌, ◌∙◌, ℕ, ◌*◌, ◌≤◌, List, take, drop, refl, sym, ap, arith, replicate}
use Rattle.std.proofs.Math.Seq.{sets}
use Rattle.laws.proofs.Lists.{sets_front}
use Rattle.answer.specs.Answer.{Answer}
use Rattle.answer.proofs.Answer.{handed_on, mapped_refused}
use Rattle.table.specs.Table.{checking}
use Rattle.table.proofs.Laws.{checking_long}
use Rattle.book.specs.Book.{numbers, contents_of}
use Rattle.book.specs.declared.Contents.{Contents}
use Rattle.book.proofs.PartLaws.{Whole, whole, front_taken, judging_parts_is, judging_table, judging_fine}
use Rattle.book.proofs.TableLaws.{length_numbers}
use Rattle.book.proofs.read.Goals as goal

-- the table that is checked is the book's
checked : (book : List ℕ) (c : Contents) (w : Whole book c) (laid : List ℕ) (x : Answer (Unit {0})) → c.rows * 4 ≤ 1024 →
    laid ≡ sets (replicate 1024 0) 0 (numbers (c.rows * 4) (drop 2 book)) → x ≡ checking (take (c.rows * 4) laid) → checking w.parts.table ≡ x
checked book c w laid x few is h =
    let taken = front_taken (replicate 1024 0) _ _ _ is (sym (length_numbers (c.rows * 4) (drop 2 book))) few in
    sym (h ∙ ap checking (taken ∙ sym w.table))

pub returns-in_err-contents : goal.returns-in_err-contents
returns-in_err-contents c =
    let e = judging_parts_is _ _ (mapped_refused contents_of _ _ (sym c.in_err-contents.ensures)) in
    rw e (record { value = handed_on c.from_residual.ensures.1; table_after = refl })

pub returns-then-rows-gt256 : goal.returns-then-rows-gt256
returns-then-rows-gt256 c =
    let w = whole _ _ (sym c.in_ok-contents.ensures) in
    rw (judging_table _ w.parts w.fine _ (checking_long _ (omega (arith, w.long, c.if-rows-gt256.true))))
    (record { value = ap Err c.bare.ensures; table_after = refl })

pub fill-requires : goal.fill-requires
fill-requires c =
    let w = whole _ _ (sym c.in_ok-contents.ensures) in
    (omega arith, omega (arith, w.long, w.inside))

pub returns-in_err-check : goal.returns-in_err-check
returns-in_err-check c =
    let w = whole _ _ (sym c.in_ok-contents.ensures) in
    rw (judging_table _ w.parts w.fine _ (checked _ _ w _ _ (omega arith) c.fill.ensures c.in_err-check.ensures))
    (record { value = handed_on c.from_residual-in_err-check.ensures.1; table_after = refl })

pub fill-requires-2 : goal.fill-requires-2
fill-requires-2 c =
    let w = whole _ _ (sym c.in_ok-contents.ensures) in
    (omega arith, omega (arith, w.long, w.inside))

pub returns : goal.returns
returns c =
    let w = whole _ _ (sym c.in_ok-contents.ensures) in
    let rows = c.in_ok-contents.contents.rows in
    rw (judging_fine _ w.parts w.fine (checked _ _ w _ _ (omega arith) c.fill.ensures c.in_ok-check.ensures))
    (record {
      value = ap Ok (sym w.is);
      table_after = rw w.table (c.fill-2.ensures ∙ sets_front c.args.table.now (numbers (rows * 4) (drop 2 c.args.book.now)) (rw length_numbers (omega arith)));
    })
