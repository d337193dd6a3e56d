-- `address::write` meets its contract: 8, 12, or the type and its rest. Assumes nothing.
use Rattle.std.proofs.Common.{arith, length, sym, ◌∙◌, add-one, length-drop}
use lib.ListN.{length-set}
use Rattle.laws.proofs.Lists.{part_tail}
use Rattle.address.proofs.Laws.{written, writing_no, writing_short, writing_fits}
use Rattle.address.proofs.write.Goals as goal

pub returns-then-not-is_rest-clause-result_value : goal.returns-then-not-is_rest-clause-result_value
returns-then-not-is_rest-clause-result_value c =
    rw (writing_no _ (length c.args.out.now) (sym c.is_rest.ensures ∙ c.if-not-is_rest.true), c.bare.ensures)

pub returns-then-not-is_rest-clause-out_after : goal.returns-then-not-is_rest-clause-out_after
returns-then-not-is_rest-clause-out_after c = rw (writing_no _ (length c.args.out.now) (sym c.is_rest.ensures ∙ c.if-not-is_rest.true))

pub returns-then-out-rest-clause-result_value : goal.returns-then-out-rest-clause-result_value
returns-then-out-rest-clause-result_value c =
    rw (writing_short _ _ (sym c.is_rest.ensures ∙ c.if-not-is_rest.false) c.if-out-rest.true, c.bare-then-out-rest.ensures)

pub returns-then-out-rest-clause-out_after : goal.returns-then-out-rest-clause-out_after
returns-then-out-rest-clause-out_after c = rw (writing_short _ _ (sym c.is_rest.ensures ∙ c.if-not-is_rest.false) c.if-out-rest.true)

pub returns-clause-result_value : goal.returns-clause-result_value
returns-clause-result_value c = rw (writing_fits _ _ (sym c.is_rest.ensures ∙ c.if-not-is_rest.false) c.if-out-rest.false, add-one)

pub returns-clause-out_after : goal.returns-clause-out_after
returns-clause-out_after c =
    let s = c.args in
    rw (writing_fits _ _ (sym c.is_rest.ensures ∙ c.if-not-is_rest.false) c.if-out-rest.false)
    (written s.out.now c.copy.new.to s.rest.now s.kind c.if-out-rest.false
    (c.copy.ensures.whole (rw (part_tail, length-drop, length-set) (omega (arith, c.if-out-rest.false)))))
