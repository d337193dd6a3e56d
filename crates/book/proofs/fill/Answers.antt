use Rattle.std.proofs.Common.{◌≡◌, ◌∙◌, ◌-◌, arith, length-set}
use Rattle.book.specs.Book.{numbers}
use Rattle.book.proofs.TableLaws.{fill_next}
use Rattle.book.proofs.fill.Goals as goal

pub loop-i-preserved : goal.loop-i-preserved
loop-i-preserved c =
    record { as_long = length-set c.loop-i.out c.loop-i.i c.number.result ∙ c.loop-i.invariant.as_long; so_far = fill_next _ _ _ _ _ _ (omega arith) c.number.ensures.0 c.loop-i.invariant.so_far }

pub returns : goal.returns
unfolding numbers
returns c =
    let none : c.args.count - c.loop-i.i ≡ 0 = omega arith in
    rw none at c.loop-i.invariant.so_far
