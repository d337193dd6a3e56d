-- `bigsize::read` meets its contract: what is read, by what is peeked. Assumes nothing.
use Rattle.std.proofs.Common.{arith, sym, ap, ◌∙◌, Ok}
use Rattle.bigsize.proofs.Laws.{reading_nothing, reading_none, reading_long, reading_short}
use Rattle.bigsize.proofs.read.Goals as goal

pub returns-then-bytes-eq0 : goal.returns-then-bytes-eq0
returns-then-bytes-eq0 c = rw c.lacking.ensures (sym (reading_nothing _ c.if-bytes-eq0.true))

pub returns-then-n-eq0 : goal.returns-then-n-eq0
returns-then-n-eq0 c =
    rw (c.lacking-then-n-eq0.ensures, c.missing.ensures)
    (sym (reading_none _ (omega arith) (sym (ap (λ n. n.width) c.peek-n.ensures) ∙ c.if-n-eq0.true)))

pub returns-then-width-n : goal.returns-then-width-n
returns-then-width-n c =
    rw c.bare.ensures
    (sym (reading_long _ (omega arith) (rw c.peek-n.ensures at c.if-n-eq0.false) (rw (c.width.ensures, c.peek-n.ensures) at c.if-width-n.true)))

pub returns : goal.returns
returns c =
    ap Ok c.peek-n.ensures
    ∙ sym (reading_short _ (omega arith) (rw c.peek-n.ensures at c.if-n-eq0.false) (rw (c.width.ensures, c.peek-n.ensures) at c.if-width-n.false))
