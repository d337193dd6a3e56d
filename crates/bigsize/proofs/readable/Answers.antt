-- `bigsize::readable` meets its contract: by what is peeked. Assumes nothing.
use Rattle.std.proofs.Common.{sym}
use Rattle.bigsize.proofs.Laws.{readable_cut, readable_long, readable_short}
use Rattle.bigsize.proofs.readable.Goals as goal

pub returns-then-n-eq0 : goal.returns-then-n-eq0
returns-then-n-eq0 c = sym (readable_cut _ (rw c.peek-n.ensures at c.if-n-eq0.true))

pub returns-then-n-width : goal.returns-then-n-width
returns-then-n-width c =
    rw c.peek-n.ensures
    (sym (readable_short _ (rw c.peek-n.ensures at c.if-n-eq0.false) (rw (c.width.ensures, c.peek-n.ensures) at c.if-n-width.true)))

pub returns : goal.returns
returns c = sym (readable_long _ (rw c.peek-n.ensures at c.if-n-eq0.false) (rw (c.width.ensures, c.peek-n.ensures) at c.if-n-width.false))
