-- `bigsize::width` meets its contract: the widths of the shortest form. Assumes nothing.
use mathlib.Core.Path.{sym}
use Rattle.bigsize.proofs.Laws.{width_1, width_3, width_5, width_9}
use Rattle.bigsize.proofs.width.Statement.{statement}
use Rattle.bigsize.proofs.width.Tie as tie

returns : tie.Need-returns-then-value-lt253
returns c = sym (width_1 _ c.if-value-lt253.true)

returns-2 : tie.Need-returns-then-value-lt65536
returns-2 c = sym (width_3 _ c.before.if-value-lt253.false c.if-value-lt65536.true)

returns-3 : tie.Need-returns-then-value-lt4294967296
returns-3 c = sym (width_5 _ c.before.if-value-lt65536.false c.if-value-lt4294967296.true)

returns-4 : tie.Need-returns
returns-4 c = sym (width_9 _ c.if-value-lt4294967296.false)

pub width_spec : {M : Type 1} → statement M
width_spec = tie.close (tie.spec returns returns-2 returns-3 returns-4)
