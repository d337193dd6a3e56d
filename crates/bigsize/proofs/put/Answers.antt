-- `bigsize::put` meets its contract: the marking byte, and the number's bytes behind it. Assumes nothing.
use Rattle.std.proofs.Common.{arith, ◌∙◌}
use lib.ListN.{length-set}
use Rattle.bigsize.proofs.Laws.{shortest_1, shortest_3, shortest_5, shortest_9, width_1, width_3, width_5, width_9, laid}
use Rattle.bigsize.proofs.put.Goals as goal

pub bounds-out-0 : goal.bounds-out-0
bounds-out-0 c = omega (arith, width_1 _ c.if-value-lt253.true, c.requires)

pub bounds-out-0-then-value-lt65536 : goal.bounds-out-0-then-value-lt65536
bounds-out-0-then-value-lt65536 c = omega (arith, width_3 _ c.if-value-lt253.false c.if-value-lt65536.true, c.requires)

pub write-requires : goal.write-requires
write-requires c = (simp length-set (omega (arith, width_3 _ c.if-value-lt253.false c.if-value-lt65536.true, c.requires)), omega arith)

pub bounds-out-0-then-value-lt4294967296 : goal.bounds-out-0-then-value-lt4294967296
bounds-out-0-then-value-lt4294967296 c = omega (arith, width_5 _ c.if-value-lt65536.false c.if-value-lt4294967296.true, c.requires)

pub write-requires-then-value-lt4294967296 : goal.write-requires-then-value-lt4294967296
write-requires-then-value-lt4294967296 c =
    (simp length-set (omega (arith, width_5 _ c.if-value-lt65536.false c.if-value-lt4294967296.true, c.requires)), omega arith)

pub bounds-out-0-else-value-lt4294967296 : goal.bounds-out-0-else-value-lt4294967296
bounds-out-0-else-value-lt4294967296 c = omega (arith, width_9 _ c.if-value-lt4294967296.false, c.requires)

pub write-requires-else-value-lt4294967296 : goal.write-requires-else-value-lt4294967296
write-requires-else-value-lt4294967296 c = (simp length-set (omega (arith, width_9 _ c.if-value-lt4294967296.false, c.requires)), omega arith)

pub returns-then-value-lt253 : goal.returns-then-value-lt253
returns-then-value-lt253 c = laid _ _ _ (shortest_1 _ c.if-value-lt253.true) c.requires

pub returns-then-value-lt65536 : goal.returns-then-value-lt65536
returns-then-value-lt65536 c = c.write.ensures ∙ laid _ _ _ (shortest_3 _ c.if-value-lt253.false c.if-value-lt65536.true) c.requires

pub returns-then-value-lt4294967296 : goal.returns-then-value-lt4294967296
returns-then-value-lt4294967296 c =
    c.write-then-value-lt4294967296.ensures ∙ laid _ _ _ (shortest_5 _ c.if-value-lt65536.false c.if-value-lt4294967296.true) c.requires

pub returns-else-value-lt4294967296 : goal.returns-else-value-lt4294967296
returns-else-value-lt4294967296 c = c.write-else-value-lt4294967296.ensures ∙ laid _ _ _ (shortest_9 _ c.if-value-lt4294967296.false) c.requires
