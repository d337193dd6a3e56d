-- `bigsize::peek` meets its contract: each answer by the law of its case. Assumes nothing.
use Rattle.std.proofs.Common.{arith, sym}
use Rattle.bigsize.proofs.Laws.{peeking_nothing, peeking_1, peeking_3, peeking_5, peeking_9, peeking_cut, peeking_whole, peeking_below3, peeking_below5}
use Rattle.bigsize.proofs.peek.Goals as goal

pub returns-then-bytes-eq0 : goal.returns-then-bytes-eq0
returns-then-bytes-eq0 c = sym (peeking_nothing _ c.if-bytes-eq0.true)

pub returns-then-first-lt253 : goal.returns-then-first-lt253
returns-then-first-lt253 c = sym (peeking_1 _ (omega arith) c.if-first-lt253.true)

pub returns-then-bytes-lt3 : goal.returns-then-bytes-lt3
returns-then-bytes-lt3 c = sym (peeking_below3 _ c.if-first-lt253.false c.if-bytes-lt3.true)

pub returns-then-first : goal.returns-then-first
returns-then-first c =
    let s = c.args.bytes.now in
    sym (peeking_whole s 2 (peeking_3 s c.if-first.true) _ c.read.ensures (omega arith))

pub returns-then-bytes-lt5 : goal.returns-then-bytes-lt5
returns-then-bytes-lt5 c = sym (peeking_below5 _ (omega arith) c.if-bytes-lt5.true)

pub returns-then-first-2 : goal.returns-then-first-2
returns-then-first-2 c =
    let s = c.args.bytes.now in
    sym (peeking_whole s 4 (peeking_5 s c.if-first-2.true) _ c.read-then-first-2.ensures (omega arith))

pub returns-then-bytes-lt9 : goal.returns-then-bytes-lt9
returns-then-bytes-lt9 c =
    let s = c.args.bytes.now in
    sym (peeking_cut s 8 (peeking_9 s (omega arith)) (omega arith) c.if-bytes-lt9.true)

pub returns : goal.returns
returns c =
    let s = c.args.bytes.now in
    sym (peeking_whole s 8 (peeking_9 s (omega arith)) _ c.read-2.ensures (omega arith))
