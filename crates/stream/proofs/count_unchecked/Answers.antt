-- `stream::count_unchecked` meets its contract: each answer by its rule. Assumes nothing.
use Rattle.std.proofs.Common.{arith, ◌≡◌, ◌<◌, ◌≤◌, length, drop, length-drop}
use Rattle.laws.proofs.Lists.{part_tail}
use Rattle.stream.specs.Sought.{ends, outside, long, read}
use Rattle.stream.proofs.count_unchecked.Goals as goal

pub returns-then-namespace-gt63 : goal.returns-then-namespace-gt63
returns-then-namespace-gt63 c = rw c.bare.ensures (outside c.if-namespace-gt63.true)

pub returns-then-bytes-begin : goal.returns-then-bytes-begin
returns-then-bytes-begin c =
    let a = c.args in
    let none : length (drop a.begin a.bytes.now) ≡ 0 = omega (arith, length-drop a.begin a.bytes.now, c.if-bytes-begin.true) in
    read c.if-namespace-gt63.false (omega arith) (ends none)

pub returns-then-bytes-begin-gt65535 : goal.returns-then-bytes-begin-gt65535
returns-then-bytes-begin-gt65535 c =
    let a = c.args in
    let most : 65535 < length (drop a.begin a.bytes.now) = omega (arith, length-drop a.begin a.bytes.now, c.if-bytes-begin-gt65535.true) in
    rw c.bare-then-bytes-begin-gt65535.ensures (long c.if-namespace-gt63.false most)

pub returns : goal.returns
returns c =
    let a = c.args in
    let short : length (drop a.begin a.bytes.now) ≤ 65535 = omega (arith, length-drop a.begin a.bytes.now, c.if-bytes-begin-gt65535.false) in
    read c.if-namespace-gt63.false short (rw part_tail at c.judge_stream.ensures)
