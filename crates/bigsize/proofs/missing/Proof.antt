-- `bigsize::missing` meets its contract: by what the first byte announces. Assumes nothing.
use borrow.Author.Rules.{rules}
use native.Mathlib.Omega.{arith}
use Prim.Native.Nat.{◌<◌}
use lib.ListN.{get_or}
use Rattle.bigsize.proofs.Laws.{missing_nothing, missing_none, missing_behind}
use Rattle.bigsize.proofs.missing.Statement.{statement}
use Rattle.bigsize.proofs.missing.Tie as tie

returns : tie.Need-returns-then-bytes-eq0
returns c = missing_nothing _ c.if-bytes-eq0.true

returns-2 : tie.Need-returns-then-first-lt253
returns-2 c = missing_none _ (omega arith) c.if-first-lt253.true

-- the first byte is one
byte : (c : tie.Else-first-lt253) → get_or c.before.before.before.args.bytes.now 0 0 < 256
byte c = omega (arith, c.before.shared_slice_known-1.given 0)

cast-announced : tie.Need-overflow_cast-announced
cast-announced c = omega (arith, byte c)

shl-announced : tie.Need-overflow_shl-announced
shl-announced c = omega (arith, byte c)

returns-3 : tie.Need-returns-then-there-announced
returns-3 c = let e = c.before in (missing_behind _ e.if-first-lt253.false (byte e)).0 c.if-there-announced.true

returns-4 : tie.Need-returns
returns-4 c = let e = c.before in (missing_behind _ e.if-first-lt253.false (byte e)).1 c.if-there-announced.false

pub missing_spec : {M : Type 1} → statement M
missing_spec =
    tie.close
    (tie.spec returns (search rules) returns-2 (search rules) cast-announced shl-announced (search rules) (search rules) returns-3 returns-4)
