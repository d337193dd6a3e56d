-- By the bits left over.
use native.Mathlib.Omega.{arith}
use mathlib.Core.Path.{sym}
use lib.ListN.{length}
use Rattle.till.proofs.Packing.{left_is, packed_last}
use Rattle.till.proofs.is_packed.Goals as goal

pub returns : goal.returns
returns c =
    let s = c.args.content.now in
    rw (left_is (length s)) (sym (packed_last s (omega (arith, left_is (length s))) (omega arith)))
