use Rattle.std.proofs.Common.{take}
use Rattle.till.proofs.Listing.{Listed}
use Rattle.till.proofs.Tally.broken.Given as goal

abbrev pub invariant-loop-i : goal.invariant-loop-i
invariant-loop-i l = Listed (take l.i l.kept) l.count l.rules
