-- The digits of what is left, and those that stand already, are the whole; what stands before them is as it was.
use Rattle.std.proofs.Common.{◌≡◌, ◌^◌, ◌<◌, ◌≤◌, ◌++◌, take, drop}
use Rattle.halves.specs.Halves.{value, digits, decimal}
use Rattle.halves.proofs.spell.Given as goal

abbrev pub invariant-loop-parts : goal.invariant-loop-parts
invariant-loop-parts l = record {
  within : l.at ≤ 39;
  some : 0 < l.at;
  fits : value l.rest < 10 ^ l.at;
  kept : take l.at l.text ≡ take l.at l.fn.text;
  so_far : digits l.at (value l.rest) ++ drop l.at l.text ≡ decimal (value l.fn.sum);
}

abbrev pub decreases-loop-parts : goal.decreases-loop-parts
decreases-loop-parts l = l.at
