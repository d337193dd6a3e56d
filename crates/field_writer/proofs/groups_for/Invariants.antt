use Rattle.std.proofs.Common.{◌≡◌, ℕ, ◌*◌, ◌/◌, ◌^◌, ◌≤◌, ◌<◌}
use Rattle.field_writer.proofs.groups_for.Given as goal

-- the bits left above those of `size` groups, and each of these was needed
abbrev pub invariant-loop-rest : goal.invariant-loop-rest
invariant-loop-rest l = (l.rest ≡ l.number / 2 ^ (5 * l.size)) × ((k : ℕ) → k < l.size → 2 ^ (5 * k) ≤ l.number)

abbrev pub decreases-loop-rest : goal.decreases-loop-rest
decreases-loop-rest l = l.rest
