use Rattle.std.proofs.Common.{◌≡◌, ℕ, ◌-◌, ◌*◌, ◌/◌, ◌%◌, ◌^◌, ◌<◌, length, get_or}
use Rattle.bech32.proofs.low_groups.Given as goal

-- the groups so far are in their places
abbrev pub invariant-loop-i : goal.invariant-loop-i
invariant-loop-i g l = (length l.groups ≡ g.row.N) × ((k : ℕ) → k < l.i → get_or l.groups k 0 ≡ l.n / 2 ^ (5 * (g.row.N - 1 - k)) % 2 ^ 5)
