use Rattle.std.proofs.Common.{◌≡◌, ℕ, ◌<◌, length, get_or}
use Rattle.bech32.specs.Checksum.{generator, reduced}
use Rattle.bech32.proofs.sums.Given as goal

-- what the five bits so far choose is in its place
abbrev pub invariant-loop-chosen : goal.invariant-loop-chosen
invariant-loop-chosen l = (length l.sums ≡ 32) × ((b : ℕ) → b < l.chosen → get_or l.sums b 0 ≡ reduced generator b 0)
