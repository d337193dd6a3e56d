use Rattle.std.proofs.Common.{◌≡◌, ◌+◌, ◌-◌, length}
use lib.Seq.{sets}
use Rattle.bech32.specs.Groups.{digits}
use Rattle.field_writer.proofs.put_digits.Given as goal

-- the groups left, put behind those that were put, are all
abbrev pub invariant-loop-i : goal.invariant-loop-i
invariant-loop-i l =
    (length l.out ≡ length l.fn.out) × (sets l.out (l.at + l.i) (digits (l.count - l.i) l.number) ≡ sets l.fn.out l.at (digits l.count l.number))
