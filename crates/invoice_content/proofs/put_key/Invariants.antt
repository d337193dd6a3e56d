use Rattle.std.proofs.Common.{◌≡◌, length, drop}
use lib.Seq.{sets}
use Rattle.invoice_content.proofs.EntryLaws.{key_at}
use Rattle.invoice_content.proofs.put_key.Given as goal

-- the bytes of the key left, put behind those that were put, are all
abbrev pub invariant-loop-i : goal.invariant-loop-i
invariant-loop-i l =
    (length l.out ≡ length l.fn.out) × (sets l.out l.i (drop l.i (key_at l.groups l.at)) ≡ sets l.fn.out 0 (key_at l.groups l.at))
