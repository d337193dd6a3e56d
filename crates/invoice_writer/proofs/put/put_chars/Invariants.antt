use Rattle.std.proofs.Common.{◌≡◌, ◌+◌, length, drop, map}
use lib.Seq.{sets}
use Rattle.bech32.specs.Alphabet.{char_of}
use Rattle.bech32.specs.Groups.{low5}
use Rattle.invoice_writer.proofs.put.put_chars.Given as goal

-- the characters left, put behind those that were put, are all
abbrev pub invariant-loop-i : goal.invariant-loop-i
invariant-loop-i l =
    (length l.out ≡ length l.fn.out)
    × (sets l.out (l.at + l.i) (map (λ g. char_of (low5 g)) (drop l.i l.groups)) ≡ sets l.fn.out l.at (map (λ g. char_of (low5 g)) l.groups))
