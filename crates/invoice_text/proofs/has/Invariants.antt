use Rattle.std.proofs.Common.{◌≡◌, take}
use Rattle.invoice_text.specs.Text.{has}
use Rattle.invoice_text.proofs.has.Given as goal

-- what is known is whether there is one among the characters so far
abbrev pub invariant-loop-c : goal.invariant-loop-c
invariant-loop-c g l = l.any ≡ has g.T.Test.test (take l.c-index l.text)
