-- Each number of the entry.
use native.Mathlib.Omega.{arith}
use mathlib.Core.Path.{sym, ◌∙◌}
use Prim.Native.Nat.{◌+◌}
use lib.Dec.{lit≤}
use Rattle.invoice_content.proofs.EntryLaws.{few_below, entry_number}
use Rattle.invoice_content.proofs.hop_at.Goals as goal

pub overflow_cast-result : goal.overflow_cast-result
overflow_cast-result c = omega (arith, c.few_bytes.ensures, few_below c.args.groups.now (c.args.at + 49) 2 (omega arith))

pub returns : goal.returns
returns c =
    let at = entry_number c.args.groups.now c.args.at (omega arith) in
    rw (
      c.eight_bytes.ensures ∙ sym (at 33 8 (lit≤ tt)),
      c.eight_bytes-2.ensures ∙ sym (at 41 8 (lit≤ tt)),
      c.few_bytes.ensures ∙ sym (at 49 2 (lit≤ tt)),
    )
