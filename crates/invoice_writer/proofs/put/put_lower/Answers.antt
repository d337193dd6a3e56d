-- The part in lower case, seen in the whole.
use native.Mathlib.Nat.{add-sub_cancel_left}
use native.Mathlib.Omega.{arith}
use mathlib.Core.List.{map, append_assoc}
use mathlib.Core.Path.{ap, ◌∙◌}
use lib.ListN.{length, length-map}
use lib.Seq.{sets-eq, drop-drop}
use Rattle.letters.specs.Letters.{lower}
use Rattle.letters.proofs.LetterLaws.{text_ascii}
use Rattle.invoice_writer.proofs.put.put_lower.Goals as goal

pub returns : goal.returns
returns c =
    let a = c.args in
    let part = c.make_ascii_lowercase.ensures.after ∙ text_ascii _ ∙ ap (map lower) c.copy_from_slice.ensures.after in
    rw (
      part,
      sets-eq (map lower a.text.now) a.out.now a.at (omega (arith, length-map a.text.now lower)),
      length-map a.text.now lower,
      add-sub_cancel_left a.at (length a.text.now),
      drop-drop (length a.text.now) a.at a.out.now,
      append_assoc,
    )
