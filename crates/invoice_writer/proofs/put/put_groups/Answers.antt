-- One run behind the other.
use mathlib.Core.Path.{◌∙◌}
use Rattle.invoice_writer.proofs.TextLaws.{groups_put}
use Rattle.invoice_writer.proofs.put.put_groups.Goals as goal

pub returns : goal.returns
returns c =
    let a = c.args in
    c.put_chars-3.ensures
    ∙ rw (c.put_chars-2.ensures, c.put_chars.ensures, c.seven_groups.ensures)
    (groups_put a.out.now a.at a.time a.fields.now a.signature.now c.requires.1 c.requires.2)
