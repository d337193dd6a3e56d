-- The field's number.
use mathlib.Core.Path.{◌∙◌}
use Rattle.invoice.proofs.GroupText.{range_number}
use Rattle.invoice.proofs.number_or.Goals as goal

pub returns-in-Some : goal.returns-in-Some
returns-in-Some c =
    let f = c.in-Some.first.field in
    let lies = rw c.in-Some.is at c.requires.1 in
    rw c.in-Some.is (c.number.ensures ∙ range_number c.args.content.now f.start c.requires.0 f.size lies.1)
