-- `message::layout::layout_of` meets its contract: by the type. Assumes nothing.
use Rattle.std.proofs.Common.{rules, ap, Ok}
use Rattle.message.proofs.LayoutLaws.{layouts, layout_unknown}
use Rattle.message.proofs.layout.layout_of.Goals as goal

pub returns-in-16 : goal.returns-in-16
returns-in-16 c = rw (c.in-16.is, layouts.0) (ap Ok c.shaped.ensures)

pub returns-in-17 : goal.returns-in-17
returns-in-17 c = rw (c.in-17.is, layouts.1) (ap Ok c.shaped-in-17.ensures)

pub returns-in-1 : goal.returns-in-1
returns-in-1 c = rw (c.in-1.is, layouts.2) (ap Ok c.shaped-in-1.ensures)

pub returns-in-18 : goal.returns-in-18
returns-in-18 c = rw (c.in-18.is, layouts.3) (ap Ok c.shaped-in-18.ensures)

pub returns-in-19 : goal.returns-in-19
returns-in-19 c = rw (c.in-19.is, layouts.4) (ap Ok c.shaped-in-19.ensures)

pub returns-in_default : goal.returns-in_default
returns-in_default c = rw (layout_unknown c.args.kind (search rules) (search rules) (search rules) (search rules) (search rules), c.at.ensures) (search rules)
