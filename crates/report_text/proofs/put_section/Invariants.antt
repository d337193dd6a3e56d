-- The lines that are put and those of the items left are all lines.
use Rattle.report_text.proofs.Going.{Going}
use Rattle.report_text.proofs.put_section.Given as goal

abbrev pub invariant-loop-before : goal.invariant-loop-before
invariant-loop-before l =
    Going l.section l.table l.book l.fn.run.count l.fn.run.begin l.initial.out l.fn.at l.out l.next l.before l.end l.refused
