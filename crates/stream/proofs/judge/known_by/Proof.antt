-- `stream::judge::known_by` meets its contract: the two ways of its test. Assumes nothing.
use borrow.Author.Tests.{eq-eqb, ne_eqb}
use mathlib.Core.Path.{sym}
use Rattle.laws.proofs.Test.{pick_yes, pick_no}
use Rattle.stream.proofs.judge.known_by.Statement.{statement}
use Rattle.stream.proofs.judge.known_by.Tie as tie

returns : tie.Need-returns-then-mark-eq0
returns c = sym (pick_yes _ _ _ (eq-eqb _ _ c.if-mark-eq0.true))

returns-2 : tie.Need-returns
returns-2 c = sym (pick_no _ _ _ (ne_eqb _ _ c.if-mark-eq0.false))

pub known_by_spec : {M : Type 1} → statement M
known_by_spec = tie.close (tie.spec returns returns-2)
