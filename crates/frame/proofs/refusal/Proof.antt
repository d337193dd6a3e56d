-- `frame::refusal` meets its contract: by how many bytes are missing. Assumes nothing.
use borrow.Author.Rules.{rules}
use mathlib.Core.Logic.{⊎_elim}
use mathlib.Core.Path.{◌≡◌, sym, ap, ◌∙◌}
use native.Mathlib.Omega.{arith}
use Rattle.answer.specs.declared.Refusal.{Refusal}
use Rattle.answer.proofs.Answer.{refusing_is}
use Rattle.bigsize.proofs.CutShort.{reading_counted, refused_either}
use Rattle.bigsize.specs.BigSize.{missing_in}
use Rattle.frame.proofs.Laws.{fault_cut, fault_long}
use Rattle.frame.proofs.refusal.Statement.{statement}
use Rattle.frame.proofs.refusal.Tie as tie

returns : tie.Need-returns-then-missing-eq0
returns c q e =
    let t = c.before in
    let none : q.missing ≡ 0 = sym (t.missing-missing.ensures ∙ ap missing_in e) ∙ t.if-missing-eq0.true in
    ⊎_elim
    (λ cut. absurd (omega (arith, (refusing_is (reading_counted _) e).1 cut)))
    (λ two. rw (c.at.ensures, fault_long _ _ q two, none))
    (refused_either _ q e)

returns-2 : tie.Need-returns
returns-2 c q e =
    let t = c.before in
    let is : t.missing-missing.result ≡ q.missing = t.missing-missing.ensures ∙ ap missing_in e in
    ⊎_elim
    (λ cut. rw (c.lacking.ensures, fault_cut _ _ q cut, is))
    (λ two. absurd (t.if-missing-eq0.false (is ∙ ap (λ (r : Refusal). r.missing) two)))
    (refused_either _ q e)

pub refusal_spec : {M : Type 1} → statement M
refusal_spec = tie.close (tie.spec (search rules) (search rules) returns (search rules) returns-2)
