-- 16, 34, or the field's groups.
use Rattle.std.specs.Prelude.{Err}
use native.Mathlib.Nat.{add-sub_cancel_left}
use native.Mathlib.Omega.{arith}
use mathlib.Core.Path.{◌≡◌, ap}
use Rattle.laws.proofs.Lists.{length_part}
use Rattle.invoice_text.specs.Text.{first_where, is_above31}
use Rattle.invoice_content.specs.Content.{groups_at}
use Rattle.invoice_content.proofs.CheckLaws.{checking_outside, checking_above, checking_sound}
use Rattle.invoice_content.proofs.part.Goals as goal
use Rattle.invoice_content.proofs.part.Goals.{After-first_where-above}

pub returns-then-count-start : goal.returns-then-count-start
returns-then-count-start c =
    let a = c.args in
    rw (checking_outside a.groups.now a.start a.size (omega arith)) (ap Err c.bare.ensures)

-- what the search of the part found
found : (c : After-first_where-above) →
    let a = c.args in
    c.first_where-above.result ≡ first_where is_above31 (groups_at a.groups.now a.start a.size)
found c = rw add-sub_cancel_left at c.first_where-above.ensures

pub returns-then-above-part : goal.returns-then-above-part
returns-then-above-part c =
    let n = found (goal.at.returns-then-above-part c).After-first_where-above in
    let a = c.args in
    let long = length_part a.groups.now a.start a.size (omega arith) in
    rw (checking_above a.groups.now a.start a.size (omega arith) (omega (arith, n, long, rw add-sub_cancel_left at c.if-above-part.true)), ← n) (ap Err c.at.ensures)

pub returns : goal.returns
returns c =
    let n = found (goal.at.returns c).After-first_where-above in
    let a = c.args in
    let long = length_part a.groups.now a.start a.size (omega arith) in
    rw (checking_sound a.groups.now a.start a.size (omega arith) (omega (arith, n, long, rw add-sub_cancel_left at c.if-above-part.false)), add-sub_cancel_left)
