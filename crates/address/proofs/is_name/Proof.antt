-- `address::is_name` meets its contract: a length byte of at least 1, and the count of bytes. Assumes nothing.
use borrow.Author.Rules.{rules}
use mathlib.Core.Path.{sym, ◌∙◌}
use native.Mathlib.Omega.{arith}
use borrow.Author.Tests.{le-leb, lt-leb}
use Rattle.address.proofs.Laws.{name_none, name_some}
use Rattle.address.proofs.is_name.Statement.{statement}
use Rattle.address.proofs.is_name.Tie as tie

returns : tie.Need-returns-then-rest-eq0
returns c = sym (name_none _ c.if-rest-eq0.true)

-- the length byte is one of a byte
cast-n : tie.Need-overflow_cast-n
cast-n c = omega (arith, c.shared_slice_known-1.given 0)

add-result : tie.Need-overflow_add-result
add-result c = omega (arith, c.before.shared_slice_known-1.given 0)

returns-2 : tie.Need-returns-then-n-ge1
returns-2 c =
    let s = c.before.before in
    sym (name_some _ (omega (arith, s.if-rest-eq0.false)) ∙ rw (le-leb 1 _ c.if-n-ge1.true))

returns-3 : tie.Need-returns-else-n-ge1
returns-3 c =
    let s = c.before.before in
    sym (name_some _ (omega (arith, s.if-rest-eq0.false)) ∙ rw (lt-leb 1 _ c.if-n-ge1.false))

pub is_name_spec : {M : Type 1} → statement M
is_name_spec = tie.close (tie.spec returns (search rules) cast-n (search rules) add-result returns-2 returns-3)
