-- `message::group` meets its contract: each range by its law. Assumes nothing.
use native.Mathlib.Omega.{arith}
use mathlib.Core.Path.{sym}
use Rattle.message.proofs.GroupLaws.{group_1, group_2, group_3, group_4, group_5, group_0}
use Rattle.message.proofs.group.Statement.{statement}
use Rattle.message.proofs.group.Tie as tie

returns : tie.Need-returns-then-kind-le31
returns c = sym (group_1 _ (omega arith))

returns-2 : tie.Need-returns-then-kind-le127
returns-2 c = sym (group_2 _ (omega arith) (omega arith))

returns-3 : tie.Need-returns-then-kind-le255
returns-3 c = sym (group_3 _ (omega arith) (omega arith))

returns-4 : tie.Need-returns-then-kind-le511
returns-4 c = sym (group_4 _ (omega arith) (omega arith))

returns-5 : tie.Need-returns-then-kind-ge32768
returns-5 c = sym (group_5 _ (omega arith))

returns-6 : tie.Need-returns
returns-6 c = sym (group_0 _ (omega arith) (omega arith))

pub group_spec : {M : Type 1} → statement M
group_spec = tie.close (tie.spec returns returns-2 returns-3 returns-4 returns-5 returns-6)
