-- `month::add` meets its contract: no figures, a book too many, a pair too many, or the book is added. Assumes nothing.
use Rattle.std.specs.Prelude.{Err}
use Rattle.std.proofs.Common.{◌≡◌, ◌*◌, ◌≤◌, Bool, ℕ, List, length, sym, refl, ap, arith, rules}
use Rattle.pairs.specs.Rows.{rows_of, rows_in, ascends}
use Rattle.month.proofs.Adding.{nothing_held, too_late, too_many, taken}
use Rattle.month.proofs.Holding.{held_over, held_falls, held_yes}
use Rattle.pairs.proofs.Laying.{all_in}
use Rattle.pairs.proofs.Rising.{ascends_rises}
use Rattle.month.proofs.add.Goals as goal

-- whether the rows rise, of which there are few
rising : (rows : List ℕ) (pairs : ℕ) (r : Bool) → pairs ≤ 512 → length rows ≡ 3584 → r ≡ ascends 0 (rows_in pairs rows) → r ≡ ascends 0 (rows_of pairs rows)
rising rows pairs r few long is = let inside : pairs * 7 ≤ length rows = omega (arith, few, long) in rw (all_in pairs rows inside) at is

pub returns-then-given : goal.returns-then-given
returns-then-given c = nothing_held _ _ _ (held_over _ c.if-given.true) c.none.ensures.0 c.none.ensures.1

pub returns-then-not-are_rising : goal.returns-then-not-are_rising
returns-then-not-are_rising c =
    let falls = rising c.args.given.rows c.args.given.pairs _ c.if-given.false (search rules) c.if-not-are_rising.ensures in
    nothing_held _ _ _ (held_falls _ c.if-given.false (sym falls)) c.none-then-not-are_rising.ensures.0 c.none-then-not-are_rising.ensures.1

pub returns-then-given-ge-BOOKS : goal.returns-then-given-ge-BOOKS
returns-then-given-ge-BOOKS c =
    let rises = rising c.args.given.rows c.args.given.pairs _ c.if-given.false (search rules) c.if-not-are_rising.ensures in
    too_late _ _ _ _ (held_yes _ c.if-given.false (sym rises)) c.if-given-ge-BOOKS.true refl (ap (λ q. Err q) c.bare.ensures)

pub take-taken-requires : goal.take-taken-requires
take-taken-requires c =
    let rises = rising c.args.given.rows c.args.given.pairs _ c.if-given.false (search rules) c.if-not-are_rising.ensures in
    (search rules, c.if-given.false, ascends_rises 0 _ (sym rises))

pub returns-then-taken-gt-PAIRS : goal.returns-then-taken-gt-PAIRS
returns-then-taken-gt-PAIRS c =
    let rises = rising c.args.given.rows c.args.given.pairs _ c.if-given.false (search rules) c.if-not-are_rising.ensures in
    too_many _ _ _ _ c.if-given.false (sym rises) c.if-given-ge-BOOKS.false c.take-taken.ensures c.if-taken-gt-PAIRS.true _ c.none-then-taken-gt-PAIRS.ensures.0
    c.none-then-taken-gt-PAIRS.ensures.1

pub returns : goal.returns
returns c =
    let rises = rising c.args.given.rows c.args.given.pairs _ c.if-given.false (search rules) c.if-not-are_rising.ensures in
    taken _ _ _ _ c.if-given.false (sym rises) c.if-given-ge-BOOKS.false c.take-taken.ensures c.if-taken-gt-PAIRS.false
