-- `amount_spelling::is_shortest` meets its contract.
use mathlib.Core.List.{map}
use mathlib.Core.Path.{sym, ◌∙◌}
use Rattle.letters.specs.Letters.{lower}
use Rattle.amount_spelling.proofs.Tests.{shortest_test, shortest_none, thousands_lower}
use Rattle.amount_spelling.proofs.is_shortest.Goals as goal

pub returns-in-Err : goal.returns-in-Err
returns-in-Err c = shortest_none _ _ (sym c.read_amount.ensures ∙ c.in-Err.is)

pub returns-in-Ok : goal.returns-in-Ok
returns-in-Ok c =
    let t = c.args.text.now in
    let of-t = sym c.read_amount.ensures ∙ c.in-Ok.is in
    rw (c.is_thousands.ensures, ← thousands_lower t) (shortest_test _ (map lower t) of-t)
