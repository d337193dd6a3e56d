-- The place that the search finds, or the length.
use Rattle.std.proofs.Common.{length, ap, ◌∙◌, rules, tests}
use Rattle.std.specs.Option.{unwrap_or}
use Rattle.std.proofs.lemmas.Iterator.{YieldsList-from_slice}
use Rattle.std.proofs.lemmas.Iterator.Search.{position_from_yields_List}
use Rattle.invoice_text.proofs.FirstWhere.{first_searched}
use Rattle.invoice_text.proofs.first_where.Goals as goal

pub returns : goal.returns
returns g c =
    let xs = c.args.text.now in
    let found = position_from_yields_List g.T.Test.test _ _ c.position.result c.position.ensures.ran (YieldsList-from_slice xs cc) (λ x b q k. search (rules, tests)) in
    c.unwrap_or.ensures ∙ ap (λ r. unwrap_or r (length xs)) found ∙ first_searched g.T.Test.test xs
