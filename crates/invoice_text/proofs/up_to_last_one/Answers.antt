-- The last "1" of the text, or none.
use Rattle.std.proofs.Common.{ℕ, ◌<◌, ◌≡◌, length, get_or, sym, rules, tests}
use Rattle.invoice_text.proofs.TextLaws.{last_none, last_at}
use Rattle.invoice_text.proofs.up_to_last_one.Goals as goal

pub returns-in-Some : goal.returns-in-Some
returns-in-Some c =
    let none : (k : ℕ) → c.in-Some.place < k → k < length c.args.text.now → get_or c.args.text.now k 0 ≡ 49 → ⊥ = search (rules, tests) in
    sym (last_at c.args.text.now c.in-Some.place (search (rules, tests)) (search (rules, tests)) none)

pub returns-in-None : goal.returns-in-None
returns-in-None c =
    let none : (k : ℕ) → k < length c.args.text.now → get_or c.args.text.now k 0 ≡ 49 → ⊥ = search (rules, tests) in
    sym (last_none c.args.text.now none)
