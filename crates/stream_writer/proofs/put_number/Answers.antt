-- `stream_writer::put_number` meets its contract: the form lies over the front of the lent tail, where it fits. Assumes nothing.
use Rattle.std.proofs.Common.{arith, refl, sym, ap, ◌∙◌, ◌≡◌, ℕ, ◌+◌, ◌-◌, ◌≤◌, Ok, List, length, take, drop, length-drop}
use lib.ListN.{length-take}
use Rattle.answer.specs.Answer.{mapped}
use Rattle.bigsize.specs.BigSize.{shortest, writing}
use Rattle.bigsize.proofs.Laws.{writing_fits}
use Rattle.stream_writer.proofs.RowLaws.{number_put}
use Rattle.stream_writer.proofs.put_number.Goals as goal

-- how many bytes are written behind `at`
written : (out : List ℕ) (at value : ℕ) → at + length (shortest value) ≤ length out →
    mapped length (writing value (length (take (length out - at) (drop at out)))) ≡ Ok (length (shortest value))
written out at value fits =
    ap (mapped length) (writing_fits value _ (omega (arith, length-take (length out - at) (drop at out), length-drop at out)))

pub unwrap-requires : goal.unwrap-requires
unwrap-requires c = rw (c.write.ensures.result_value ∙ written c.args.out.now c.args.at c.args.value c.requires) refl

pub returns : goal.returns
returns c =
    let put : Ok c.unwrap.result ≡ Ok (length (shortest c.args.value)) =
    sym c.unwrap.ensures ∙ c.write.ensures.result_value ∙ written c.args.out.now c.args.at c.args.value c.requires in
    let width : c.unwrap.result ≡ length (shortest c.args.value) = cc in
    (omega (arith, width), number_put c.args.out.now _ c.args.at c.args.value c.requires c.write.ensures.out_after)
