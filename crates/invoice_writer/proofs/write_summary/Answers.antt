-- The parts lie where the reader said.
use Rattle.std.specs.Prelude.{Ok}
use native.Mathlib.Omega.{arith}
use mathlib.Core.List.{List}
use mathlib.Core.Path.{ap, ◌∙◌}
use Prim.Native.Nat.{ℕ, ◌+◌, ◌≤◌}
use lib.ListN.{length, length-map}
use Rattle.letters.specs.Letters.{lower}
use Rattle.answer.specs.Answer.{Answer, mapped, filled}
use Rattle.invoice_writer.proofs.BackLaws.{summary_inside, summary_enough, summary_written}
use Rattle.invoice_writer.proofs.write_summary.Goals as goal
use Rattle.invoice_writer.proofs.write_summary.Goals.{Start}

inside : (s : Start) → s.args.s.amount.start + s.args.s.amount.size ≤ length s.args.text.now
inside s = let p = s.requires.text_value in summary_inside s.args.text.now s.args.groups.now s.args.s p.0 p.1 p.2 p.3

enough : (s : Start) → 111 ≤ length s.args.groups.now
enough s = let p = s.requires.text_value in summary_enough s.args.text.now s.args.groups.now s.args.s p.0 p.1 p.2 p.3

pub overflow_add-end : goal.overflow_add-end
overflow_add-end c = omega (arith, inside (goal.at.overflow_add-end c).Start)

pub overflow_sub-middle : goal.overflow_sub-middle
overflow_sub-middle c = omega (arith, enough (goal.at.overflow_sub-middle c).Start)

pub slice_bounds-write-end : goal.slice_bounds-write-end
slice_bounds-write-end c = omega (arith, inside (goal.at.slice_bounds-write-end c).Start)

pub slice_bounds-write-count-2 : goal.slice_bounds-write-count-2
slice_bounds-write-count-2 c = omega (arith, enough (goal.at.slice_bounds-write-count-2 c).Start)

pub slice_bounds-write-start-2 : goal.slice_bounds-write-start-2
slice_bounds-write-start-2 c = omega (arith, enough (goal.at.slice_bounds-write-start-2 c).Start)

pub returns : goal.returns
returns c =
    let a = c.args in
    let p = c.requires.text_value in
    let e = summary_written a.text.now a.groups.now a.s p.0 p.1 p.2 p.3 (length a.out.now) c.requires.text_in_bounds in
    record {
      result_value = c.write.ensures.result_value ∙ ap (mapped length) e ∙ ap Ok (length-map a.text.now lower);
      out_after = c.write.ensures.out_after ∙ ap (λ (x : Answer (List ℕ)). filled x a.out.now) e;
    }
