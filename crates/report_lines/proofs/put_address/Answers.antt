-- The address lies in the message. Assumes nothing.
use Rattle.std.proofs.Common.{take, drop, sym, ◌∙◌, arith}
use native.Mathlib.Nat.{add-sub_cancel_left}
use Rattle.laws.proofs.Lists.{length_part}
use Rattle.message.proofs.Described.{address_within}
use Rattle.report_lines.proofs.Sizes.{address_small}
use Rattle.report_lines.proofs.put_address.Goals as goal

pub overflow_add-end : goal.overflow_add-end
overflow_add-end c = omega (arith, address_within _ _ (sym c.requires.1 ∙ c.in-Ok.is), c.requires.2)

pub slice_bounds-put_descriptor-end : goal.slice_bounds-put_descriptor-end
slice_bounds-put_descriptor-end c = omega (arith, address_within _ _ (sym c.requires.1 ∙ c.in-Ok.is))

pub returns-in-Ok : goal.returns-in-Ok
returns-in-Ok c =
    let m = c.args.message.now in
    let x = c.in-Ok.part in
    let within = address_within m x (sym c.requires.1 ∙ c.in-Ok.is) in
    let put = rw add-sub_cancel_left at c.put_descriptor.ensures in
    rw c.in-Ok.is (put, omega (arith, put.ends, address_small (take x.size (drop x.start m)), length_part m x.start x.size within, c.requires.0, c.requires.2))
