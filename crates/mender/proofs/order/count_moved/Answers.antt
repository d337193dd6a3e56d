-- The places are copied, put in their own order and compared.
use Rattle.std.proofs.Common.{◌≡◌, ◌∙◌, ◌≤◌, true, refl, ap, length, take, drop, arith, take_at}
use Rattle.sorting.specs.Sorting.{sorted, key_by}
use Rattle.mender.proofs.Placed.{front_sorted}
use Rattle.mender.proofs.order.count_moved.Goals as goal

pub returns : goal.returns
returns c =
    let key = key_by c.args.stream.now true in
    let order = c.args.order.now in
    let room : length order ≤ length c.copy.new.to = omega arith in
    let copied : take (length order) c.copy.new.to ≡ order = rw (c.copy.ensures.whole c.requires.0) (take_at order (drop (length order) c.args.old.now) (length order) refl) in
    let e = front_sorted key _ _ _ _ room c.requires.1 c.sort.ensures.order_after ∙ ap (sorted key) copied in
    rw e at c.count_differing.ensures
