-- Sorted and sifted.
use Rattle.std.proofs.Common.{◌∙◌, ◌++◌, false, ap, drop, arith}
use Rattle.std.proofs.Math.Seq.{length-take-le}
use Rattle.sorting.specs.Sorting.{sorted, key_by}
use Rattle.mender.proofs.Placed.{front_sorted, front_room, sift_whole, sift_rises, arranged, read_half}
use Rattle.mender.proofs.order.arrange.Goals as goal

pub sift-requires : goal.sift-requires
sift-requires c =
    let key = key_by c.args.stream.now false in
    let bound = c.requires.n_in_bounds in
    let room = front_room key _ _ c.args.n _ bound.0 bound.1 c.sort.ensures.order_after in
    let order = front_sorted key _ _ c.args.n _ bound.0 bound.1 c.sort.ensures.order_after ∙ ap (sorted key) bound.2 in
    let m = length-take-le c.args.n (c.sort.new.order ++ drop c.args.n c.args.order.now) room in
    record {
      stream_len_bound = (c.requires.stream_len_bound.0, omega (arith, m, read_half c.args.stream.now, c.requires.stream_len_bound.0, c.requires.stream_len_bound.1));
      are_whole = (sift_whole _ _ _ c.requires.stream_len_bound.1 order, sift_rises _ _ _ c.requires.stream_len_bound.1 order);
    }

pub returns : goal.returns
returns c =
    let key = key_by c.args.stream.now false in
    let bound = c.requires.n_in_bounds in
    let order = front_sorted key _ _ c.args.n _ bound.0 bound.1 c.sort.ensures.order_after ∙ ap (sorted key) bound.2 in
    arranged _ _ _ c.requires.stream_len_bound.1 order c.sift.new.order _ (omega (arith, c.sift.auto)) c.sift.ensures
