-- `stream_index::value` meets its contract: the part that was located, where it lies. Assumes nothing.
use Rattle.std.proofs.Common.{arith, sym, ap}
use native.Mathlib.Nat.{add_comm, add-sub_cancel_left}
use Rattle.stream_index.specs.Index.{part_of, part_at}
use Rattle.stream_index.proofs.Seeking.{located_found}
use Rattle.stream_index.proofs.value.Goals as goal

pub overflow_add-end : goal.overflow_add-end
overflow_add-end c = omega (arith, (located_found _ _ _ _ _ 0 (sym c.in-Ok.ensures)).within)

pub slice_bounds-result-end : goal.slice_bounds-result-end
slice_bounds-result-end c = omega (arith, (located_found _ _ _ _ _ 0 (sym c.in-Ok.ensures)).within)

pub returns-in-Ok : goal.returns-in-Ok
returns-in-Ok c =
    let a = c.args in
    record {
      result_value = rw add-sub_cancel_left (ap (part_of a.stream.now) c.in-Ok.ensures);
      ref_ptr_value = rw (add_comm _ a.stream.ref_ptr.1) (ap (part_at a.stream.ref_ptr) c.in-Ok.ensures);
    }

pub returns-in-Err : goal.returns-in-Err
returns-in-Err c =
    let a = c.args in
    record { result_value = ap (part_of a.stream.now) c.in-Err.ensures; ref_ptr_value = ap (part_at a.stream.ref_ptr) c.in-Err.ensures }
