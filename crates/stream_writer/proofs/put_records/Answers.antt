-- `stream_writer::put_records` meets its contract: each turn puts a record, and leaves those behind it. Assumes nothing.
use Rattle.std.proofs.Common.{arith, refl, sym, ap, ◌∙◌, ◌+◌, ◌*◌, length, get_or, drop, length-append, length-drop}
use native.Mathlib.Nat.{add-sub_cancel_left}
use Rattle.laws.proofs.Lists.{sets_append}
use Rattle.stream_writer.specs.Writer.{part, record_of, bytes_of}
use Rattle.stream_writer.proofs.RowLaws.{bytes_next, bytes_end, judged_next}
use Rattle.stream_writer.proofs.put_records.Goals as goal

pub loop-row-init : goal.loop-row-init
loop-row-init c =
    let by = c.requires.by_index in (
      refl,
      omega (arith, c.requires.source_in_bounds),
      record { table = by.0; namespace = by.1; low = 0; fine = by.2 },
      refl,
    )

pub overflow_add-end-in-loop-row : goal.overflow_add-end-in-loop-row
overflow_add-end-in-loop-row c = omega (arith, (judged_next c.args.source.now c.args.triples.now c.loop-row.row (omega arith) c.loop-row.invariant.2).0)

pub slice_bounds-put_record-count : goal.slice_bounds-put_record-count
slice_bounds-put_record-count c = omega arith

pub slice_bounds-put_record-end : goal.slice_bounds-put_record-end
slice_bounds-put_record-end c = omega (arith, (judged_next c.args.source.now c.args.triples.now c.loop-row.row (omega arith) c.loop-row.invariant.2).0)

pub put_record-at-requires : goal.put_record-at-requires
put_record-at-requires c =
    let a = c.args in
    let t = a.triples.now in
    let r = c.loop-row.row in
    let this = record_of (get_or t (r * 3) 0) (part (get_or t (r * 3 + 1) 0) (get_or t (r * 3 + 2) 0) a.source.now) in
    rw add-sub_cancel_left
    (omega (
      arith,
      c.loop-row.invariant.1,
      ap length (bytes_next t a.source.now r (omega arith)),
      length-append this (bytes_of (drop ((r + 1) * 3) t) a.source.now),
    ))

pub loop-row-preserved : goal.loop-row-preserved
loop-row-preserved c =
    let a = c.args in
    let h = c.loop-row in
    let t = a.triples.now in
    let this = record_of (get_or t (h.row * 3) 0) (part (get_or t (h.row * 3 + 1) 0) (get_or t (h.row * 3 + 2) 0) a.source.now) in
    let rest = bytes_of (drop ((h.row + 1) * 3) t) a.source.now in
    let is = bytes_next t a.source.now h.row (omega arith) in
    let put = rw add-sub_cancel_left at c.put_record-at.ensures in (
      omega (arith, c.put_record-at.auto, h.invariant.0),
      omega (arith, put.0, c.put_record-at.auto, h.invariant.1, ap length is, length-append this rest),
      (judged_next a.source.now t h.row (omega arith) h.invariant.2).1,
      rw (put.1, put.0) (sym (sets_append h.out h.at this rest) ∙ (rw is at h.invariant.3)),
    )

pub returns : goal.returns
returns c =
    let a = c.args in
    let h = c.loop-row in
    let none = bytes_end (drop (h.row * 3) a.triples.now) a.source.now (omega (arith, length-drop (h.row * 3) a.triples.now)) in
    rw none at h.invariant.3
