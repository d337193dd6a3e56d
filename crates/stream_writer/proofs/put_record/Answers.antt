-- `stream_writer::put_record` meets its contract: three runs, one behind the other. Assumes nothing.
use Rattle.std.proofs.Common.{arith, ◌∙◌}
use Rattle.stream_writer.proofs.RowLaws.{length_record, record_put}
use Rattle.stream_writer.proofs.put_record.Goals as goal

pub put_number-a-requires : goal.put_number-a-requires
put_number-a-requires c = omega (arith, c.requires, length_record c.args.kind c.args.value.now)

pub put_number-b-requires : goal.put_number-b-requires
put_number-b-requires c = omega (arith, c.requires, length_record c.args.kind c.args.value.now, c.put_number-a.ensures.0, c.put_number-a.auto)

pub put_bytes-requires : goal.put_bytes-requires
put_bytes-requires c =
    omega (
      arith,
      c.requires,
      length_record c.args.kind c.args.value.now,
      c.put_number-a.ensures.0,
      c.put_number-a.auto,
      c.put_number-b.ensures.0,
      c.put_number-b.auto,
    )

pub returns : goal.returns
returns c =
    let s = c.args in (
      omega (arith, length_record s.kind s.value.now, c.put_number-a.ensures.0, c.put_number-b.ensures.0, c.put_bytes.ensures.0),
      c.put_bytes.ensures.1
          ∙ rw (c.put_number-b.ensures.1, c.put_number-a.ensures.1)
          (record_put s.out.now s.at _ _ s.kind s.value.now c.put_number-a.ensures.0 c.put_number-b.ensures.0),
    )
