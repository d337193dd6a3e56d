-- What the stream becomes, and before it its namespace and its length.
use Rattle.std.proofs.Common.{◌≡◌, ◌+◌, ◌-◌, length, arith}
use borrow.Rule.Slice.PartMut.{put_mid}
use Rattle.std.proofs.Math.Seq.{sets}
use Rattle.laws.proofs.Lists.{tail_put}
use Rattle.book_mender.specs.BookMender.{becoming}
use Rattle.book_mender.proofs.Putting.{stream_put, length_stream}
use Rattle.book_mender.proofs.put_stream.Goals as goal

pub returns : goal.returns
returns c =
    let a = c.args in
    let e = c.put_bytes-size.ensures in
    -- what it becomes stands in its place
    let there : put_mid (a.at + 3) (length a.new.now - (a.at + 3)) a.new.now c.put_bytes-size.new.out ≡ sets a.new.now (a.at + 3) (becoming a.stream.now) =
    tail_put a.new.now (becoming a.stream.now) _ (a.at + 3) (omega (arith, c.requires.1, e.0, e.1)) e.2 in (
      omega (arith, length_stream a.namespace (becoming a.stream.now) (omega (arith, e.0, e.1, c.requires.0)), e.0),
      omega (arith, e.1),
      rw there (stream_put a.new.now (becoming a.stream.now) a.at a.namespace _ e.0 (omega (arith, e.1, c.requires.0))),
    )
