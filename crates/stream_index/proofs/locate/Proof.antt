-- `stream_index::locate` meets its contract: the same, of the stream from its first byte on. Assumes nothing.
use borrow.Author.Rules.{rules}
use Rattle.stream_index.proofs.locate.Statement.{statement}
use Rattle.stream_index.proofs.locate.Tie as tie

returns : tie.Need-returns
returns c = c.count_and_locate.ensures.1

pub locate_spec : {M : Type 1} → statement M
locate_spec = tie.close (tie.spec (search rules) returns)
