-- What the private functions promise each other: no public contract cites it. Assumes nothing.
use Rattle.std.specs.Prelude.{ℕ}
use Rattle.book.specs.Book.{Listed, end_of, run_of}
use Rattle.book.specs.declared.Run.{Run}

-- what walking a section answers: the run of its items, and where they end
abbrev pub walked : Listed → Run × ℕ
walked l = (run_of l, end_of l)
