-- What the program adds up over the streams of a book. Assumes nothing.
use Rattle.std.specs.Prelude.{ℕ, ◌+◌, ◌%◌, ◌^◌, Bool, ◌&&◌, ◌==◌}
use Rattle.laws.specs.Test.{pick}
use Rattle.mending.specs.declared.Changes.{Changes}
use Rattle.mend.specs.declared.totals.Totals.{Totals}

-- whether nothing was changed
abbrev pub is_right : Changes → Bool
is_right c = c.moved == 0 && (c.dropped == 0 && (c.respelled == 0 && c.cut == 0))

-- a sum of 64 bits
abbrev pub plus : ℕ → ℕ → ℕ
plus a b = (a + b) % 2 ^ 64

-- with a stream more that is refused
abbrev pub with_refused : Totals → Totals
with_refused t = record {
  streams = plus t.streams 1;
  right = t.right;
  mended = t.mended;
  refused = plus t.refused 1;
  moved = t.moved;
  dropped = t.dropped;
  respelled = t.respelled;
  cut = t.cut;
}

-- with one that is right, and with one that is mended
abbrev pub with_right : Totals → Totals
with_right t = record {
  streams = plus t.streams 1;
  right = plus t.right 1;
  mended = t.mended;
  refused = t.refused;
  moved = t.moved;
  dropped = t.dropped;
  respelled = t.respelled;
  cut = t.cut;
}

abbrev pub with_mended : Totals → Changes → Totals
with_mended t c = record {
  streams = plus t.streams 1;
  right = t.right;
  mended = plus t.mended 1;
  refused = t.refused;
  moved = plus t.moved c.moved;
  dropped = plus t.dropped c.dropped;
  respelled = plus t.respelled c.respelled;
  cut = plus t.cut c.cut;
}

abbrev pub with_changes : Totals → Changes → Totals
with_changes t c = pick (is_right c) (with_right t) (with_mended t c)
