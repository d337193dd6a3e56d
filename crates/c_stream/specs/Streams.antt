-- The answers about a stream as structs. Assumes nothing.
use Rattle.std.specs.Prelude.{Ok, Err}
use Rattle.answer.specs.Answer.{Answer}
use Rattle.answer.specs.declared.Part.{Part}
use Rattle.stream.specs.declared.Counts as Tally
use Rattle.c_answer.specs.Results.{nothing}
use Rattle.c_stream.specs.declared.streams.Counts.{Counts}
use Rattle.c_stream.specs.declared.streams.Span.{Span}

-- the counts of outer records and of the known ones among them
abbrev pub counts_of : Answer Tally.Counts → Counts
counts_of (Ok t) = record { refusal = nothing; records = t.records; known = t.known }
counts_of (Err r) = record { refusal = r; records = 0; known = 0 }

-- where a value lies
abbrev pub span_of : Answer Part → Span
span_of (Ok p) = record { refusal = nothing; start = p.start; size = p.size }
span_of (Err r) = record { refusal = r; start = 0; size = 0 }
