-- The answer about a mended stream as a struct: document 02 (x). Assumes nothing.
use Rattle.std.specs.Prelude.{Ok, Err}
use Rattle.answer.specs.Answer.{Answer}
use Rattle.c_answer.specs.Results.{nothing}
use Rattle.mending.specs.declared.Mending.{Mending}
use Rattle.mending.specs.declared.Changes.{Changes}
use Rattle.c_mender.specs.declared.Mended.{Mended}

-- nothing was changed
abbrev pub no_changes : Changes
no_changes = record { moved = 0; dropped = 0; respelled = 0; cut = 0 }

-- how many bytes were written, and what was changed
abbrev pub mended_of : Answer Mending → Mended
mended_of (Ok t) = record { refusal = nothing; size = t.size; changes = t.changes }
mended_of (Err r) = record { refusal = r; size = 0; changes = no_changes }
