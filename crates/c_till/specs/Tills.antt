-- The answer about the till profile as a struct: document 02 (vi). Assumes nothing.
use Rattle.std.specs.Prelude.{List, ◌≡◌, ℕ, replicate, Ok, Err}
use Rattle.answer.specs.Answer.{Answer}
use Rattle.c_answer.specs.Results.{nothing}
use Rattle.till.specs.Till.{Profiles}
use Rattle.till.specs.declared.Profile.{Profile as Answered}
use Rattle.c_till.specs.declared.Profile.{Profile}

-- What `till::judge` answers, as a struct.
abbrev pub profile_of : Answer Answered → Profile
profile_of (Ok p) = record { refusal = nothing; count = p.count; rules = p.rules }
profile_of (Err r) = record { refusal = r; count = 0; rules = replicate 6 0 }

-- The struct for a text: that of an answer which is right for it.
abbrev pub Told : (text : List ℕ) → Profile → Type 0
Told text r = (p : Answer Answered) × Profiles text p × (r ≡ profile_of p)
