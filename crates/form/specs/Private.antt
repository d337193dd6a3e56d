-- What the private functions promise each other: no public contract cites it. Assumes nothing.
use Rattle.std.specs.Prelude.{ℕ, Result, Ok, Err}
use Rattle.answer.specs.Answer.{Answer, refuse}

-- whether a value obeys, or the number of its refusal, told of a record with that place and type
abbrev pub told : Result (Unit {0}) ℕ → (place kind : ℕ) → Answer (Unit {0})
told (Ok u) place kind = Ok u
told (Err n) place kind = Err (refuse n place kind)
