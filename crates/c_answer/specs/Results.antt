-- Answers as structs: the refusal, whose number is 0 where there is none, then what was accepted, which is 0 on a refusal. Assumes nothing.
use Rattle.std.specs.Prelude.{ℕ, Ok, Err}
use Rattle.bigsize.specs.declared.Number as BigSize
use Rattle.money.specs.declared.Sat.{Sat}
use Rattle.answer.specs.Answer.{Answer, bare}
use Rattle.answer.specs.declared.Refusal.{Refusal}
use Rattle.c_answer.specs.declared.Size.{Size}
use Rattle.c_answer.specs.declared.Value.{Value}
use Rattle.c_answer.specs.declared.Number.{Number}

-- nothing is refused
abbrev pub nothing : Refusal
nothing = bare 0

-- The outcomes of a question that has more answers than yes and a refusal; `none` is for a message that is passed over, a ping without a pong, a route without
-- the entry and a sum that is no whole number of satoshis.
abbrev pub yes : ℕ
yes = 0

abbrev pub no : ℕ
no = 1

abbrev pub none : ℕ
none = 2

-- a question whose only answers are yes and a refusal
abbrev pub refusal_of : Answer (Unit {0}) → Refusal
refusal_of (Ok _) = nothing
refusal_of (Err r) = r

-- how much was written
abbrev pub size_of : Answer ℕ → Size
size_of (Ok n) = record { refusal = nothing; size = n }
size_of (Err r) = record { refusal = r; size = 0 }

-- a number, or a count
abbrev pub value_of : Answer ℕ → Value
value_of (Ok n) = record { refusal = nothing; value = n }
value_of (Err r) = record { refusal = r; value = 0 }

abbrev pub sat_in : Sat → ℕ
sat_in s = s.0

-- a BigSize
abbrev pub number_of : Answer BigSize.Number → Number
number_of (Ok x) = record { refusal = nothing; value = x.value; width = x.width }
number_of (Err r) = record { refusal = r; value = 0; width = 0 }
