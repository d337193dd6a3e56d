-- Two answers that go the same way. Assumes nothing.
use Rattle.std.specs.Prelude.{Ok, Err}
use Rattle.answer.specs.Answer.{Answer}
use Rattle.answer.specs.declared.Refusal.{Refusal}

-- Both accept, and R holds of what they accept; or both refuse, and Q holds of their refusals; or the first refuses with what E excuses, and then the
-- second may answer anything.
pub data Alike (E : Refusal → Type 0) (Q : Refusal → Refusal → Type 0) {A B : Type 0} (R : A → B → Type 0) : Answer A → Answer B → Type 0 where
  accepts : {a : A} {b : B} → R a b → Alike E Q R (Ok a) (Ok b)
  refuses : {q r : Refusal} → Q q r → Alike E Q R (Err q) (Err r)
  excused : {q : Refusal} {y : Answer B} → E q → Alike E Q R (Err q) y
