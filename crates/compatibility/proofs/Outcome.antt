-- What a reader answers, told by some records of a list: it accepts where none has a property, else it refuses as it judges the first. Assumes nothing.
use Rattle.std.specs.Prelude.{Ok, Err}
use mathlib.Core.List.{List, ◌++◌, append-nil}
use mathlib.Core.Logic.{◌↔◌}
use mathlib.Core.Path.{◌≡◌}
use Prim.Native.Nat.{ℕ, ◌<◌}
use native.Mathlib.Omega.{arith}
use Rattle.answer.specs.Answer.{Answer, ◌>>=◌}
use Rattle.answer.specs.declared.Refusal.{Refusal}
use Rattle.answer.proofs.Answer.{then_accepted, then_refused}
use Rattle.stream.specs.Stream.{Record}
use Rattle.compatibility.specs.Demand.{verdict, Some, First, Refuses}
use Rattle.compatibility.proofs.First.{None, none_empty, none_append, first_left, first_right, first_some}

-- a reader refuses as it judges a record, whose value starts behind its place
pub record RefusesAt (table : List ℕ) (e : Record) {A : Type 0} (answer : Answer A) : Type 0 where
  pub placed : e.place < e.start
  pub refusal : Refusal
  pub judges : verdict table e ≡ Err refusal
  pub answers : answer ≡ Err refusal

-- the answer of a table's reader: accepted with something that has G, or refused at the first record with P
pub data Outcome (P : Record → Type 0) (table : List ℕ) {A : Type 0} (G : A → Type 0) (es : List Record) (answer : Answer A) : Type 0 where
  accepts : None P es → (a : A) → answer ≡ Ok a → G a → Outcome P table G es answer
  refuses : (e : Record) → First P es e → RefusesAt table e answer → Outcome P table G es answer

module _ {P : Record → Type 0} {table : List ℕ} where
  -- the same behind a run without the property
  pub outcome_behind : {A : Type 0} {G : A → Type 0} {answer : Answer A} {es fs : List Record} →
      None P es → Outcome P table G fs answer → Outcome P table G (es ++ fs) answer
  outcome_behind {es = es} {fs = fs} before (accepts none a is has) = accepts (none_append P es fs before none) a is has
  outcome_behind {es = es} {fs = fs} before (refuses e first r) = refuses e (first_right P es fs e before first) r

  module _ {A B : Type 0} {G : A → Type 0} {H : B → Type 0} {x : Answer A} {f : A → Answer B} where
    -- one question after the other: the records of the first, then those of the second
    pub outcome_then : {es fs : List Record} → Outcome P table G es x → ((a : A) → G a → Outcome P table H fs (f a)) → Outcome P table H (es ++ fs) (x >>= f)
    outcome_then (accepts none a is has) g = rw (then_accepted a f x is) (outcome_behind none (g a has))
    outcome_then {es} {fs} (refuses e first r) g =
        refuses e (first_left P es fs e first)
        (record { placed = r.placed; refusal = r.refusal; judges = r.judges; answers = then_refused r.refusal f x r.answers })

    -- a question that is answered behind another
    pub outcome_next : {es : List Record} → Outcome P table G es x → ((a : A) → G a → (b : B) × (f a ≡ Ok b) × H b) → Outcome P table H es (x >>= f)
    outcome_next o g = rw append-nil at (outcome_then o (λ a h. let t = g a h in accepts (none_empty P) t.0 t.1 t.2))

  module _ {A : Type 0} {G : A → Type 0} {es : List Record} {answer : Answer A} where
    -- the reader refuses exactly where some record has the property
    pub refuses_exactly : Outcome P table G es answer → Refuses answer ↔ Some P es
    refuses_exactly (accepts none a is has) = (λ r. absurd (let e = r.1 in let z : ◌≡◌ {A = ℕ} 0 1 = cc in omega arith), λ s. absurd (none s))
    refuses_exactly (refuses e first r) = (λ _. first_some P es e first, λ _. (r.refusal, r.answers))

    -- then as it judges the first such record
    pub refuses_first : Outcome P table G es answer → Refuses answer → (e : Record) × First P es e × RefusesAt table e answer
    refuses_first (accepts none a is has) r = absurd (let e = r.1 in let z : ◌≡◌ {A = ℕ} 0 1 = cc in omega arith)
    refuses_first (refuses e first r) _ = (e, first, r)

    -- otherwise it accepts
    pub accepts_otherwise : Outcome P table G es answer → None P es → (a : A) × (answer ≡ Ok a) × G a
    accepts_otherwise (accepts none a is has) h = (a, is, has)
    accepts_otherwise (refuses e first r) h = absurd (h (first_some P es e first))
