-- What is read by the search: a rule for each way that the code goes in a value. Assumes nothing.
use Rattle.std.specs.Prelude.{Ok, Err, Option, None}
use mathlib.Core.Path.{◌≡◌, refl, sym, ◌∙◌}
use mathlib.Core.List.{List}
use Prim.Native.Nat.{ℕ, zero, suc, ◌-◌, ◌%◌, ◌<◌}
use native.Mathlib.Omega.{arith}
use borrow.Author.Tests.{lt-ltb, eq-eqb, ne_eqb}
use Rattle.answer.specs.Answer.{Answer, refuse, mapped}
use Rattle.answer.proofs.Answer.{holds, fails}
use Rattle.form.specs.Form.{plain}
use Rattle.laws.proofs.Test.{pick_yes, pick_no}
use Rattle.table.specs.Table.{known}
use Rattle.table.specs.declared.Known.{Known}
use Rattle.stream.specs.Sought.{Reads, Valued, faulty, flat, nested, sought_in, SoughtAt}
use Rattle.stream.specs.Stream.{own}
use Rattle.stream.specs.declared.Counts.{Counts}
use Rattle.table.proofs.Laws.{known_once}

-- The answers of the judge of a value, by what is found of its type.
module _ (inner : Reads) (l : ℕ) (k : Option Known) (place kind start : ℕ) (v : List ℕ) where
  abbrev Says : Answer (Unit {0}) → Type 0
  Says a = Valued inner k l place kind start v a

  module _ (lacks : k ≡ None) where
    pub valued_odd : kind % 2 ≡ 1 → Says (Ok tt)
    unfolding own
    valued_odd e = flat (rw lacks (holds _ _ (eq-eqb _ _ e))) (λ n is. absurd (let z : ◌≡◌ {A = ℕ} 0 1 = cc in omega arith))

    pub valued_even : (kind % 2 ≡ 1 → ⊥) → Says (Err (refuse 7 place kind))
    unfolding own
    valued_even h = faulty {q = refuse 7 place kind} (rw lacks (fails _ _ (ne_eqb _ _ h)))

  module _ (form n : ℕ) (has : k ≡ known form n) where
    -- by its form alone
    pub valued_flat : (form ≡ 5 → ⊥) → (a : Answer (Unit {0})) → a ≡ plain form n place kind v → Says a
    unfolding own
    valued_flat other (Ok t) e =
        flat (rw has (pick_no _ _ _ (ne_eqb _ _ other) ∙ sym e)) (λ m is. other (known_once (sym has ∙ is)).0)
    valued_flat other (Err q) e = faulty {q = q} (rw has (pick_no _ _ _ (ne_eqb _ _ other) ∙ sym e))

    module _ (stream : form ≡ 5) where
      pub valued_deep : l ≡ 0 → Says (Err (refuse 11 place kind))
      unfolding own
      valued_deep e = faulty {q = refuse 11 place kind} (rw (has, e) (pick_yes _ _ _ (eq-eqb _ _ stream) ∙ fails _ _ refl))

      pub valued_stream : 0 < l → (a : Answer Counts) → inner n start v a → Says (mapped (λ _. tt) a)
      unfolding own
      valued_stream some a s = nested n (rw has (pick_yes _ _ _ (eq-eqb _ _ stream) ∙ holds _ _ (lt-ltb 0 l some))) (rw (← stream) has) s

-- the stream in a value, where one level less may be entered
pub enters : (table : List ℕ) (l n start : ℕ) (v : List ℕ) (a : Answer Counts) → 0 < l → SoughtAt table n (l - 1) start v a → sought_in table l n start v a
unfolding sought_in
enters table zero n start v a some s = absurd (omega arith)
enters table (suc m) n start v a some s = let one : suc m - 1 ≡ m = omega arith in rw one at s
