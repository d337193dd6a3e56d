-- The answers of the judge of a value, one law each. Assumes nothing.
use Rattle.std.specs.Prelude.{Ok, Err, Option, None}
use mathlib.Core.Path.{◌≡◌, refl, sym, ap, ◌∙◌}
use mathlib.Core.List.{List, []}
use Prim.Native.Nat.{ℕ, suc, ◌%◌}
use native.Mathlib.Omega.{arith}
use lib.Dec.{eqb}
use borrow.Author.Tests.{lt-ltb, eq-eqb, ne_eqb}
use Rattle.form.specs.Form.{plain}
use Rattle.laws.proofs.Test.{pick_yes, pick_no}
use Rattle.answer.specs.Answer.{Answer, refuse, mapped, ◌>>=◌}
use Rattle.answer.specs.declared.Refusal.{Refusal}
use Rattle.answer.proofs.Answer.{then_accepted, then_refused, then_mapped, both, holds, fails, ensure_yes, ensure_no}
use Rattle.table.specs.Table.{checking, known}
use Rattle.table.specs.declared.Known.{Known}
use Rattle.stream.specs.Stream.{Item, inside, entering, met_in, own, answering, mark_of, judged, rows_at, rows_in, judging_inside}

-- what is met inside a value is what its stream is
entered : (table : List ℕ) (n l start : ℕ) (v : List ℕ) (x : Answer ℕ) →
    (answering table (entering table (suc l) n start v) >>= λ _. x) ≡ (rows_in table n l start 0 v >>= λ _. x)
unfolding entering rows_in
entered table n l start v x = sym (then_mapped (rows_at table l) (answering table (met_in table n l start 0 v)) (λ _. x))

module _ (table : List ℕ) (l : ℕ) (k : Option Known) (place kind start : ℕ) (v : List ℕ) where
  module _ (lacks : k ≡ None) where
    pub judged_odd : kind % 2 ≡ 1 → judged table l k place kind start v ≡ Ok (mark_of k v)
    unfolding judged own inside answering ◌>>=◌
    judged_odd e = rw lacks (ensure_yes _ _ _ (eq-eqb _ _ e))

    pub judged_even : (kind % 2 ≡ 1 → ⊥) → judged table l k place kind start v ≡ Err (refuse 7 place kind)
    unfolding judged own
    judged_even h = rw lacks (ensure_no _ _ _ (ne_eqb _ _ h))

  module _ (form n : ℕ) (has : k ≡ known form n) where
    module _ (flat : form ≡ 5 → ⊥) where
      pub judged_plain : plain form n place kind v ≡ Ok tt → judged table l k place kind start v ≡ Ok (mark_of k v)
      unfolding judged own inside answering ◌>>=◌
      judged_plain e =
          rw has
          (then_accepted tt _ _ (pick_no _ _ _ (ne_eqb _ _ flat) ∙ e)
          ∙ rw (pick_no {A = List Item} (eqb form 5) (entering table l n start v) [] (ne_eqb _ _ flat)))

      pub judged_plain_refused : (r : Refusal) → plain form n place kind v ≡ Err r → judged table l k place kind start v ≡ Err r
      unfolding judged own
      judged_plain_refused r e = rw has (then_refused r _ _ (pick_no _ _ _ (ne_eqb _ _ flat) ∙ e))

      -- by its form alone
      pub judged_flat : mapped (λ _. tt) (judged table l k place kind start v) ≡ plain form n place kind v
      judged_flat = go (plain form n place kind v) refl
        where
          go : (x : Answer (Unit {0})) → plain form n place kind v ≡ x → mapped (λ _. tt) (judged table l k place kind start v) ≡ x
          go (Ok t) e = ap (mapped (λ _. tt)) (judged_plain e)
          go (Err r) e = ap (mapped (λ _. tt)) (judged_plain_refused r e)

    module _ (stream : form ≡ 5) where
      pub judged_deep : l ≡ 0 → judged table l k place kind start v ≡ Err (refuse 11 place kind)
      unfolding judged own
      judged_deep e = rw (has, e) (then_refused _ _ _ (pick_yes _ _ _ (eq-eqb _ _ stream) ∙ fails _ _ refl))

      -- as a stream, where one level less may be entered
      pub judged_stream : (m : ℕ) → l ≡ suc m → judged table l k place kind start v ≡ (rows_in table n m start 0 v >>= λ _. Ok (mark_of k v))
      unfolding judged own inside
      judged_stream m e =
          rw (has, e)
          (then_accepted tt _ _ (pick_yes _ _ _ (eq-eqb _ _ stream) ∙ holds _ _ (lt-ltb 0 (suc m) (omega arith)))
          ∙ rw (pick_yes {A = List Item} (eqb form 5) (entering table (suc m) n start v) [] (eq-eqb _ _ stream)) (entered table n m start v (Ok 1)))

-- an accepted value has the mark that is known of it
pub judged_mark : (table : List ℕ) (l : ℕ) (k : Option Known) (place kind start : ℕ) (v : List ℕ) (m : ℕ) → judged table l k place kind start v ≡ Ok m → m ≡ mark_of k v
unfolding judged
judged_mark table l k place kind start v m h =
    let a = both _ _ m h in
    let b = both _ _ m a.second in
    let e : Ok (mark_of k v) ≡ Ok m = b.second in
    cc

-- the stream that an outer record's value is
module _ (table : List ℕ) (ns : ℕ) (v : List ℕ) where
  pub inside_table : (r : Refusal) → checking table ≡ Err r → judging_inside table ns v ≡ Err r
  unfolding judging_inside
  inside_table r e = then_refused r _ _ e

  pub inside_fine : checking table ≡ Ok tt → judging_inside table ns v ≡ rows_in table ns 2 0 0 v
  unfolding judging_inside
  inside_fine e = then_accepted tt _ _ e
