-- The answer 80 and the first record that an earlier one contradicts. Assumes nothing.
use Rattle.std.specs.Prelude.{Ok, Err}
use borrow.Author.Tests.{eqb-true, eq-eqb}
use mathlib.Core.Bool.{Bool, true, false, ◌||◌, not}
use mathlib.Core.List.{List, [], ◌∷◌}
use mathlib.Core.Logic.{inl, inr, ⊎_elim}
use mathlib.Core.Path.{◌≡◌, refl, ◌∙◌}
use Prim.Native.Nat.{ℕ}
use lib.Dec.{eqb}
use Rattle.laws.proofs.Test.{by_test, and_true}
use Rattle.answer.specs.Answer.{refuse}
use Rattle.answer.proofs.Answer.{ensure_yes, ensure_no}
use Rattle.mending.specs.Mender.{agrees, agreed, Contradicted, FirstContradicted}
use Rattle.piece.proofs.Laws.{same_true, same_self}
use Rattle.piece.specs.Piece.{Record, kind_of, same}

-- a record that agrees with all earlier ones is contradicted by none
agrees_none : (e : Record) (earlier : List Record) → agrees e earlier ≡ true → Contradicted e earlier → ⊥
unfolding agrees Contradicted
agrees_none e [] t c = c
agrees_none e (a ∷ more) t c =
    let p = and_true (not (eqb (kind_of a) (kind_of e)) || same a.value e.value) (agrees e more) t in
    ⊎_elim (λ q. q.1 (same_true _ _ (second _ _ p.0 (eq-eqb _ _ q.0)))) (λ q. agrees_none e more p.1 q) c
  where
    second : (x y : Bool) → (not x || y) ≡ true → x ≡ true → y ≡ true
    second true y h e = h
    second false y h e = absurd (cc)

-- and one that does not is
agrees_some : (e : Record) (earlier : List Record) → agrees e earlier ≡ false → Contradicted e earlier
unfolding agrees Contradicted
agrees_some e [] t = absurd (cc)
agrees_some e (a ∷ more) t =
    by_test (agrees e more)
    (λ u.
    by_test (eqb (kind_of a) (kind_of e))
    (λ k. by_test (same a.value e.value)
    (λ v. absurd (let w : true ≡ false = (rw (k, v, u) at t) in cc))
    (λ v. inl (eqb-true _ _ k, λ is. let w : same e.value e.value ≡ false = (rw is at v) in let y = same_self e.value in cc)))
    (λ k. absurd (let w : true ≡ false = (rw (k, u) at t) in cc)))
    (λ u. inr (agrees_some e more u))

-- The two answers.
pub by_agreed {ℓ} : {G : Type ℓ} (earlier es : List Record) → (agreed earlier es ≡ Ok tt → G) →
    ((place kind : ℕ) → agreed earlier es ≡ Err (refuse 80 place kind) → FirstContradicted place kind earlier es → G) → G
unfolding agreed FirstContradicted
by_agreed earlier [] f g = f refl
by_agreed earlier (e ∷ es) f g =
    by_test (agrees e earlier)
    (λ t.
    let on = ensure_yes (agrees e earlier) (refuse 80 e.place (kind_of e)) (λ _. agreed (e ∷ earlier) es) t in
    by_agreed (e ∷ earlier) es (λ a. f (on ∙ a)) (λ p k a c. g p k (on ∙ a) (inr (agrees_none e earlier t, c))))
    (λ t. g e.place (kind_of e) (ensure_no _ _ _ t) (inl (agrees_some e earlier t, (refl, refl))))

-- where there is a first one, that is the answer
pub first_refused : (place kind : ℕ) (earlier es : List Record) → FirstContradicted place kind earlier es → agreed earlier es ≡ Err (refuse 80 place kind)
unfolding agreed FirstContradicted
first_refused place kind earlier [] c = absurd c
first_refused place kind earlier (e ∷ es) c =
    by_test (agrees e earlier)
    (λ t. ensure_yes _ _ _ t ∙ ⊎_elim (λ q. absurd (agrees_none e earlier t q.0)) (λ q. first_refused place kind (e ∷ earlier) es q.1) c)
    (λ t. ensure_no _ _ _ t ∙ ⊎_elim (λ q. rw (q.1.0, q.1.1)) (λ q. absurd (q.0 (agrees_some e earlier t))) c)
