-- How questions keep two answers alike. Assumes nothing.
use Rattle.std.specs.Prelude.{Ok, Err}
use mathlib.Core.Bool.{Bool, true, false}
use mathlib.Core.Logic.{◌↔◌}
use mathlib.Core.Path.{◌≡◌, refl}
use Prim.Native.Nat.{ℕ}
use native.Mathlib.Omega.{arith}
use Rattle.laws.specs.Test.{pick}
use Rattle.answer.specs.Answer.{Answer, mapped, retold, ensure, ◌>>=◌}
use Rattle.answer.specs.declared.Refusal.{Refusal}
use Rattle.stream_writer.specs.Alike.{Alike, accepts, refuses, excused}

-- no excuse
abbrev pub Never : Refusal → Type 0
Never q = ⊥

-- whatever was accepted
abbrev pub Any : {A B : Type 0} → A → B → Type 0
Any a b = Unit {0}

module _ {E : Refusal → Type 0} {Q : Refusal → Refusal → Type 0} where
  module _ {A B C D : Type 0} {R : A → B → Type 0} {S : C → D → Type 0} where
    -- one question after the other
    pub alike_then : {x : Answer A} {y : Answer B} {f : A → Answer C} {g : B → Answer D} → Alike E Q R x y →
        ((a : A) (b : B) → R a b → Alike E Q S (f a) (g b)) → Alike E Q S (x >>= f) (y >>= g)
    unfolding ◌>>=◌
    alike_then (accepts {a} {b} h) next = next a b h
    alike_then (refuses h) next = refuses h
    alike_then (excused h) next = excused h

    -- something made from what was accepted
    pub alike_mapped : {x : Answer A} {y : Answer B} (f : A → C) (g : B → D) → Alike E Q R x y → ((a : A) (b : B) → R a b → S (f a) (g b)) →
        Alike E Q S (mapped f x) (mapped g y)
    alike_mapped f g (accepts {a} {b} h) made = accepts (made a b h)
    alike_mapped f g (refuses h) made = refuses h
    alike_mapped f g (excused h) made = excused h

  module _ {A B C : Type 0} {R : A → B → Type 0} where
    -- the same on one side alone
    pub alike_left : {S : C → B → Type 0} {x : Answer A} {y : Answer B} (f : A → C) → Alike E Q R x y → ((a : A) (b : B) → R a b → S (f a) b) →
        Alike E Q S (x >>= λ a. Ok (f a)) y
    unfolding ◌>>=◌
    alike_left f (accepts {a} {b} h) made = accepts (made a b h)
    alike_left f (refuses h) made = refuses h
    alike_left f (excused h) made = excused h

    pub alike_right : {S : A → C → Type 0} {x : Answer A} {y : Answer B} (f : B → C) → Alike E Q R x y → ((a : A) (b : B) → R a b → S a (f b)) →
        Alike E Q S x (y >>= λ b. Ok (f b))
    unfolding ◌>>=◌
    alike_right f (accepts {a} {b} h) made = accepts (made a b h)
    alike_right f (refuses h) made = refuses h
    alike_right f (excused h) made = excused h

  -- one question, asked twice
  pub alike_itself : {A : Type 0} (x : Answer A) → ((r : Refusal) → Q r r) → Alike E Q ◌≡◌ x x
  alike_itself (Ok a) h = accepts refl
  alike_itself (Err r) h = refuses (h r)

  -- one question, its refusal told in two ways
  pub alike_retold : {A : Type 0} (f g : Refusal → Refusal) (x : Answer A) → ((r : Refusal) → Q (f r) (g r)) → Alike E Q ◌≡◌ (retold f x) (retold g x)
  alike_retold f g (Ok a) h = accepts refl
  alike_retold f g (Err r) h = refuses (h r)

  -- a test
  pub alike_ensure : (c : Bool) (q r : Refusal) → Q q r → Alike E Q (λ _ _. c ≡ true) (ensure c q) (ensure c r)
  unfolding ensure
  alike_ensure true q r h = accepts refl
  alike_ensure false q r h = refuses h

  -- either way of a test
  pub alike_pick : {A B : Type 0} {R : A → B → Type 0} (c : Bool) {x x' : Answer A} {y y' : Answer B} → Alike E Q R x y → Alike E Q R x' y' →
      Alike E Q R (pick c x x') (pick c y y')
  unfolding pick
  alike_pick true h k = h
  alike_pick false h k = k

  module _ {A B : Type 0} {R : A → B → Type 0} where
    -- a test on the first side alone, whose refusal is excused
    pub alike_unless : (c : Bool) (q : Refusal) (f : Unit {0} → Answer A) {y : Answer B} → E q → (c ≡ true → Alike E Q R (f tt) y) →
        Alike E Q R (ensure c q >>= f) y
    unfolding ensure ◌>>=◌
    alike_unless true q f e h = h refl
    alike_unless false q f e h = excused e

    -- less said of what was accepted
    pub alike_any : {x : Answer A} {y : Answer B} → Alike E Q R x y → Alike E Q Any x y
    alike_any (accepts h) = accepts tt
    alike_any (refuses h) = refuses h
    alike_any (excused h) = excused h

    -- less said of the refusals
    pub alike_less : {Q' : Refusal → Refusal → Type 0} {x : Answer A} {y : Answer B} → Alike E Q R x y → ((q r : Refusal) → Q q r → Q' q r) → Alike E Q' R x y
    alike_less (accepts h) f = accepts h
    alike_less (refuses {q} {r} h) f = refuses (f q r h)
    alike_less (excused h) f = excused h

    -- what the second answers where the first accepts
    pub accepted_right : {x : Answer A} {y : Answer B} → Alike E Q R x y → (a : A) → x ≡ Ok a → (b : B) × (y ≡ Ok b) × R a b
    accepted_right (accepts {a = c} {b} h) a e = let same : a ≡ c = cc in (b, refl, rw same h)
    accepted_right (refuses h) a e = absurd (let z : ◌≡◌ {A = ℕ} 0 1 = cc in omega arith)
    accepted_right (excused h) a e = absurd (let z : ◌≡◌ {A = ℕ} 0 1 = cc in omega arith)

    -- and where it refuses without an excuse
    pub refused_right : {x : Answer A} {y : Answer B} → Alike E Q R x y → (q : Refusal) → x ≡ Err q → (E q → ⊥) → (r : Refusal) × (y ≡ Err r) × Q q r
    refused_right (accepts h) q e none = absurd (let z : ◌≡◌ {A = ℕ} 0 1 = cc in omega arith)
    refused_right (refuses {q = t} {r} h) q e none = let same : q ≡ t = cc in (r, refl, rw same h)
    refused_right (excused {q = t} h) q e none = let same : q ≡ t = cc in absurd (none (rw same h))

    -- without an excuse the first accepts exactly where the second does
    pub accepted_exactly : {x : Answer A} {y : Answer B} → Alike E Q R x y → ((q : Refusal) → x ≡ Err q → E q → ⊥) →
        ((a : A) × (x ≡ Ok a)) ↔ ((b : B) × (y ≡ Ok b))
    accepted_exactly (accepts {a} {b} h) none = (λ _. (b, refl), λ _. (a, refl))
    accepted_exactly (refuses h) none =
        (λ l. absurd (let e = l.1 in let z : ◌≡◌ {A = ℕ} 0 1 = cc in omega arith), λ r. absurd (let e = r.1 in let z : ◌≡◌ {A = ℕ} 0 1 = cc in omega arith))
    accepted_exactly (excused {q} h) none = absurd (none q refl h)

-- the first refusal told otherwise
pub alike_told : {E : Refusal → Type 0} {Q Q' : Refusal → Refusal → Type 0} {A B : Type 0} {R : A → B → Type 0} {x : Answer A} {y : Answer B}
    (f : Refusal → Refusal) → Alike Never Q R x y → ((q r : Refusal) → Q q r → Q' (f q) r) → Alike E Q' R (retold f x) y
alike_told f (accepts h) g = accepts h
alike_told f (refuses {q} {r} h) g = refuses (g q r h)
alike_told f (excused h) g = absurd h
