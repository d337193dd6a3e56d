-- Laws of questions asked one after the other. Assumes nothing.
use Rattle.std.specs.Prelude.{Ok, Err, IsErrAnd}
use mathlib.Core.Logic.{◌⊎◌, inl, inr}
use mathlib.Core.Path.{◌≡◌, refl, ap, ◌∙◌}
use mathlib.Core.Bool.{Bool, true, false}
use Prim.Native.Nat.{ℕ, ◌≤◌, ◌<◌}
use native.Mathlib.Omega.{arith}
use borrow.Author.Tests.{leb-true, le-leb, lt-leb}
use Rattle.answer.specs.declared.Refusal.{Refusal}
use Rattle.answer.specs.Answer.{Answer, bare, mapped, retold, Refusing, accepting, refusing, ◌>>=◌, ensure, fitting}

module _ {A B : Type 0} where
  -- after a question that is answered
  pub then_accepted : (a : A) (f : A → Answer B) (x : Answer A) → x ≡ Ok a → (x >>= f) ≡ f a
  unfolding ◌>>=◌
  then_accepted a f x e = rw e

  -- after a refusal
  pub then_refused : (r : Refusal) (f : A → Answer B) (x : Answer A) → x ≡ Err r → (x >>= f) ≡ Err r
  unfolding ◌>>=◌
  then_refused r f x e = rw e

  -- what holds either way
  pub then_all : (G : Answer B → Type 0) (x : Answer A) (f : A → Answer B) → ((a : A) → x ≡ Ok a → G (f a)) →
      ((r : Refusal) → x ≡ Err r → G (Err r)) → G (x >>= f)
  unfolding ◌>>=◌
  then_all G (Ok a) f g h = g a refl
  then_all G (Err r) f g h = h r refl

  -- the same questions behind the same answer
  pub then_same : (x : Answer A) (f g : A → Answer B) → ((a : A) → x ≡ Ok a → f a ≡ g a) → (x >>= f) ≡ (x >>= g)
  unfolding ◌>>=◌
  then_same (Ok a) f g h = h a refl
  then_same (Err r) f g h = refl

  -- where all is accepted, each is
  pub record Both (x : Answer A) (f : A → Answer B) (b : B) : Type 0 where
    pub is : A
    pub first : x ≡ Ok is
    pub second : f is ≡ Ok b

  pub both : (x : Answer A) (f : A → Answer B) (b : B) → (x >>= f) ≡ Ok b → Both x f b
  unfolding ◌>>=◌
  both (Ok a) f b h = record { is = a; first = refl; second = h }
  both (Err r) f b h = absurd (let z : ◌≡◌ {A = ℕ} 0 1 = cc in omega arith)

  -- where all is refused, the first is, or what follows it
  pub then_refuses : (x : Answer A) (f : A → Answer B) (r : Refusal) → (x >>= f) ≡ Err r → (x ≡ Err r) ⊎ ((a : A) × (x ≡ Ok a) × (f a ≡ Err r))
  unfolding ◌>>=◌
  then_refuses (Ok a) f r h = inr (a, refl, h)
  then_refuses (Err q) f r h = let is : q ≡ r = cc in inl (ap Err is)

module _ {A : Type 0} {x : Answer A} where
  -- accepted or refused, and with one refusal
  pub not_refused : {a : A} {r : Refusal} → x ≡ Ok a → x ≡ Err r → ⊥
  not_refused e k = let z : ◌≡◌ {A = ℕ} 0 1 = cc in omega arith

  pub same_refused : {q r : Refusal} → x ≡ Err q → x ≡ Err r → q ≡ r
  same_refused e k = cc

-- what `?` hands on is the refusal that it met
pub handed_on : {A : Type 0} {x : Answer A} {r : Refusal} → IsErrAnd x (λ q. q ≡ r) → x ≡ Err r
handed_on {x = Err q} e = ap Err e
handed_on {x = Ok a} e = absurd e

module _ {A : Type 0} where
  -- an answer whose refusal is told otherwise
  pub retold_accepted : (f : Refusal → Refusal) (x : Answer A) (a : A) → retold f x ≡ Ok a → x ≡ Ok a
  retold_accepted f (Ok b) a h = h
  retold_accepted f (Err r) a h = absurd (let z : ◌≡◌ {A = ℕ} 0 1 = cc in omega arith)

  pub record Retold (f : Refusal → Refusal) (x : Answer A) (r : Refusal) : Type 0 where
    pub first : Refusal
    pub was : x ≡ Err first
    pub is : r ≡ f first

  pub retold_refused : (f : Refusal → Refusal) (x : Answer A) (r : Refusal) → retold f x ≡ Err r → Retold f x r
  retold_refused f (Ok a) r h = absurd (let z : ◌≡◌ {A = ℕ} 0 1 = cc in omega arith)
  retold_refused f (Err s) r h = record { first = s; was = refl; is = cc }

-- whether an answer is accepted does not hang on what is made of it
pub mapped_accepted : {A B : Type 0} (f : A → B) (x : Answer A) (b : B) → mapped f x ≡ Ok b → (a : A) × (x ≡ Ok a) × (f a ≡ b)
mapped_accepted f (Ok a) b h = (a, refl, cc)
mapped_accepted f (Err r) b h = absurd (let z : ◌≡◌ {A = ℕ} 0 1 = cc in omega arith)

pub mapped_refused : {A B : Type 0} (f : A → B) (x : Answer A) (r : Refusal) → mapped f x ≡ Err r → x ≡ Err r
mapped_refused f (Ok a) r h = absurd (let z : ◌≡◌ {A = ℕ} 0 1 = cc in omega arith)
mapped_refused f (Err s) r h = cc

-- questions in one row
pub then_assoc : {A B C : Type 0} (x : Answer A) (f : A → Answer B) (g : B → Answer C) → ((x >>= f) >>= g) ≡ (x >>= λ a. f a >>= g)
unfolding ◌>>=◌
then_assoc (Ok a) f g = refl
then_assoc (Err r) f g = refl

-- a question behind what is made of an answer
pub then_mapped : {A B C : Type 0} (g : A → B) (x : Answer A) (f : B → Answer C) → (mapped g x >>= f) ≡ (x >>= λ a. f (g a))
unfolding ◌>>=◌
then_mapped g (Ok a) f = refl
then_mapped g (Err r) f = refl

-- what is made of an answer behind a question
pub mapped_then : {A B C : Type 0} (g : B → C) (x : Answer A) (f : A → Answer B) → mapped g (x >>= f) ≡ (x >>= λ a. mapped g (f a))
unfolding ◌>>=◌
mapped_then g (Ok a) f = refl
mapped_then g (Err r) f = refl

-- a test by itself
pub holds : (c : Bool) (r : Refusal) → c ≡ true → ensure c r ≡ Ok tt
unfolding ensure
holds c r e = rw e

pub fails : (c : Bool) (r : Refusal) → c ≡ false → ensure c r ≡ Err r
unfolding ensure
fails c r e = rw e

module _ {B : Type 0} where
  pub ensure_yes : (c : Bool) (r : Refusal) (f : Unit {0} → Answer B) → c ≡ true → (ensure c r >>= f) ≡ f tt
  unfolding ensure ◌>>=◌
  ensure_yes c r f e = rw e

  pub ensure_no : (c : Bool) (r : Refusal) (f : Unit {0} → Answer B) → c ≡ false → (ensure c r >>= f) ≡ Err r
  unfolding ensure ◌>>=◌
  ensure_no c r f e = rw e

  -- what holds either way
  pub ensure_all : (G : Answer B → Type 0) (c : Bool) (r : Refusal) (f : Unit {0} → Answer B) → (c ≡ true → G (f tt)) → (c ≡ false → G (Err r)) →
      G (ensure c r >>= f)
  unfolding ensure ◌>>=◌
  ensure_all G true r f g h = g refl
  ensure_all G false r f g h = h refl

  -- where all is accepted, the test held
  pub record Ensured (c : Bool) (f : Unit {0} → Answer B) (b : B) : Type 0 where
    pub holds : c ≡ true
    pub rest : f tt ≡ Ok b

  pub ensured : (c : Bool) (r : Refusal) (f : Unit {0} → Answer B) (b : B) → (ensure c r >>= f) ≡ Ok b → Ensured c f b
  unfolding ensure ◌>>=◌
  ensured true r f b h = record { holds = refl; rest = h }
  ensured false r f b h = absurd (let z : ◌≡◌ {A = ℕ} 0 1 = cc in omega arith)

-- What holds of refusals.
pub refusing_ensure : (P : Refusal → Type 0) (c : Bool) (r : Refusal) → P r → Refusing P (ensure c r)
unfolding ensure
refusing_ensure P true r h = accepting tt
refusing_ensure P false r h = refusing h

module _ {P : Refusal → Type 0} where
  pub refusing_is : {A : Type 0} {x : Answer A} {r : Refusal} → Refusing P x → x ≡ Err r → P r
  refusing_is (accepting a) e = absurd (let z : ◌≡◌ {A = ℕ} 0 1 = cc in omega arith)
  refusing_is {r = q} (refusing {r} h) e = let is : r ≡ q = cc in rw is at h

  pub refusing_less : {A : Type 0} {x : Answer A} {Q : Refusal → Type 0} → ((r : Refusal) → P r → Q r) → Refusing P x → Refusing Q x
  refusing_less f (accepting a) = accepting a
  refusing_less f (refusing {r} h) = refusing (f r h)

  pub refusing_then : {A B : Type 0} {x : Answer A} (f : A → Answer B) → Refusing P x → ((a : A) → x ≡ Ok a → Refusing P (f a)) → Refusing P (x >>= f)
  unfolding ◌>>=◌
  refusing_then f (accepting a) g = g a refl
  refusing_then f (refusing h) g = refusing h

  pub refusing_mapped : {A B : Type 0} {x : Answer A} (f : A → B) → Refusing P x → Refusing P (mapped f x)
  refusing_mapped f (accepting a) = accepting (f a)
  refusing_mapped f (refusing h) = refusing h

  pub refusing_retold : {A : Type 0} {x : Answer A} (f : Refusal → Refusal) → ((r : Refusal) → P r → P (f r)) → Refusing P x → Refusing P (retold f x)
  refusing_retold f g (accepting a) = accepting a
  refusing_retold f g (refusing {r} h) = refusing (g r h)

  pub refusing_fitting : {A : Type 0} {x : Answer A} (size : A → ℕ) (room : ℕ) → P (bare 12) → Refusing P x → Refusing P (fitting size room x)
  unfolding fitting
  refusing_fitting size room twelve h = refusing_then _ h λ a _. refusing_then _ (refusing_ensure P _ (bare 12) twelve) λ _ _. accepting a

-- 12 last: by what the question is answered, and by the room
module _ {A : Type 0} (size : A → ℕ) (room : ℕ) (x : Answer A) where
  pub fitting_refused : (r : Refusal) → x ≡ Err r → fitting size room x ≡ Err r
  unfolding fitting
  fitting_refused r e = then_refused r _ _ e

  module _ (a : A) (e : x ≡ Ok a) where
    pub fitting_short : room < size a → fitting size room x ≡ Err (bare 12)
    unfolding fitting
    fitting_short h = then_accepted a _ _ e ∙ ensure_no _ _ _ (lt-leb (size a) room h)

    pub fitting_fits : size a ≤ room → fitting size room x ≡ Ok a
    unfolding fitting
    fitting_fits h = then_accepted a _ _ e ∙ ensure_yes _ _ _ (le-leb (size a) room h)

  -- where it is accepted, it was before, and it fits
  pub record Fitted (a : A) : Type 0 where
    pub was : x ≡ Ok a
    pub fits : size a ≤ room

  pub fitted : (a : A) → fitting size room x ≡ Ok a → Fitted a
  unfolding fitting
  fitted a h =
      let p = both _ _ a h in
      let q = ensured _ _ _ a p.second in
      let same : p.is ≡ a = cc q.rest in
      record { was = p.first ∙ ap Ok same; fits = leb-true (size a) room (rw same at q.holds) }
