-- The answer to a question: what was read or written, or one refusal. Assumes nothing.
use Rattle.std.specs.Prelude.{Bool, true, false, List, ◌++◌, ℕ, leb, length, drop, Result, Ok, Err}
use Rattle.answer.specs.declared.Refusal.{Refusal}

abbrev pub Answer : Type 0 → Type 0
Answer A = Result A Refusal

-- a refusal by its number, its place, its type, and how many bytes are missing
abbrev pub lacking : (number place kind missing : ℕ) → Refusal
lacking n p k m = record { number = n; place = p; kind = k; missing = m }

-- nothing is missing unless it is said
abbrev pub refuse : (number place kind : ℕ) → Refusal
refuse n p k = lacking n p k 0

-- a refusal whose place and type are 0
abbrev pub bare : (number : ℕ) → Refusal
bare n = refuse n 0 0

-- the same answer, of something made from what was accepted
abbrev pub mapped : {A B : Type 0} → (A → B) → Answer A → Answer B
mapped f (Ok a) = Ok (f a)
mapped f (Err r) = Err r

-- the same answer, its refusal told otherwise
abbrev pub retold : {A : Type 0} → (Refusal → Refusal) → Answer A → Answer A
retold f (Ok a) = Ok a
retold f (Err r) = Err (f r)

-- What holds of an answer's refusal, where it is one.
pub data Refusing {A : Type 0} (P : Refusal → Type 0) : Answer A → Type 0 where
  accepting : (a : A) → Refusing P (Ok a)
  refusing : {r : Refusal} → P r → Refusing P (Err r)

-- One question after the other: the first refusal counts. A definition lists its questions in a `do` block, in the paper's order.
infixl 20 ◌>>=◌
unfoldable pub ◌>>=◌ : {A B : Type 0} → Answer A → (A → Answer B) → Answer B
Ok a >>= f = f a
Err r >>= f = Err r

-- a refusal unless a test holds
unfoldable pub ensure : Bool → Refusal → Answer (Unit {0})
ensure true r = Ok tt
ensure false r = Err r

-- 12 where so much does not fit in a lent buffer of that length
abbrev pub fits : (size room : ℕ) → Answer (Unit {0})
fits size room = ensure (leb size room) (bare 12)

-- the same answer, of which so much is written into a lent buffer of that length: 12 comes last
unfoldable pub fitting : {A : Type 0} → (A → ℕ) → (room : ℕ) → Answer A → Answer A
fitting size room answer = do
  a ← answer
  _ ← fits (size a) room
  Ok a

-- what a lent buffer that came with the content l holds afterwards: what was accepted at its front and the rest as it came; on a refusal all as it came
abbrev pub filled : Answer (List ℕ) → List ℕ → List ℕ
filled (Ok xs) l = xs ++ drop (length xs) l
filled (Err r) l = l
