-- What a refusal says of how many bytes are missing: document 02, (v). Assumes nothing.
use Rattle.std.specs.Prelude.{Bool, true, ◌||◌, List, ◌↔◌, ◌⊎◌, ◌≡◌, ℕ, ◌-◌, ◌<◌, eqb, length, get_or, Err}
use Rattle.answer.specs.declared.Refusal.{Refusal}
use Rattle.answer.specs.Answer.{Answer, lacking}

-- the refusals of what is cut short: a type or a BigSize (1), a length (4), a value (6), and a BigSize asked of nothing (13)
abbrev pub is_cut : (number : ℕ) → Bool
is_cut n = eqb n 1 || eqb n 4 || eqb n 6 || eqb n 13

abbrev pub CutShort : Refusal → Type 0
CutShort r = is_cut r.number ≡ true

-- Missing is above 0 exactly in these.
abbrev pub Counted : Refusal → Type 0
Counted r = (0 < r.missing) ↔ CutShort r

-- the same refusal, where so many bytes fewer are missing
abbrev pub fewer : (bytes : ℕ) → Refusal → Refusal
fewer n r = lacking r.number r.place r.kind (r.missing - n)

-- Missing is what it is called. `given` is the answer with more bytes at the end, whichever they are. With fewer than are missing, what is cut short still is,
-- and lacks so many fewer; with exactly as many it no longer is. Of a number that is not begun the first byte is missing: with that it is begun, and it is
-- whole where the byte is below 253.
pub record Lacks {A : Type 0} (r : Refusal) (begun : Type 0) (given : List ℕ → Answer A) : Type 0 where
  pub still : (more : List ℕ) → length more < r.missing → given more ≡ Err (fewer (length more) r)
  pub whole : (more : List ℕ) → length more ≡ r.missing → begun ⊎ (get_or more 0 0 < 253) → (q : Refusal) → given more ≡ Err q →
      (q.number ≡ r.number) × (q.place ≡ r.place) → ⊥
