-- The answer to what is met. Assumes nothing.
use Rattle.std.specs.Prelude.{Ok, Err}
use mathlib.Core.List.{List, [], ◌∷◌, ◌++◌}
use mathlib.Core.Path.{◌≡◌, refl, ◌∙◌}
use Prim.Native.Nat.{ℕ}
use native.Mathlib.Omega.{arith}
use Rattle.answer.specs.Answer.{Answer, ◌>>=◌}
use Rattle.answer.proofs.Answer.{both}
use Rattle.frame.specs.Frame.{Frame}
use Rattle.stream.specs.Stream.{Record, Item, met, broken, where_framed, knows, own, records_of, answering}

-- a record, what is inside it and what is behind it: one question after the other
three : (r : Record) (x : Answer (Unit {0})) (a b : Answer (List Record)) →
    (x >>= λ _. (a >>= λ p. b >>= λ q. Ok (p ++ q)) >>= λ rest. Ok (r ∷ rest)) ≡
    (x >>= λ _. a >>= λ p. b >>= λ q. Ok (r ∷ (p ++ q)))
unfolding ◌>>=◌
three r (Err q) a b = refl
three r (Ok t) (Err q) b = refl
three r (Ok t) (Ok p) (Err q) = refl
three r (Ok t) (Ok p) (Ok q) = refl

front : (r : Record) (x : Answer (Unit {0})) (a b : Answer (List Record)) →
    (x >>= λ _. a >>= λ p. b >>= λ q. Ok (r ∷ (p ++ q))) ≡
    ((x >>= λ _. a >>= λ p. Ok (r ∷ p)) >>= λ p. b >>= λ q. Ok (p ++ q))
unfolding ◌>>=◌
front r (Err q) a b = refl
front r (Ok t) (Err q) b = refl
front r (Ok t) (Ok p) (Err q) = refl
front r (Ok t) (Ok p) (Ok q) = refl

alone : (b : Answer (List Record)) → b ≡ (b >>= λ q. Ok q)
unfolding ◌>>=◌
alone (Ok q) = refl
alone (Err q) = refl

module _ (table : List ℕ) where
  -- of one run behind another
  pub answering_append : (a b : List Item) → answering table (a ++ b) ≡ (answering table a >>= λ p. answering table b >>= λ q. Ok (p ++ q))
  unfolding answering ◌>>=◌
  answering_append [] b = alone (answering table b)
  answering_append (broken q ∷ a) b = refl
  answering_append (met r ∷ a) b =
      let o = own (knows table r) r.levels r.place r.kind r.value in
      rw (answering_append a b) (three r o (answering table a) (answering table b) ∙ front r o (answering table a) (answering table b))

  pub answering_none : answering table [] ≡ Ok []
  unfolding answering
  answering_none = refl

  -- behind a frame that is there or not
  pub answering_framed : (a : Answer Frame) (f : Frame → List Item) → answering table (where_framed a f) ≡ (a >>= λ x. answering table (f x))
  unfolding answering where_framed ◌>>=◌
  answering_framed (Ok x) f = refl
  answering_framed (Err q) f = refl

  -- of a record, some items behind it and more behind those
  pub answering_record : (r : Record) (within rest : List Item) →
      answering table (met r ∷ (within ++ rest)) ≡
      (own (knows table r) r.levels r.place r.kind r.value >>= λ _.
      answering table within >>= λ p. answering table rest >>= λ q. Ok (r ∷ (p ++ q)))
  unfolding answering
  answering_record r within rest =
      rw (answering_append within rest)
      (three r (own (knows table r) r.levels r.place r.kind r.value) (answering table within) (answering table rest))

  -- accepted are the records that are met
  pub answering_met : (items : List Item) (rs : List Record) → answering table items ≡ Ok rs → rs ≡ records_of items
  unfolding answering records_of
  answering_met [] rs h = cc
  answering_met (broken q ∷ items) rs h = absurd (let z : ◌≡◌ {A = ℕ} 0 1 = cc in omega arith)
  answering_met (met r ∷ items) rs h =
      let a = both _ _ rs h in
      let b = both _ _ rs a.second in
      let is = answering_met items b.is b.first in
      let q : Ok (r ∷ b.is) ≡ Ok rs = b.second in
      cc (q, is)
