-- Sums over lists, and over all that books hold. Assumes nothing.
use Rattle.std.proofs.Common.{◌≡◌, ℕ, suc, ◌+◌, ◌*◌, ◌≤◌, List, [], ◌∷◌, ◌++◌, length, sym, refl, ap, ◌∙◌, append_assoc, add_assoc, zero-add, arith}
use Rattle.month.specs.Run.{throughout, sum_of}

module _ {A : Type 0} (f : A → ℕ) where
  pub sum_append : (xs ys : List A) → sum_of f (xs ++ ys) ≡ sum_of f xs + sum_of f ys
  unfolding sum_of
  sum_append [] ys = sym (zero-add _)
  sum_append (x ∷ xs) ys = ap (λ (n : ℕ). f x + n) (sum_append xs ys) ∙ sym (add_assoc (f x) (sum_of f xs) (sum_of f ys))

-- a length is a sum
pub length_sum : {A : Type 0} (xs : List A) → length xs ≡ sum_of (λ _. 1) xs
unfolding sum_of
length_sum [] = refl
length_sum (x ∷ xs) = omega (arith, length_sum xs)

module _ {A : Type 0} (of : List ℕ → List A) where
  pub throughout_append : (bs cs : List (List ℕ)) → throughout of (bs ++ cs) ≡ throughout of bs ++ throughout of cs
  unfolding throughout
  throughout_append [] cs = refl
  throughout_append (b ∷ bs) cs = ap (λ (t : List A). of b ++ t) (throughout_append bs cs) ∙ sym (append_assoc (of b) (throughout of bs) (throughout of cs))

  -- as much from each book makes so much in all
  pub throughout_most : (f : A → ℕ) (n : ℕ) → ((b : List ℕ) → sum_of f (of b) ≤ n) → (bs : List (List ℕ)) → sum_of f (throughout of bs) ≤ length bs * n
  unfolding throughout sum_of
  throughout_most f n most [] = omega arith
  throughout_most f n most (b ∷ bs) =
      let e : suc (length bs) * n ≡ n + length bs * n = omega arith in
      rw (throughout, sum_append f (of b) (throughout of bs), e) (omega (arith, most b, throughout_most f n most bs))
