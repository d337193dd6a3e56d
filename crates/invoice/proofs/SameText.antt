-- A text and a prefix that are the same but for the case of letters. Assumes nothing.
use Rattle.std.specs.Prelude.{IsTrue, ◌↔◌}
use Rattle.std.specs.Char.{to_ascii_lowercase}
use mathlib.Core.Bool.{Bool, true, false}
use mathlib.Core.List.{List, [], ◌∷◌, map}
use mathlib.Core.Path.{◌≡◌, refl, sym, ◌∙◌}
use Prim.Native.Nat.{ℕ}
use lib.Dec.{eqb}
use borrow.Author.Tests.{eqb-true, eq-eqb}
use Rattle.laws.proofs.Test.{by_test, and_true}
use Rattle.letters.specs.Letters.{lower}
use Rattle.letters.proofs.LetterLaws.{text_ascii}
use Rattle.invoice.specs.Edition.{same}

same_self : (s : List ℕ) → same s s ≡ true
unfolding same
same_self [] = refl
same_self (c ∷ s) = rw (eq-eqb c c refl, same_self s)

same_is : (s t : List ℕ) → same s t ≡ true → s ≡ t
unfolding same
same_is [] [] h = refl
same_is [] (d ∷ t) h = cc
same_is (c ∷ s) [] h = cc
same_is (c ∷ s) (d ∷ t) h =
    let b = and_true (eqb c d) (same s t) h in
    rw (eqb-true c d b.0, same_is s t b.1)

pub same_texts : (r : Bool) (s t : List ℕ) → (IsTrue r ↔ (map to_ascii_lowercase s ≡ map to_ascii_lowercase t)) → map lower t ≡ t → r ≡ same (map lower s) t
same_texts true s t h low = let e : map lower s ≡ t = sym (text_ascii s) ∙ h.0 refl ∙ text_ascii t ∙ low in sym (rw e (same_self t))
same_texts false s t h low =
    by_test (same (map lower s) t)
    (λ yes. let no = h.1 (text_ascii s ∙ same_is _ _ yes ∙ sym (text_ascii t ∙ low)) in cc)
    λ no. sym no
