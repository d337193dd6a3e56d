-- An accepted invoice asks exactly what its text says: document 02 (i). Assumes nothing.
use Rattle.std.specs.Prelude.{Option, Some, None, Ok}
use mathlib.Core.List.{List, [], ◌∷◌, map}
use mathlib.Core.Path.{◌≡◌, refl}
use Prim.Native.Nat.{ℕ}
use native.Mathlib.Omega.{arith}
use Rattle.answer.proofs.Answer.{both}
use Rattle.letters.specs.Letters.{lower}
use Rattle.money.specs.declared.Msat.{Msat}
use Rattle.money.proofs.Exact.{accepted_exact}
use Rattle.invoice.specs.Exact.{AsksExactly}
use Rattle.invoice.specs.Invoice.{Contents, asking, amount_of, judging}
use Rattle.invoice.proofs.Accepted.{judged, amount_told}

-- A lower-case amount asks exactly what its characters say, above zero, and nothing where there are none.
pub asking_exact : (amount : List ℕ) (m : Option Msat) → asking amount ≡ Ok m → AsksExactly amount m
unfolding asking
asking_exact [] None h = refl
asking_exact [] (Some m) h = absurd (let z : ◌≡◌ {A = ℕ} 0 1 = cc in omega arith)
asking_exact (c ∷ cs) None h =
    let a = both _ _ None h in
    absurd (let z : ◌≡◌ {A = ℕ} 0 1 = cc a.second in omega arith)
asking_exact (c ∷ cs) (Some m) h =
    let a = both _ _ (Some m) h in
    let is : a.is ≡ m = cc a.second in
    rw (← is) (accepted_exact (c ∷ cs) a.is a.first)

-- So does an accepted invoice: of the characters that stand, in either case, where the reader says that the amount does.
pub asks_exactly : (text : List ℕ) (told : Contents) → judging text ≡ Ok told → AsksExactly (map lower (amount_of text told)) told.hrp.msat
asks_exactly text told h =
    let j = judged text told h in
    rw (amount_told text told j) (asking_exact _ _ j.asked)
