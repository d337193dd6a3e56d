-- No amount and an amount of 0 as a struct tells them: document 02 (i). Assumes nothing.
use Rattle.std.specs.Prelude.{Option, Some, None, Ok, Err}
use mathlib.Core.List.{List}
use mathlib.Core.Path.{◌≡◌, refl}
use Prim.Native.Nat.{ℕ}
use native.Mathlib.Omega.{arith}
use Rattle.answer.specs.Answer.{Answer, mapped}
use Rattle.invoice.specs.Exact.{AsksExactly}
use Rattle.invoice.specs.Invoice.{Contents, summary_of, judging, reading}
use Rattle.invoice.specs.declared.Summary.{Summary}
use Rattle.invoice.proofs.Accepted.{read_judged}
use Rattle.invoice.proofs.Exact.{asks_exactly}
use Rattle.money.specs.declared.Msat.{Msat}
use Rattle.c_invoice.specs.Invoices.{amount_of, invoice_of}
use Rattle.c_invoice.specs.declared.invoices.Invoice.{Invoice}

abbrev NoneIsZero : Invoice → Type 0
NoneIsZero told = (told.msat ≡ 0 → told.asked ≡ 0) × (told.asked ≡ 0 → told.msat ≡ 0)

by_asked : (amount : List ℕ) (s : Summary) (m : Option Msat) → AsksExactly amount m → NoneIsZero (amount_of m s)
by_asked amount s None e = (λ _. refl, λ _. refl)
by_asked amount s (Some m) e = (λ zero. absurd (omega (arith, e.above_zero)), λ zero. absurd (omega arith))

by_answer : (text : List ℕ) (x : Answer Contents) → ((told : Contents) → x ≡ Ok told → judging text ≡ Ok told) → NoneIsZero (invoice_of (mapped summary_of x))
by_answer text (Ok told) judged = by_asked _ _ told.hrp.msat (asks_exactly text told (judged told refl))
by_answer text (Err r) judged = (λ _. refl, λ _. refl)

-- An amount of 0 does not exist: the millisatoshi are 0 exactly where no amount is told.
pub none_is_zero : (text : List ℕ) (groups index : ℕ) →
    let told = invoice_of (mapped summary_of (reading text groups index)) in
    (told.msat ≡ 0 → told.asked ≡ 0) × (told.asked ≡ 0 → told.msat ≡ 0)
none_is_zero text groups index = by_answer text (reading text groups index) (λ told e. (read_judged text groups index told e).0)
