-- What the invoices of books ask for: the counts and the sum are exact. Assumes nothing.
use Rattle.std.specs.Prelude.{Ok, Err, Option, None, Some}
use Rattle.std.proofs.Common.{◌≡◌, ℕ, ◌+◌, ◌*◌, ◌^◌, ◌<◌, ◌≤◌, List, [], ◌∷◌, length, sym, refl, ◌∙◌, lt_of_lt_of_le, add-zero, add_assoc, arith, length-append, leb-true}
use Rattle.answer.specs.Answer.{Answer}
use Rattle.answer.proofs.Answer.{both}
use Rattle.book.specs.Book as Book
use Rattle.book.specs.Book.{part_of}
use Rattle.book.specs.declared.Item.{Item}
use Rattle.book.proofs.PartLaws as Parts
use Rattle.book.proofs.SectionLaws.{items_few}
use Rattle.halves.specs.Halves.{value, halves}
use Rattle.invoice.specs.Invoice.{Contents, asking, judging}
use Rattle.invoice.proofs.Accepted.{judged}
use Rattle.money.specs.declared.Msat.{Msat}
use Rattle.money.proofs.Accepted.{accepted_below}
use Rattle.month.specs.declared.invoices.Paid.{Paid}
use Rattle.month.specs.Month.{amount_of, invoice_amounts, amounts_in, paying, pays}
use Rattle.month.specs.Run.{amounts, sum_of, unpriced, asked}
use Rattle.month.proofs.Sums.{sum_append, length_sum, throughout_most}
use Rattle.month.proofs.Totals.{plus_fits}

-- An accepted amount is below 2^63.
asked_below : (amount : List ℕ) (m : Option Msat) → asking amount ≡ Ok m → asked m < 2 ^ 63
unfolding asking
asked_below amount None h = omega arith
asked_below [] (Some m) h = absurd (let z : ◌≡◌ {A = ℕ} 0 1 = cc in omega arith)
asked_below (c ∷ cs) (Some m) h =
    let a = both _ _ (Some m) h in
    let is : a.is ≡ m = cc a.second in
    rw (← is) (accepted_below (c ∷ cs) a.is a.first)

-- an invoice brings one at most
one_most : (text : List ℕ) (x : Answer Contents) → judging text ≡ x → (length (amount_of x) ≤ 1) × (sum_of asked (amount_of x) ≤ 2 ^ 63)
unfolding sum_of
one_most text (Ok c) e = (omega arith, omega (arith, asked_below _ c.hrp.msat (judged text c e).asked))
one_most text (Err r) e = (omega arith, omega arith)

items_most : (book : List ℕ) (es : List Item) →
    (length (invoice_amounts book es) ≤ length es) × (sum_of asked (invoice_amounts book es) ≤ length es * 2 ^ 63)
unfolding invoice_amounts sum_of
items_most book [] = (omega arith, omega arith)
items_most book (e ∷ es) =
    let these = amount_of (judging (part_of e book)) in
    let those = invoice_amounts book es in
    let one = one_most (part_of e book) (judging (part_of e book)) refl in
    let rest = items_most book es in
    (omega (arith, length-append these those, one.0, rest.0), omega (arith, sum_append asked these those, one.1, rest.1))

-- a book brings no more than it has bytes
book_most : (book : List ℕ) (x : Answer Book.Parts) → Book.judging book ≡ x →
    (length (amounts_in book) ≤ 65535) × (sum_of asked (amounts_in book) ≤ 65535 * 2 ^ 63)
unfolding amounts_in sum_of
book_most book (Ok p) e =
    let q = Parts.parted book p (Parts.judged book p e).0 in
    let r = q.invoices in
    let es = p.invoices.items in
    let few : length es ≤ 65535 = omega (arith, items_few _ book _ _ es r.items, r.ends, q.short) in
    let most = items_most book es in
    rw e (omega (arith, most.0, few), omega (arith, most.1, few))
book_most book (Err r) e = rw e (omega arith, omega arith)

-- A thousand books are far from wrapping.
module _ (books : List (List ℕ)) (few : length books ≤ 1000) where
  pub amounts_few : length (amounts books) < 2 ^ 64
  amounts_few =
      let each : (b : List ℕ) → sum_of (λ _. 1) (amounts_in b) ≤ 65535 = λ b. rw (← (length_sum (amounts_in b))) (book_most b (Book.judging b) refl).0 in
      omega (arith, length_sum (amounts books), throughout_most amounts_in (λ _. 1) 65535 each books)

  pub sum_fits : sum_of asked (amounts books) < 2 ^ 128
  sum_fits =
      let most = throughout_most amounts_in asked (65535 * 2 ^ 63) (λ b. (book_most b (Book.judging b) refl).1) books in
      let near : sum_of asked (amounts books) < 2 ^ 100 = omega (arith, most) in
      lt_of_lt_of_le near (leb-true (2 ^ 100) (2 ^ 128) refl)

-- Invoices added one after the other: each number is the one before and the sum over them.
unpriced_few : (these : List (Option Msat)) → sum_of unpriced these ≤ length these
unfolding sum_of
unpriced_few [] = omega arith
unpriced_few (None ∷ these) = omega (arith, unpriced_few these)
unpriced_few (Some m ∷ these) = omega (arith, unpriced_few these)

pub record Pays (p : Paid) (these : List (Option Msat)) : Type 0 where
  pub invoices : (pays p these).invoices ≡ p.invoices + length these
  pub unpriced : (pays p these).unpriced ≡ p.unpriced + sum_of unpriced these
  pub sum : value (pays p these).sum ≡ value p.sum + sum_of asked these

-- The top of the halves, 2^128, is a number by its name here: its digits are too many for arithmetic.
module _ (top : ℕ) (exact : (n : ℕ) → n < top → value (halves n) ≡ n) where
  pub pays_exact : (p : Paid) (these : List (Option Msat)) → p.invoices + length these < 2 ^ 64 → p.unpriced + length these < 2 ^ 64 →
      value p.sum + sum_of asked these < top → Pays p these
  unfolding pays sum_of
  pays_exact p [] few free fits = record { invoices = sym (add-zero _); unpriced = sym (add-zero _); sum = sym (add-zero _) }
  pays_exact p (None ∷ these) few free fits =
      let one = plus_fits p.invoices 1 (omega arith) in
      let more = plus_fits p.unpriced 1 (omega arith) in
      let r = pays_exact (paying None p) these (rw one (omega arith)) (rw more (omega arith)) (omega arith) in
      record {
        invoices = r.invoices ∙ rw one (omega arith);
        unpriced = r.unpriced ∙ rw more (omega arith);
        sum = r.sum ∙ omega arith;
      }
  pays_exact p (Some m ∷ these) few free fits =
      let one = plus_fits p.invoices 1 (omega arith) in
      let sum = exact (value p.sum + m.0) (omega arith) in
      let r = pays_exact (paying (Some m) p) these (rw one (omega arith)) (omega arith) (rw (sum, add_assoc (value p.sum) m.0 (sum_of asked these)) fits) in
      record {
        invoices = r.invoices ∙ rw one (omega arith);
        unpriced = r.unpriced ∙ omega arith;
        sum = r.sum ∙ rw sum (add_assoc (value p.sum) m.0 (sum_of asked these));
      }
