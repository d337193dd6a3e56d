-- Invoices, added one after the other. Assumes nothing.
use Rattle.std.specs.Prelude.{Ok, Err, Option}
use Rattle.std.proofs.Common.{◌≡◌, ℕ, List, [], ◌∷◌, ◌++◌, refl}
use Rattle.answer.specs.declared.Refusal.{Refusal}
use Rattle.book.specs.Book as Book
use Rattle.book.specs.Book.{part_of}
use Rattle.book.specs.declared.Item.{Item}
use Rattle.invoice.specs.Invoice.{judging}
use Rattle.money.specs.declared.Msat.{Msat}
use Rattle.month.specs.declared.invoices.Paid.{Paid}
use Rattle.month.specs.Month.{amount_of, invoice_amounts, amounts_in, paying, pays}

pub pays_none : (p : Paid) → pays p [] ≡ p
unfolding pays
pays_none p = refl

pub pays_one : (p : Paid) (a : Option Msat) → pays p (a ∷ []) ≡ paying a p
unfolding pays
pays_one p a = refl

pub pays_append : (p : Paid) (these those : List (Option Msat)) → pays p (these ++ those) ≡ pays (pays p these) those
unfolding pays
pays_append p [] those = refl
pays_append p (a ∷ these) those = pays_append (paying a p) these those

pub none_paid : (p : Paid) (book : List ℕ) → pays p (invoice_amounts book []) ≡ p
unfolding invoice_amounts
none_paid p book = pays_none p

pub one_paid : (p : Paid) (book : List ℕ) (e : Item) (es : List Item) →
    pays p (invoice_amounts book (e ∷ es)) ≡ pays (pays p (amount_of (judging (part_of e book)))) (invoice_amounts book es)
unfolding invoice_amounts
one_paid p book e es = pays_append p (amount_of (judging (part_of e book))) (invoice_amounts book es)

-- A book's, by its answer.
pub amounts_none : (book : List ℕ) (r : Refusal) → Book.judging book ≡ Err r → amounts_in book ≡ []
unfolding amounts_in
amounts_none book r e = rw e

pub amounts_are : (book : List ℕ) (p : Book.Parts) → Book.judging book ≡ Ok p → amounts_in book ≡ invoice_amounts book p.invoices.items
unfolding amounts_in
amounts_are book p e = rw e
