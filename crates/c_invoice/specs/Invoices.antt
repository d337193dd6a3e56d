-- The answers about an invoice as structs. Assumes nothing.
use Rattle.std.specs.Prelude.{ℕ, Option, Some, None, Ok, Err}
use Rattle.invoice.specs.declared.Summary.{Summary}
use Rattle.invoice_content.specs.declared.Hop.{Hop}
use Rattle.money.specs.declared.Msat.{Msat}
use Rattle.answer.specs.Answer.{Answer}
use Rattle.answer.specs.declared.Refusal.{Refusal}
use Rattle.c_answer.specs.Results.{nothing, yes, no, none}
use Rattle.c_invoice.specs.declared.fields.Entry.{Entry}
use Rattle.c_invoice.specs.declared.invoices.Invoice.{Invoice}

-- an accepted invoice that names an amount, 1, or none, 0
abbrev pub priced : (asked msat : ℕ) → Summary → Invoice
priced asked msat s =
    record {
      refusal = nothing;
      prefix = s.prefix;
      asked = asked;
      amount = record { start = s.amount.start; size = s.amount.size };
      msat = msat;
      time = s.time;
      groups = s.groups;
      fields = s.fields;
      payment = s.payment;
      expiry = s.expiry;
      delta = s.delta;
    }

-- by whether it names one
abbrev pub amount_of : Option Msat → Summary → Invoice
amount_of None s = priced 0 0 s
amount_of (Some m) s = priced 1 m.0 s

abbrev pub told : Summary → Invoice
told s = amount_of s.asked s

-- a refused invoice
abbrev pub unread : Refusal → Invoice
unread r =
    record {
      refusal = r;
      prefix = 0;
      asked = 0;
      amount = record { start = 0; size = 0 };
      msat = 0;
      time = 0;
      groups = 0;
      fields = 0;
      payment = 0;
      expiry = 0;
      delta = 0;
    }

-- What the reader answers, as a struct.
abbrev pub invoice_of : Answer Summary → Invoice
invoice_of (Ok s) = told s
invoice_of (Err r) = unread r

-- no entry of a route, and why
abbrev pub no_entry : (outcome : ℕ) → Refusal → Entry
no_entry outcome r = record { refusal = r; outcome = outcome; channel = 0; fee = 0; delta = 0 }

-- the numbers of an entry, no entry, or a refusal
abbrev pub entry_of : Answer (Option Hop) → Entry
entry_of (Ok (Some h)) = record { refusal = nothing; outcome = yes; channel = h.channel; fee = h.fee; delta = h.delta }
entry_of (Ok None) = no_entry none nothing
entry_of (Err r) = no_entry no r
