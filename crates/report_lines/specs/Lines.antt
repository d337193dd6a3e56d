-- The lines of the report on a recording book: document 01, "The recording book"; document 02, (iii) and (v). Assumes nothing.
use Rattle.std.specs.Prelude.{Bool, true, false, ℕ, List, [], ◌∷◌, ◌++◌, length, Ok, Err, Option, None, Some}
use Rattle.hexadecimal.specs.Hex.{hex}
use Rattle.invoice.specs.Invoice as Invoice
use Rattle.laws.specs.Test.{pick}
use Rattle.message.specs.Message.{Outcome, passed_over, told, address_in}
use Rattle.money.specs.declared.Msat.{Msat}
use Rattle.answer.specs.Answer.{Answer, mapped}
use Rattle.answer.specs.Missing.{is_cut}
use Rattle.answer.specs.declared.Refusal.{Refusal}
use Rattle.stream.specs.Tally.{tally}
use Rattle.stream.specs.declared.Counts.{Counts}
use Rattle.stream.specs.Stream.{Row}
use Rattle.stream_index.specs.Index.{part_of}
use Rattle.report_lines.specs.Text.{text, worded, ending}

-- missing 5, behind a refusal of what is cut short; behind any other, nothing
abbrev pub missing_words : Refusal → List ℕ
missing_words r = pick (is_cut r.number) (worded " missing " r.missing) []

-- refused 7 at 0 type 18, or refused 6 at 0 type 1 missing 5
abbrev pub refused_words : Refusal → List ℕ
refused_words r = worded " refused " r.number ++ (worded " at " r.place ++ (worded " type " r.kind ++ (missing_words r ++ text "\n")))

-- stream 1 ok records 1 known 1, or its refusal
abbrev pub reading_line : (number : ℕ) → Answer Counts → List ℕ
reading_line number (Ok t) = worded "stream " number ++ (worded " ok records " t.records ++ ending " known " t.known)
reading_line number (Err r) = worded "stream " number ++ refused_words r

abbrev pub stream_line : (number : ℕ) → Answer (List Row) → List ℕ
stream_line number read = reading_line number (mapped tally read)

-- address 1 7f0000012607: a descriptor's type in decimal and its rest in lower-case hex, a space between; nothing after the type if the rest is empty. Where
-- there is no address, nothing.
abbrev pub rest_words : List ℕ → List ℕ
rest_words [] = []
rest_words (b ∷ bs) = text " " ++ hex (b ∷ bs)

abbrev pub address_words : List ℕ → List ℕ
address_words [] = []
address_words (kind ∷ rest) = worded " address " kind ++ rest_words rest

-- message 1 ok type 18 extension 0, message 1 passed over type 21, or its refusal. The line of an init with an address ends in it.
abbrev pub message_line : (number : ℕ) (m : List ℕ) → Answer Outcome → List ℕ
message_line number m (Ok (told payload rows)) =
    worded "message " number
    ++ (worded " ok type " payload.kind
    ++ (worded " extension " (length rows)
    ++ (address_words (part_of m (address_in (told payload rows)))
    ++ text "\n")))
message_line number m (Ok (passed_over kind)) = worded "message " number ++ ending " passed over type " kind
message_line number m (Err r) = worded "message " number ++ refused_words r

-- invoice 1 ok msat 250000000 fields 3, msat none without an amount, or invoice 1 refused 35 at 0
abbrev pub asked_words : Option Msat → (fields : ℕ) → List ℕ
asked_words (Some msat) fields = worded " ok msat " msat.0 ++ ending " fields " fields
asked_words None fields = ending " ok msat none fields " fields

abbrev pub invoice_line : (number : ℕ) → Answer Invoice.Contents → List ℕ
invoice_line number (Ok t) = worded "invoice " number ++ asked_words t.hrp.msat (length t.fields)
invoice_line number (Err r) = worded "invoice " number ++ (worded " refused " r.number ++ ending " at " r.place)

-- whether an entry is refused, and the same as a number, 1 or 0
abbrev pub is_refused : {A : Type 0} → Answer A → Bool
is_refused (Ok a) = false
is_refused (Err r) = true

abbrev pub refusal : {A : Type 0} → Answer A → ℕ
refusal (Ok a) = 0
refusal (Err r) = 1

-- end streams 2 messages 1 invoices 0 refused 1
abbrev pub end_line : (streams messages invoices refusals : ℕ) → List ℕ
end_line streams messages invoices refusals =
    worded "end streams " streams ++ (worded " messages " messages ++ (worded " invoices " invoices ++ ending " refused " refusals))
