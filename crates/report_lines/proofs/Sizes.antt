-- How long lines are. Assumes nothing.
use Rattle.std.specs.Prelude.{Ok, Err, Option, Some, None}
use mathlib.Core.Bool.{Bool, true, false}
use mathlib.Core.List.{List, [], ◌∷◌, ◌++◌}
use mathlib.Core.Path.{◌≡◌, refl}
use Prim.Native.Nat.{ℕ, ◌+◌, ◌*◌, ◌/◌, ◌≤◌, ◌<◌}
use Prim.Native.String.{String}
use native.Mathlib.Omega.{arith}
use lib.Dec.{ltb, leb}
use borrow.Author.Tests.{lt-ltb}
use lib.ListN.{length, drop, length-append, length-take, length-drop}
use Rattle.invoice.specs.Invoice.{judging as judgingInvoice}
use Rattle.invoice.specs.Invoice as Invoice
use Rattle.invoice.proofs.InvoiceLaws.{judging_refused}
use Rattle.invoice_text.specs.Text.{first_where, up_to_last_one, parting, sealing, spelling}
use Rattle.laws.specs.Test.{pick}
use Rattle.laws.proofs.Test.{pick_yes, pick_no, pick_all}
use Rattle.message.specs.Message.{Outcome, judging as judgingMessage, told, passed_over, address_in}
use Rattle.message.specs.declared.layout.Payload.{Payload}
use Rattle.message.proofs.MessageLaws.{judging_cut, read_long}
use Rattle.money.specs.declared.Msat.{Msat}
use Rattle.answer.specs.Answer.{Answer, bare, ensure, ◌>>=◌}
use Rattle.answer.specs.Missing.{is_cut}
use Rattle.answer.specs.declared.Part.{Part}
use Rattle.answer.specs.declared.Refusal.{Refusal}
use Rattle.answer.proofs.Answer.{then_accepted, ensure_all}
use Rattle.answer.proofs.Missing.{cut_below}
use Rattle.stream.specs.Tally.{knowns}
use Rattle.stream.specs.Stream.{Row, rows_in, walk, answering, rows_at, outer_from, judging_from, judging as judgingStream}
use Rattle.stream_index.specs.Index.{part_of}
use Rattle.table.specs.Table.{checking}
use Rattle.report_lines.specs.Lines.{missing_words, refused_words, stream_line, rest_words, address_words, message_line, asked_words, invoice_line, end_line}
use Rattle.report_lines.specs.Text.{text, decimal_in, decimal, worded, ending}
use Rattle.report_lines.proofs.Decimal.{length_decimal}
use Rattle.hexadecimal.proofs.Digits.{length_hex}

-- words and a number
pub worded_small : (words : String) (n : ℕ) → length (worded words n) ≤ length (text words) + 20
worded_small words n = omega (arith, length-append (text words) (decimal n), length_decimal 20 n)

pub ending_small : (words : String) (n : ℕ) → length (ending words n) ≤ length (text words) + 21
ending_small words n = omega (arith, length-append (worded words n) (text "\n"), worded_small words n)

-- words and a number, and more behind them
pub headed_small : (words : String) (n : ℕ) (rest : List ℕ) (m : ℕ) → length rest ≤ m → length (worded words n ++ rest) ≤ length (text words) + 20 + m
headed_small words n rest m h = omega (arith, length-append (worded words n) rest, worded_small words n)

-- a number below a hundred
two_digits : (n : ℕ) → n < 100 → length (decimal n) ≤ 2
unfolding decimal_in
two_digits n h =
    pick_all (λ (x : List ℕ). length x ≤ 2) (ltb n 10) _ _ (λ _. omega arith)
    (λ _. rw (pick_yes {A = List ℕ} (ltb (n / 10) 10) _ _ (lt-ltb (n / 10) 10 (omega arith))) (omega arith))

-- what stands behind the number of a refusal
behind_small : (r : Refusal) (m : ℕ) → length (missing_words r) ≤ m →
    length (worded " at " r.place ++ (worded " type " r.kind ++ (missing_words r ++ text "\n"))) ≤ 51 + m
behind_small r m h =
    let end : length (missing_words r ++ text "\n") ≤ 1 + m = omega (arith, length-append (missing_words r) (text "\n")) in
    omega (
      arith,
      headed_small " at " r.place (worded " type " r.kind ++ (missing_words r ++ text "\n")) (27 + m)
          (omega (arith, headed_small " type " r.kind (missing_words r ++ text "\n") (1 + m) end)),
    )

refused_small : (r : Refusal) → length (refused_words r) ≤ 91
refused_small r =
    let behind = worded " at " r.place ++ (worded " type " r.kind ++ (missing_words r ++ text "\n")) in
    let all = length-append (worded " refused " r.number) behind in
    let front = length-append (text " refused ") (decimal r.number) in
    by_cut (is_cut r.number) refl
    (λ cut.
    omega (
      arith,
      two_digits r.number (omega (arith, cut_below r.number cut)),
      behind_small r 29 (rw (pick_yes {A = List ℕ} (is_cut r.number) (worded " missing " r.missing) [] cut) (worded_small " missing " r.missing)),
    ))
    (λ other.
    omega (
      arith,
      length_decimal 20 r.number,
      behind_small r 0 (rw (pick_no {A = List ℕ} (is_cut r.number) (worded " missing " r.missing) [] other) (omega arith)),
    ))
  where
    by_cut : {G : Type 0} (c : Bool) → is_cut r.number ≡ c → (is_cut r.number ≡ true → G) → (is_cut r.number ≡ false → G) → G
    by_cut true e f g = f e
    by_cut false e f g = g e

-- Whole lines.
stream_ok : (number : ℕ) (rows : List Row) → length (stream_line number (Ok rows)) ≤ 87
stream_ok number rows =
    headed_small "stream " number (worded " ok records " (length rows) ++ ending " known " (knowns rows)) 60
    (headed_small " ok records " (length rows) (ending " known " (knowns rows)) 28 (ending_small " known " (knowns rows)))

pub stream_small : (number : ℕ) (x : Answer (List Row)) → length (stream_line number x) ≤ 118
stream_small number (Ok rows) = omega (arith, stream_ok number rows)
stream_small number (Err r) = headed_small "stream " number (refused_words r) 91 (refused_small r)

-- a descriptor, by how many bytes it has
rest_small : (rest : List ℕ) → length (rest_words rest) ≤ 1 + 2 * length rest
rest_small [] = omega arith
rest_small (b ∷ rest) = omega (arith, length_hex (b ∷ rest))

pub address_small : (value : List ℕ) → length (address_words value) ≤ 30 + 2 * length value
address_small [] = omega arith
address_small (kind ∷ rest) = omega (arith, headed_small " address " kind (rest_words rest) (1 + 2 * length rest) (rest_small rest))

-- a message's line, by how many bytes its address has
told_small : (number : ℕ) (m : List ℕ) (payload : Payload) (rows : List Row) →
    length (message_line number m (Ok (told payload rows))) ≤ 119 + 2 * length (part_of m (address_in (told payload rows)))
told_small number m payload rows =
    let value = part_of m (address_in (told payload rows)) in
    let ends = address_words value ++ text "\n" in
    let counted = worded " extension " (length rows) ++ ends in
    let end : length ends ≤ 31 + 2 * length value = omega (arith, length-append (address_words value) (text "\n"), address_small value) in
    omega (
      arith,
      headed_small "message " number (worded " ok type " payload.kind ++ counted) (29 + (31 + length ends))
          (headed_small " ok type " payload.kind counted (31 + length ends)
          (headed_small " extension " (length rows) ends (length ends) (omega arith))),
    )

value_small : (m : List ℕ) (a : Answer Part) → length (part_of m a) ≤ length m
value_small m (Ok x) = omega (arith, length-take x.size (drop x.start m), length-drop x.start m)
value_small m (Err r) = omega arith

-- at most 30 bytes for each byte that it takes in a book, its length of two bytes with it
pub message_small : (number : ℕ) (m : List ℕ) (x : Answer Outcome) → judgingMessage m ≡ x → 2 ≤ length m → length (message_line number m x) ≤ 30 * (2 + length m)
message_small number m (Ok (told payload rows)) is long =
    omega (arith, told_small number m payload rows, value_small m (address_in (told payload rows)), read_long m payload rows is)
message_small number m (Ok (passed_over kind)) is long =
    omega (arith, headed_small "message " number (ending " passed over type " kind) 39 (ending_small " passed over type " kind))
message_small number m (Err r) is long = omega (arith, headed_small "message " number (refused_words r) 91 (refused_small r))

asked_small : (msat : Option Msat) (fields : ℕ) → length (asked_words msat fields) ≤ 58
asked_small (Some msat) fields = headed_small " ok msat " msat.0 (ending " fields " fields) 29 (ending_small " fields " fields)
asked_small None fields = omega (arith, ending_small " ok msat none fields " fields)

pub invoice_small : (number : ℕ) (x : Answer Invoice.Contents) → length (invoice_line number x) ≤ 86
invoice_small number (Ok t) =
    headed_small "invoice " number (asked_words t.hrp.msat (length t.fields)) 58 (asked_small t.hrp.msat (length t.fields))
invoice_small number (Err r) =
    omega (
      arith,
      headed_small "invoice " number (worded " refused " r.number ++ ending " at " r.place) 54
          (headed_small " refused " r.number (ending " at " r.place) 25 (ending_small " at " r.place)),
    )

pub end_small : (streams messages invoices refusals : ℕ) → length (end_line streams messages invoices refusals) ≤ 122
end_small s m i r =
    headed_small "end streams " s (worded " messages " m ++ (worded " invoices " i ++ ending " refused " r)) 90
    (headed_small " messages " m (worded " invoices " i ++ ending " refused " r) 60
    (headed_small " invoices " i (ending " refused " r) 30 (ending_small " refused " r)))

-- Entries of few bytes have short lines.
words_14 : length (refused_words (bare 14)) ≤ 24
unfolding decimal_in pick
words_14 = omega arith

words_20 : length (refused_words (bare 20)) ≤ 24
unfolding decimal_in pick
words_20 = omega arith

words_61 : length (refused_words (bare 61)) ≤ 24
unfolding decimal_in pick
words_61 = omega arith

bare_stream : (number n : ℕ) → length (refused_words (bare n)) ≤ 24 → length (stream_line number (Err (bare n))) ≤ 87
bare_stream number n h = omega (arith, headed_small "stream " number (refused_words (bare n)) 24 h)

pub stream_empty : (table : List ℕ) (ns number : ℕ) → checking table ≡ Ok tt → length (stream_line number (judgingStream table ns [])) ≤ 87
unfolding judging_from outer_from rows_in walk answering rows_at
stream_empty table ns number fine =
    rw (then_accepted tt _ _ fine)
    (ensure_all (λ x. length (stream_line number x) ≤ 87) (leb ns 63) (bare 61) _
    (λ _.
    ensure_all (λ x. length (stream_line number x) ≤ 87) (leb 0 65535) (bare 14) _ (λ _. stream_ok number []) (λ _. bare_stream number 14 words_14))
    (λ _. bare_stream number 61 words_61))

pub message_short : (m : List ℕ) (number : ℕ) → length m < 2 → length (message_line number m (judgingMessage m)) ≤ 52
message_short m number h = rw (judging_cut m h) (headed_small "message " number (refused_words (bare 20)) 24 words_20)

pub invoice_empty : (number : ℕ) → length (invoice_line number (judgingInvoice [])) ≤ 45
unfolding decimal_in pick first_where up_to_last_one parting sealing spelling ensure ◌>>=◌
invoice_empty number =
    rw (judging_refused [] (bare 33) refl) (headed_small "invoice " number (worded " refused " 33 ++ ending " at " 0) 17 (omega arith))
