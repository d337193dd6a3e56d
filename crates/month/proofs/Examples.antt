-- Month-end figures computed from the definitions. Assumes nothing.
use Rattle.std.specs.Prelude.{Ok, Err, Option, None, Some}
use Rattle.std.proofs.Common.{◌≡◌, ℕ, zero, suc, ◌-◌, ◌^◌, List, [], ◌∷◌, ◌++◌, map, replicate, refl}
use Prim.Native.String.{String}
use Rattle.answer.specs.Answer.{Answer, bare, ensure, ◌>>=◌}
use Rattle.bech32.specs.Alphabet.{place_in, group_of}
use Rattle.bech32.specs.Checksum.{reduced, polymod_step, polymod_from, hrp_expand, checksum}
use Rattle.bigsize.specs.BigSize as BigSize
use Rattle.book.specs.Book.{number_at, numbers, table_in, item_at, items_at, section_at, behind_table, parting, judging}
use Rattle.book.proofs.Examples.{row, sized, stream, counted}
use Rattle.field.specs.Fields.{field_at, fields_from, usable, fielding}
use Rattle.form.specs.Form.{exactly, integer, items, point, plain}
use Rattle.frame.specs.Frame as Frame
use Rattle.halves.specs.Halves.{halves}
use Rattle.halves.proofs.Examples.{codes}
use Rattle.invoice.specs.Edition.{same, prefix_number}
use Rattle.invoice.specs.Invoice.{asking, hrp_reading, judging_parts, judging as judgingInvoice}
use Rattle.invoice_text.specs.Text.{first_where, up_to_last_one, parting as partingText, sealing, spelling}
use Rattle.laws.specs.Digits.{from_digits, to_digits}
use Rattle.laws.specs.Test.{pick}
use Rattle.letters.specs.Letters.{lower}
use Rattle.money.specs.Amount.{digit_count, from_decimal, tenth, scaled, capped, valued, amounting}
use Rattle.stream.specs.Stream.{inside, where_framed, walk, entering as enteringStream, own, answering, rows_at, rows_in, outer_from, judging_from}
use Rattle.table.specs.Table.{allowed, not_below, rising, checking, lookup}
use Rattle.month.specs.declared.invoices.Paid.{Paid}
use Rattle.pairs.specs.declared.Row.{Row}
use Rattle.month.specs.Month.{records_from, stream_records, invoice_amounts, records_in, amounts_in, pays, Held, empty_figures, no_figures, held_of, looking, adding}
use Rattle.pairs.specs.Rows.{entering, enters, ascends, rows_of}
use Rattle.month.specs.Month.{outer}

-- what a book makes of what is held; to unfold it is to compute with all the definitions
unfoldable pub given : Option Held → List ℕ → Option Held × Answer (Unit {0})
unfolding from_digits pick ensure ◌>>=◌ lower BigSize.reading BigSize.spelled BigSize.at_least Frame.framing Frame.sized allowed not_below rising checking lookup
    exactly integer items point plain inside where_framed walk enteringStream own answering rows_at rows_in outer_from judging_from
    place_in group_of reduced polymod_step polymod_from hrp_expand checksum digit_count from_decimal tenth scaled capped valued amounting
    first_where up_to_last_one partingText sealing spelling field_at fields_from usable same prefix_number asking hrp_reading fielding judging_parts judgingInvoice
    number_at numbers table_in item_at items_at section_at behind_table parting judging
    records_from stream_records invoice_amounts records_in amounts_in halves pays outer entering enters looking adding
given h book = ((adding h book).held, (adding h book).answer)

-- one book after the other, with their answers
unfoldable pub through : Option Held → List (List ℕ) → Option Held × List (Answer (Unit {0}))
through h [] = (h, [])
through h (b ∷ bs) =
    let o = given h b in
    let rest = through o.0 bs in
    (rest.0, o.1 ∷ rest.1)

-- a book of rows, streams and invoices, without messages
abbrev book : (rows streams invoices : List (List ℕ)) → List ℕ
book rows streams invoices = counted rows ++ (counted streams ++ (counted [] ++ counted invoices))

-- what is held of so many books, and their invoices
abbrev held : (books : ℕ) → List Row → Paid → Option Held
held n rows paid = Some (record { books = n; rows = rows; paid = paid })

abbrev paid : (invoices unpriced high low : ℕ) → Paid
paid n free h l = record { invoices = n; unpriced = free; sum = record { high = h; low = l } }

-- a pair's row
abbrev figures : (namespace kind known kept passed skipped frame : ℕ) → Row
figures ns k n b p s f = record { namespace = ns; kind = k; known = n; kept = b; passed = p; skipped = s; frame = f }

abbrev nothing : Option Held
nothing = held 0 [] (paid 0 0 0 0)

-- Empty figures hold nothing yet; those that come back with 73 hold nothing at all.
empty_holds : held_of empty_figures ≡ nothing
unfolding held_of ascends rows_of pick
empty_holds = refl

none_holds : held_of no_figures ≡ None
unfolding held_of pick
none_holds = refl

-- A post's book: meter 8 with a reading that its table does not know, a type of three bytes, a meter inside a record, whose bytes are value bytes; a refused
-- stream and one in namespace 64, of which nothing counts.
abbrev older : List ℕ
older =
    book (row 5 1 2 8 ∷ row 5 6 5 5 ∷ [])
    (stream 5 (0x01 ∷ 0x01 ∷ 0x08 ∷ 0x03 ∷ 0x02 ∷ 0xaa ∷ 0xbb ∷ [])
    ∷ stream 5 (0x01 ∷ 0x00 ∷ 0x06 ∷ 0x03 ∷ 0x01 ∷ 0x01 ∷ 0x09 ∷ 0xfd ∷ 0x01 ∷ 0x01 ∷ 0x00 ∷ [])
    ∷ stream 5 (0x01 ∷ 0x00 ∷ 0x02 ∷ 0x00 ∷ [])
    ∷ stream 64 (0x01 ∷ 0x00 ∷ [])
    ∷ stream 3 (0x01 ∷ 0x00 ∷ [])
    ∷ [])
    []

one_post : given nothing older
    ≡ (
      held 1
          (figures 3 1 0 0 1 0 2 ∷ figures 5 1 2 1 0 0 4 ∷ figures 5 3 0 0 1 2 2 ∷ figures 5 6 1 3 0 0 2 ∷ figures 5 257 0 0 1 0 4 ∷ [])
          (paid 0 0 0 0),
      Ok tt,
    )
unfolding given to_digits
one_post = refl

-- A newer table knows the reading: the same pair, one row. Between the two a book that is cut short, which counts as given.
abbrev newer : List ℕ
newer = book (row 5 3 3 2 ∷ []) (stream 5 (0x03 ∷ 0x04 ∷ 0x00 ∷ 0x01 ∷ 0x00 ∷ 0x02 ∷ []) ∷ []) []

three_books : through nothing (older ∷ replicate 7 0 ∷ newer ∷ [])
    ≡ (
      held 3
          (figures 3 1 0 0 1 0 2 ∷ figures 5 1 2 1 0 0 4 ∷ figures 5 3 1 4 1 2 4 ∷ figures 5 6 1 3 0 0 2 ∷ figures 5 257 0 0 1 0 4 ∷ [])
          (paid 0 0 0 0),
      Ok tt ∷ Err (bare 70) ∷ Ok tt ∷ [],
    )
unfolding through given to_digits
three_books = refl

-- Invoices: 500 millisatoshi, a gift of any amount, and the first typed in with one wrong character, which is refused.
abbrev half : String
half = "lnbc5n1pvn2wfzpp5qqqsyqcyq5rqwzqfqqqsyqcyq5rqwzqfqqqsyqcyq5rqwzqfqypqdq6dpskce3qvysx6et5v4ezq6m90yaztrnwngzn3kdzw5hydlzf03qdgm2hdq27cqv3agm2awhz5se903vruatfhq77w3ls4evs3ch9zw97j25emudupq63nyw24cg27h2rspwncdsh"

abbrev gift : String
gift = "lnbc1pvn993zpp5qqqsyqcyq5rqwzqfqqqsyqcyq5rqwzqfqqqsyqcyq5rqwzqfqypqdpyvysxw6txwssxvmmjyp6xsefqd3sh2mnywfusaztrnwngzn3kdzw5hydlzf03qdgm2hdq27cqv3agm2awhz5se903vruatfhq77w3ls4evs3ch9zw97j25emudupq63nyw24cg27h2rsp4clsxs"

abbrev mistyped : String
mistyped = "lnbc5n1pvn2wfzpp5qqqsyqcyq5rqwzqfqqqsyqcyq5rqwzqfqqqsyqcyq5rqwzqfqypqdq6dpskce3qvysx6et5v4ezq6m90yaztrnwqgzn3kdzw5hydlzf03qdgm2hdq27cqv3agm2awhz5se903vruatfhq77w3ls4evs3ch9zw97j25emudupq63nyw24cg27h2rspwncdsh"

-- the sum is carried into its high half
invoices : given (held 7 [] (paid 40 2 0 (2 ^ 64 - 100))) (book [] [] (map (λ t. sized (codes t)) (half ∷ gift ∷ mistyped ∷ [])))
    ≡ (held 8 [] (paid 42 3 1 400), Ok tt)
unfolding given to_digits
invoices = refl

-- 512 pairs, and with one book each: a pair of these, one more (73), and that in a refused stream, which is not met.
unfoldable full_from : (namespace count : ℕ) → List Row
full_from ns zero = []
full_from ns (suc n) = figures ns 1 1 0 0 0 2 ∷ full_from (suc ns) n

abbrev full : (books : ℕ) → Option Held
full n = held n (full_from 0 512) (paid 0 0 0 0)

abbrev answers : Option Held → List (List ℕ) → List (Answer (Unit {0}))
answers h books = map (λ b. (given h b).1) books

pairs :
    answers (full 9)
    (book [] (stream 5 (0x01 ∷ 0x00 ∷ []) ∷ []) []
    ∷ book [] (stream 5 (0x03 ∷ 0x00 ∷ []) ∷ []) []
    ∷ book [] (stream 5 (0x03 ∷ 0x00 ∷ 0x05 ∷ []) ∷ []) []
    ∷ [])
    ≡ Ok tt ∷ Err (bare 73) ∷ Ok tt ∷ []
unfolding given full_from to_digits
pairs = refl

-- The order of refusals: without figures 73, whatever the book and however many were given; then 76, before the book's own.
order :
    answers None (replicate 8 0 ∷ [] ∷ []) ++ (answers (full 1000) ([] ∷ newer ∷ []) ++ answers (full 999) ([] ∷ newer ∷ []))
    ≡ Err (bare 73) ∷ Err (bare 73) ∷ Err (bare 76) ∷ Err (bare 76) ∷ Err (bare 70) ∷ Err (bare 73) ∷ []
unfolding given full_from to_digits
order = refl
