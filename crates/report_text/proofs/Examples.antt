-- Reports, computed from the definitions. Assumes nothing.
use mathlib.Core.List.{List, [], ◌∷◌, ◌++◌, map}
use mathlib.Core.Path.{◌≡◌, refl}
use Prim.Native.Nat.{ℕ}
use Prim.Native.String.{String}
use lib.ListN.{replicate}
use Rattle.address.specs.Address.{is_name, by_length, is_rest, is_descriptor}
use Rattle.bech32.specs.Alphabet.{place_in, group_of}
use Rattle.bech32.specs.Checksum.{reduced, polymod_step, polymod_from, hrp_expand, checksum}
use Rattle.bigsize.specs.BigSize as BigSize
use Rattle.book.specs.Book.{number_at, numbers, table_in, item_at, items_at, section_at, behind_table, parting, judging}
use Rattle.book.proofs.Examples.{row, sized, stream, joined, counted, paper_book}
use Rattle.form.specs.Form.{exactly, integer, items, point, address, plain}
use Rattle.frame.specs.Frame as Frame
use Rattle.field.specs.Fields.{field_at, fields_from, usable, fielding}
use Rattle.hexadecimal.specs.Hex.{hex}
use Rattle.invoice.specs.Edition.{same, prefix_number}
use Rattle.invoice.specs.Invoice.{asking, hrp_reading, judging_parts, judging as judgingInvoice}
use Rattle.invoice_text.specs.Text.{first_where, up_to_last_one, parting as partingText, sealing, spelling}
use Rattle.laws.specs.Digits.{from_digits, to_digits}
use Rattle.laws.specs.Test.{pick}
use Rattle.letters.specs.Letters.{lower}
use Rattle.message.specs.Layout.{layout_of}
use Rattle.message.specs.Message.{fixed as fixedPart, sized as sizedPart, by_type, judging as judgingMessage, address_in}
use Rattle.stream_index.specs.Index.{find}
use Rattle.money.specs.Amount.{digit_count, from_decimal, tenth, scaled, capped, valued, amounting}
use Rattle.answer.specs.Answer.{ensure, ◌>>=◌}
use Rattle.stream.specs.Tally.{knowns}
use Rattle.stream.specs.Stream.{inside, where_framed, walk, entering, own, answering, rows_at, rows_in, outer_from, judging_from}
use Rattle.table.specs.Table.{allowed, not_below, rising, checking, lookup}
use Rattle.report_text.specs.Report.{lines, refusals, reporting}
use Rattle.report_lines.specs.Text.{text, decimal_in}

-- the report on a book; to unfold it is to compute with all the definitions
unfoldable pub reported : List ℕ → List ℕ
unfolding from_digits pick ensure ◌>>=◌ lower BigSize.reading BigSize.spelled BigSize.at_least Frame.framing Frame.sized allowed not_below rising checking lookup
    is_name by_length is_rest is_descriptor exactly integer items point address plain inside where_framed walk entering own answering rows_at rows_in outer_from judging_from knowns
    fixedPart sizedPart layout_of by_type judgingMessage find address_in hex
    place_in group_of reduced polymod_step polymod_from hrp_expand checksum digit_count from_decimal tenth scaled capped valued amounting
    first_where up_to_last_one partingText sealing spelling field_at fields_from usable same prefix_number asking hrp_reading fielding judging_parts judgingInvoice
    number_at numbers table_in item_at items_at section_at behind_table parting judging decimal_in lines refusals reporting
reported book = reporting book

-- Document 01's book and its report, whole.
paper : reported paper_book
    ≡ text "rows 1\nstream 1 ok records 1 known 1\nstream 2 refused 7 at 0 type 18\nmessage 1 ok type 18 extension 0\nend streams 2 messages 1 invoices 0 refused 1\n"
unfolding reported to_digits
paper = refl

-- A line of every other kind: a namespace of 64 and a place inside a stream; a message that is passed over, and one cut short; the two
-- examples of BOLT 11 that ask for 2500u and for nothing, and a checksum that does not hold.
abbrev coffee : String
coffee = "lnbc2500u1pvjluezpp5qqqsyqcyq5rqwzqfqqqsyqcyq5rqwzqfqqqsyqcyq5rqwzqfqypqdq5xysxxatsyp3k7enxv4jsxqzpuaztrnwngzn3kdzw5hydlzf03qdgm2hdq27cqv3agm2awhz5se903vruatfhq77w3ls4evs3ch9zw97j25emudupq63nyw24cg27h2rspfj9srp"

abbrev donation : String
donation = "lnbc1pvjluezpp5qqqsyqcyq5rqwzqfqqqsyqcyq5rqwzqfqqqsyqcyq5rqwzqfqypqdpl2pkx2ctnv5sxxmmwwd5kgetjypeh2ursdae8g6twvus8g6rfwvs8qun0dfjkxaq8rkx3yf5tcsyz3d73gafnh3cax9rn449d9p5uxz9ezhhypd0elx87sjle52x86fux2ypatgddc6k63n7erqz25le42c4u4ecky03ylcqca784w"

abbrev miscopied : String
miscopied = "lnbc2500u1pvjluezpp5qqqsyqcyq5rqwzqfqqqsyqcyq5rqwzqfqqqsyqcyq5rqwzqfqypqdq5xysxxatsyp3k7enxv4jsxqzpuaztrnwngzn3kdzw5hydlzf03qdgm2hdq27cqv3agm2awhz5se903vruatfhq77w3ls4evs3ch9zw97j25emudupq63nyw24cg27h2rspfj9srq"

abbrev mixed_book : List ℕ
mixed_book =
    counted (row 0 1 2 8 ∷ [])
    ++ (counted (stream 64 [] ∷ stream 0 (0x1f ∷ 0x00 ∷ 0x0f ∷ 0x01 ∷ 0x2a ∷ []) ∷ stream 0 (0x01 ∷ 0x01 ∷ 0x05 ∷ 0x03 ∷ 0x00 ∷ []) ∷ [])
    ++ (counted (sized (0x00 ∷ 0x15 ∷ []) ∷ sized (0x00 ∷ 0x10 ∷ 0x00 ∷ 0x00 ∷ 0x00 ∷ 0x00 ∷ 0xc9 ∷ 0x01 ∷ 0x2a ∷ []) ∷ sized (0x00 ∷ []) ∷ [])
    ++ counted (sized (text coffee) ∷ sized (text donation) ∷ sized (text miscopied) ∷ [])))

mixed_lines : List (List ℕ)
mixed_lines =
    map text (
    "rows 1\n"
    ∷ "stream 1 refused 61 at 0 type 0\n"
    ∷ "stream 2 refused 3 at 2 type 15\n"
    ∷ "stream 3 ok records 2 known 1\n"
    ∷ "message 1 passed over type 21\n"
    ∷ "message 2 ok type 16 extension 1\n"
    ∷ "message 3 refused 20 at 0 type 0\n"
    ∷ "invoice 1 ok msat 250000000 fields 3\n"
    ∷ "invoice 2 ok msat none fields 2\n"
    ∷ "invoice 3 refused 35 at 0\n"
    ∷ "end streams 3 messages 3 invoices 3 refused 4\n"
    ∷ []
    )

mixed_report : reported mixed_book ≡ joined mixed_lines
unfolding reported to_digits mixed_lines
mixed_report = refl

-- Inits with an address: of each type 1 to 5, of an unknown type with and without a rest, behind networks, and one that is no descriptor. A record of its
-- type is none in another message.
abbrev init : List ℕ → List ℕ
init extension = sized (0x00 ∷ 0x10 ∷ 0x00 ∷ 0x00 ∷ 0x00 ∷ 0x00 ∷ extension)

address_book : List ℕ
address_book =
    counted []
    ++ (counted []
    ++ (counted (
    init (0x03 ∷ 0x07 ∷ 0x01 ∷ 0x7f ∷ 0x00 ∷ 0x00 ∷ 0x01 ∷ 0x26 ∷ 0x07 ∷ [])
    ∷ init (0x03 ∷ 0x13 ∷ 0x02 ∷ replicate 15 0x00 ++ (0x01 ∷ 0x26 ∷ 0x07 ∷ []))
    ∷ init (0x03 ∷ 0x0d ∷ 0x03 ∷ replicate 10 0xab ++ (0x26 ∷ 0x07 ∷ []))
    ∷ init (0x03 ∷ 0x26 ∷ 0x04 ∷ replicate 35 0xcd ++ (0x26 ∷ 0x07 ∷ []))
    ∷ init (0x03 ∷ 0x05 ∷ 0x05 ∷ 0x01 ∷ 0x61 ∷ 0x26 ∷ 0x07 ∷ [])
    ∷ init (0x03 ∷ 0x03 ∷ 0xff ∷ 0x0e ∷ 0xf9 ∷ [])
    ∷ init (0x03 ∷ 0x01 ∷ 0x09 ∷ [])
    ∷ init (0x01 ∷ 0x00 ∷ 0x03 ∷ 0x01 ∷ 0x00 ∷ 0x05 ∷ 0x00 ∷ [])
    ∷ init (0x01 ∷ 0x00 ∷ 0x03 ∷ 0x06 ∷ 0x01 ∷ 0x7f ∷ 0x00 ∷ 0x00 ∷ 0x01 ∷ 0x26 ∷ [])
    ∷ sized (0x00 ∷ 0x13 ∷ 0x00 ∷ 0x00 ∷ 0x03 ∷ 0x01 ∷ 0x09 ∷ [])
    ∷ []
    )
    ++ counted []))

lines_of_addresses : List (List ℕ)
lines_of_addresses =
    map text (
    "rows 0\n"
    ∷ "message 1 ok type 16 extension 1 address 1 7f0000012607\n"
    ∷ "message 2 ok type 16 extension 1 address 2 000000000000000000000000000000012607\n"
    ∷ "message 3 ok type 16 extension 1 address 3 abababababababababab2607\n"
    ∷ "message 4 ok type 16 extension 1 address 4 cdcdcdcdcdcdcdcdcdcdcdcdcdcdcdcdcdcdcdcdcdcdcdcdcdcdcdcdcdcdcdcdcdcdcd2607\n"
    ∷ "message 5 ok type 16 extension 1 address 5 01612607\n"
    ∷ "message 6 ok type 16 extension 1 address 255 0ef9\n"
    ∷ "message 7 ok type 16 extension 1 address 9\n"
    ∷ "message 8 ok type 16 extension 3 address 0\n"
    ∷ "message 9 refused 8 at 8 type 3\n"
    ∷ "message 10 ok type 19 extension 1\n"
    ∷ "end streams 0 messages 10 invoices 0 refused 1\n"
    ∷ []
    )

address_report : reported address_book ≡ joined lines_of_addresses
unfolding reported to_digits address_book lines_of_addresses
address_report = refl

-- Tails that were dropped: a type, a length not begun and one cut short, a value with one byte of six, one announced with 2^64 - 1 bytes; a nested value, to
-- whose end it is counted; the extension of an init; and a payload, which no record is in.
cut_book : List ℕ
cut_book =
    counted (row 0 5 5 0 ∷ [])
    ++ (counted (
    stream 0 (0xff ∷ 0x00 ∷ [])
    ∷ stream 0 (0x01 ∷ [])
    ∷ stream 0 (0x01 ∷ 0x00 ∷ 0x03 ∷ 0xfe ∷ 0x00 ∷ [])
    ∷ stream 0 (0x01 ∷ 0x06 ∷ 0x2a ∷ [])
    ∷ stream 0 (0x01 ∷ replicate 9 0xff)
    ∷ stream 0 (0x05 ∷ 0x03 ∷ 0x01 ∷ 0x04 ∷ 0x2a ∷ 0x07 ∷ 0x00 ∷ [])
    ∷ []
    )
    ++ (counted (init (0xc9 ∷ 0x03 ∷ 0x2a ∷ []) ∷ sized (0x00 ∷ 0x12 ∷ 0x00 ∷ []) ∷ [])
    ++ counted []))

lines_of_cuts : List (List ℕ)
lines_of_cuts =
    map text (
    "rows 1\n"
    ∷ "stream 1 refused 1 at 0 type 0 missing 7\n"
    ∷ "stream 2 refused 4 at 0 type 1 missing 1\n"
    ∷ "stream 3 refused 4 at 2 type 3 missing 3\n"
    ∷ "stream 4 refused 6 at 0 type 1 missing 5\n"
    ∷ "stream 5 refused 6 at 0 type 1 missing 18446744073709551615\n"
    ∷ "stream 6 refused 6 at 2 type 1 missing 3\n"
    ∷ "message 1 refused 6 at 6 type 201 missing 2\n"
    ∷ "message 2 refused 20 at 0 type 18\n"
    ∷ "end streams 6 messages 2 invoices 0 refused 8\n"
    ∷ []
    )

cut_report : reported cut_book ≡ joined lines_of_cuts
unfolding reported to_digits cut_book lines_of_cuts
cut_report = refl

-- Refused books give one line.
refused_reports :
    let books : List (List ℕ × String) =
    ([], "book refused 70\n")
    ∷ (replicate 9 0, "book refused 71\n")
    ∷ (counted (row 0 1 2 3 ∷ []) ++ replicate 6 0, "book refused 63\n")
    ∷ [] in
    map (λ l. reported l.0) books ≡ map (λ l. text l.1) books
unfolding reported to_digits
refused_reports = refl
