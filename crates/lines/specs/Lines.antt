-- Document 01, "Sixteen lines for the definitions", with how much is missing (document 02, (v)): one table with one proof. Assumes nothing.
use Rattle.std.specs.Prelude.{◌≡◌, refl, List, [], ◌∷◌, map, ℕ, take, drop, Ok, Err}
use Prim.Native.Char.{code}
use Rattle.bigsize.specs.BigSize as BigSize
use Rattle.address.specs.Address.{is_name, by_length, is_rest, is_descriptor}
use Rattle.form.specs.Form.{exactly, integer, items, point, address, plain}
use Rattle.frame.specs.Frame.{framing, sized}
use Rattle.laws.specs.Digits.{from_digits, from_bytes}
use Rattle.laws.specs.Test.{pick}
use Rattle.message.specs.Layout.{layout_of}
use Rattle.message.specs.Message.{Outcome, fixed as fixedPart, sized as sizedPart, by_type, judging as judgingMessage}
use Rattle.money.specs.Amount.{digit_count, from_decimal, tenth, scaled, capped, valued, amounting}
use Rattle.answer.specs.Answer.{Answer, lacking, refuse, ensure, ◌>>=◌}
use Rattle.answer.specs.declared.Refusal.{Refusal}
use Rattle.stream.specs.Stream.{Row, row, inside, where_framed, walk, entering, own, answering, rows_at, rows_in, judging, outer_from, judging_from}
use Rattle.stream_index.specs.Index.{find, locating, locating_from}
use Rattle.table.specs.Table.{allowed, not_below, rising, checking, lookup}

-- what a line asks: a BigSize, a stream in a namespace of a table, the integer in the value of a type there, an amount's text, or a message
pub data Question : Type 0 where
  big_size : List ℕ → Question
  stream : (table : List ℕ) (namespace : ℕ) → List ℕ → Question
  integer_of : (kind : ℕ) (table : List ℕ) (namespace : ℕ) → List ℕ → Question
  amount : (text : List ℕ) → Question
  message : List ℕ → Question

-- what it is answered with: a number, an accepted stream's rows, what is told of a message, or a refusal
pub data Says : Type 0 where
  value : ℕ → Says
  rows : List Row → Says
  tells : Outcome → Says
  refuses : Refusal → Says

-- a refusal in which nothing is missing, and one of what is cut short
abbrev pub refusal : (number place kind : ℕ) → Says
refusal n p k = refuses (refuse n p k)

abbrev pub cut : (number place kind missing : ℕ) → Says
cut n p k m = refuses (lacking n p k m)

-- an answer in these words
unfoldable pub told : {A : Type 0} → (A → Says) → Answer A → Says
told f (Ok a) = f a
told f (Err r) = refuses r

-- The answer of the definitions; to unfold it is to compute with them all.
unfoldable pub answered : Question → Says
unfolding told BigSize.reading BigSize.spelled BigSize.at_least from_digits pick ensure ◌>>=◌ allowed not_below rising checking lookup framing sized exactly integer
    items point is_name by_length is_rest is_descriptor address plain inside where_framed walk entering own answering rows_at rows_in outer_from judging_from find locating_from digit_count from_decimal tenth scaled capped valued amounting
    fixedPart sizedPart layout_of by_type judgingMessage
answered (big_size bytes) = told (λ x. value x.value) (BigSize.reading bytes)
answered (stream table ns bytes) = told rows (judging table ns bytes)
answered (integer_of kind table ns bytes) = told (λ x. value (from_bytes (take x.size (drop x.start bytes)))) (locating table ns bytes kind)
answered (amount text) = told (λ m. value m.0) (amounting text)
answered (message bytes) = told tells (judgingMessage bytes)

pub record Line : Type 0 where
  pub question : Question
  pub says : Says

infix 90 ◌is◌
abbrev pub ◌is◌ : Question → Says → Line
q is s = record { question = q; says = s }

-- every line of a table holds
abbrev pub Hold : List Line → Type 0
Hold lines = map (λ l. answered l.question) lines ≡ map (λ l. l.says) lines

-- BOLT 1's test namespace n1, as namespace 0 of a table
unfoldable pub n1 : List ℕ
n1 =
    0 ∷ 1 ∷ 2 ∷ 8 ∷
    0 ∷ 2 ∷ 1 ∷ 8 ∷
    0 ∷ 3 ∷ 4 ∷ 16 ∷
    0 ∷ 254 ∷ 1 ∷ 2 ∷
    []

unfoldable pub lines : List Line
lines =
    big_size (0xfc ∷ []) is value 252 ∷
    big_size (0xfd ∷ 0x00 ∷ 0xfd ∷ []) is value 253 ∷
    big_size (0xfd ∷ 0xff ∷ 0xff ∷ []) is value 65535 ∷
    big_size (0xfe ∷ 0x00 ∷ 0x01 ∷ 0x00 ∷ 0x00 ∷ []) is value 65536 ∷
    big_size (0xfd ∷ 0x00 ∷ 0xfc ∷ []) is refusal 2 0 0 ∷
    big_size (0xfd ∷ []) is cut 1 0 0 2 ∷
    stream n1 0 [] is rows [] ∷
    -- `0100` is one line of the paper: accepted, and its integer is 0
    stream n1 0 (0x01 ∷ 0x00 ∷ []) is rows (row 1 2 0 1 ∷ []) ∷
    integer_of 1 n1 0 (0x01 ∷ 0x00 ∷ []) is value 0 ∷
    stream n1 0 (0x01 ∷ 0x01 ∷ 0x00 ∷ []) is refusal 9 0 1 ∷
    stream n1 0 (0x12 ∷ 0x00 ∷ []) is refusal 7 0 18 ∷
    stream n1 0 (0x0f ∷ 0xfd ∷ 0x26 ∷ []) is cut 4 0 15 1 ∷
    stream n1 0 (0xfd ∷ 0x01 ∷ 0x01 ∷ []) is cut 4 0 257 1 ∷
    stream n1 0 (0x1f ∷ 0x00 ∷ 0x0f ∷ 0x01 ∷ 0x2a ∷ []) is refusal 3 2 15 ∷
    stream n1 0 (0x00 ∷ 0x00 ∷ []) is refusal 7 0 0 ∷
    amount (code "2" ∷ code "5" ∷ code "0" ∷ code "0" ∷ code "u" ∷ []) is value 250_000_000 ∷
    amount (code "2" ∷ code "0" ∷ code "m" ∷ []) is value 2_000_000_000 ∷
    []

pub lines_hold : Hold lines
unfolding lines n1 answered
lines_hold = refl
