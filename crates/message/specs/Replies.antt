-- The pong that answers a ping: document 01, "Messages". Assumes nothing.
use Rattle.std.specs.Prelude.{ℕ, List, [], ◌++◌, ltb, length, replicate, Ok, Option, None, Some}
use Rattle.laws.specs.Digits.{to_bytes}
use Rattle.laws.specs.Test.{pick}
use Rattle.answer.specs.Answer.{Answer, fitting}

-- A pong of so many zero bytes: the type 19 in two bytes, their count in two bytes, the zero bytes; no extension.
unfoldable pub pong_bytes : (count : ℕ) → List ℕ
pong_bytes count = to_bytes 2 19 ++ to_bytes 2 count ++ replicate count 0

-- A ping asking fewer than 65,532 gets a pong of that many zero bytes; any other gets none.
unfoldable pub pong_to : (wanted : ℕ) → Option (List ℕ)
pong_to wanted = pick (ltb wanted 65532) (Some (pong_bytes wanted)) None

-- the bytes of a pong; without one there are none
abbrev pub bytes_in : Option (List ℕ) → List ℕ
bytes_in None = []
bytes_in (Some bytes) = bytes

-- how many they are, told apart from no pong
abbrev pub size_in : Option (List ℕ) → Option ℕ
size_in None = None
size_in (Some bytes) = Some (length bytes)

-- The pong written at the front of an output of that length, or none: 12 where its bytes do not fit.
abbrev pub ponging : (wanted room : ℕ) → Answer (Option (List ℕ))
ponging wanted room = fitting (λ pong. length (bytes_in pong)) room (Ok (pong_to wanted))
