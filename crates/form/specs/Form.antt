-- The forms of a value that are no stream: document 01, "The table of known types" and "The refusal list", 8 to 10; document 02, (iii). Assumes nothing.
use Rattle.std.specs.Prelude.{not, ◌||◌, List, ℕ, ◌+◌, ◌%◌, leb, eqb, length, get_or, Ok}
use Rattle.address.specs.Address.{is_descriptor}
use Rattle.laws.specs.Test.{pick}
use Rattle.answer.specs.Answer.{Answer, refuse, ensure, ◌>>=◌}

-- The forms 1 to 4, with their parameter n, and 6: whether a value v, of a record with that place and type, obeys.

-- exactly n bytes
unfoldable pub exactly : (n place kind : ℕ) → List ℕ → Answer (Unit {0})
exactly n place kind v = ensure (eqb (length v) n) (refuse 8 place kind)

-- an integer of at most n bytes, no leading zero byte; empty is zero
unfoldable pub integer : (n place kind : ℕ) → List ℕ → Answer (Unit {0})
integer n place kind v = do
  _ ← ensure (leb (length v) n) (refuse 8 place kind)
  ensure (eqb (length v) 0 || not (eqb (get_or v 0 0) 0)) (refuse 9 place kind)

-- zero or more items of n bytes; of no bytes, none, since what is left over of a division by 0 is all
unfoldable pub items : (n place kind : ℕ) → List ℕ → Answer (Unit {0})
items n place kind v = ensure (eqb (length v % n) 0) (refuse 8 place kind)

-- a compressed point (first byte 2 or 3), then n bytes
unfoldable pub point : (n place kind : ℕ) → List ℕ → Answer (Unit {0})
point n place kind v = do
  _ ← ensure (eqb (length v) (33 + n)) (refuse 8 place kind)
  ensure (eqb (get_or v 0 0) 2 || eqb (get_or v 0 0) 3) (refuse 10 place kind)

-- an address descriptor
unfoldable pub address : (place kind : ℕ) → List ℕ → Answer (Unit {0})
address place kind v = ensure (is_descriptor v) (refuse 8 place kind)

-- A value by the number of its form. Any but 1 to 4 and 6 asks nothing here: form 0 is any bytes, form 5 is asked of the value as a stream, and a number that
-- is no form is refused with its table, 63.
unfoldable pub plain : (form n place kind : ℕ) → List ℕ → Answer (Unit {0})
plain form n place kind v =
    pick (eqb form 1) (exactly n place kind v)
    (pick (eqb form 2) (integer n place kind v)
    (pick (eqb form 3) (items n place kind v)
    (pick (eqb form 4) (point n place kind v)
    (pick (eqb form 6) (address place kind v)
    (Ok tt)))))
