-- A record in its shortest form is read as its type and value, and what is read as a record is one in its shortest form. Assumes nothing.
use Rattle.std.specs.Prelude.{Ok}
use mathlib.Core.List.{List, ◌++◌, append_assoc}
use mathlib.Core.Path.{◌≡◌, refl, ◌∙◌}
use Prim.Native.Nat.{ℕ, ◌+◌, ◌^◌, ◌≤◌, ◌<◌}
use native.Mathlib.Omega.{arith}
use lib.Dec.{leb}
use lib.ListN.{length, take, drop, length-append, take-append-drop}
use lib.Seq.{drop_at, take_at, drop-drop, get_or-drop}
use borrow.Author.Tests.{leb-true}
use Rattle.bigsize.specs.BigSize.{number, shortest, reading}
use Rattle.bigsize.specs.declared.Number.{Number}
use Rattle.bigsize.proofs.RoundTrip.{read_shortest, read_is_shortest}
use Rattle.frame.specs.Frame.{Frame, frame, sized, framing, value_in, behind}
use Rattle.frame.proofs.Laws.{sized_whole}
use Rattle.laws.specs.Digits.{AreBytes}
use Rattle.laws.proofs.Lists.{length_part}
use Rattle.answer.specs.Answer.{refuse, ensure, ◌>>=◌}
use Rattle.answer.proofs.Answer.{then_accepted, then_same, both, ensured, retold_accepted}
use Rattle.stream_writer.specs.Writer.{record_of}
use Rattle.stream_writer.proofs.RowLaws.{length_record}

-- how many bytes a record's type and length take
abbrev pub head_of : (kind size : ℕ) → ℕ
head_of kind size = length (shortest kind) + length (shortest size)

module _ (kind : ℕ) (v rest : List ℕ) where
  -- its parts, one behind the other
  pub parts : record_of kind v ++ rest ≡ shortest kind ++ (shortest (length v) ++ (v ++ rest))
  unfolding record_of
  parts = simp append_assoc

  -- what follows its type, and its head
  pub behind_type : drop (length (shortest kind)) (record_of kind v ++ rest) ≡ shortest (length v) ++ (v ++ rest)
  behind_type = rw parts (drop_at (shortest kind) _ _ refl)

  behind_head : drop (head_of kind (length v)) (record_of kind v ++ rest) ≡ v ++ rest
  behind_head =
      rw (← (drop-drop (length (shortest (length v))) (length (shortest kind)) (record_of kind v ++ rest)), behind_type)
      (drop_at (shortest (length v)) _ _ refl)

  -- its value is found
  pub value_back : take (length v) (drop (head_of kind (length v)) (record_of kind v ++ rest)) ≡ v
  value_back = rw behind_head (take_at v rest (length v) refl)

  -- and what follows it
  pub rest_back : drop (head_of kind (length v) + length v) (record_of kind v ++ rest) ≡ rest
  rest_back = drop_at (record_of kind v) rest _ (length_record kind v)

  -- its frame, at any place, unless its type is below the least one
  pub framing_back : kind < 2 ^ 64 → length v < 2 ^ 64 → (low place : ℕ) →
      framing low place (record_of kind v ++ rest) ≡
      (ensure (leb low kind) (refuse 3 place kind) >>= λ _. Ok (frame kind (head_of kind (length v)) (length v)))
  unfolding framing
  framing_back small short low place =
      then_accepted (number kind (length (shortest kind))) _ _ (rw (parts, read_shortest kind small (shortest (length v) ++ (v ++ rest))))
      ∙ then_same _ _ _ λ _ _.
      sized_whole kind (length (shortest kind)) place (record_of kind v ++ rest) (length v) (length (shortest (length v)))
      (rw behind_type (read_shortest (length v) short (v ++ rest)))
      (omega (arith, length-append (record_of kind v) rest, length_record kind v))

-- What an accepted frame says: a type and a length were read, and the value lies in the bytes.
pub record Framed (bs : List ℕ) (x : Frame) : Type 0 where
  pub type : Number
  pub size : Number
  pub type_read : reading bs ≡ Ok type
  pub size_read : reading (drop type.width bs) ≡ Ok size
  pub whole : type.width + size.width + size.value ≤ length bs
  pub is : x ≡ frame type.value (type.width + size.width) size.value

pub was_framed : (low place : ℕ) (bs : List ℕ) (x : Frame) → framing low place bs ≡ Ok x → Framed bs x
unfolding framing sized
was_framed low place bs x h =
    let a = both _ _ x h in
    let b = both _ _ x (ensured _ _ _ x a.second).rest in
    let c = ensured _ _ _ x b.second in
    record {
      type = a.is;
      size = b.is;
      type_read = retold_accepted _ _ a.is a.first;
      size_read = retold_accepted _ _ b.is b.first;
      whole = leb-true _ _ c.holds;
      is = cc c.rest;
    }

-- bytes in four parts
four_parts : (a b c : ℕ) (bs : List ℕ) → take a bs ++ (take b (drop a bs) ++ (take c (drop (a + b) bs) ++ drop (a + b + c) bs)) ≡ bs
four_parts a b c bs =
    rw (← (drop-drop c (a + b) bs), take-append-drop c (drop (a + b) bs), ← (drop-drop b a bs), take-append-drop b (drop a bs)) (take-append-drop a bs)

-- bytes behind an index
pub drop_bytes : (n : ℕ) (s : List ℕ) → AreBytes s → AreBytes (drop n s)
drop_bytes n s h k = rw get_or-drop (h (n + k))

-- such a record is in its shortest form, and the rest follows it
pub framed_record : (bs : List ℕ) (x : Frame) → AreBytes bs → Framed bs x → record_of x.kind (value_in x bs) ++ behind x bs ≡ bs
framed_record bs x bytes f =
    let t = f.type in
    let n = f.size in
    let a = read_is_shortest bs t bytes f.type_read in
    let b = read_is_shortest (drop t.width bs) n (drop_bytes t.width bs bytes) f.size_read in
    rw (f.is, parts, length_part bs (t.width + n.width) n.value f.whole, ← a.bytes, ← b.bytes) (four_parts t.width n.width n.value bs)
