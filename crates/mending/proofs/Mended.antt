-- What is promised of the mender: document 02 (x). Assumes nothing.
use Rattle.std.specs.Prelude.{Ok, Err}
use borrow.Author.Tests.{leb-true, le-leb}
use mathlib.Core.List.{List, []}
use mathlib.Core.Logic.{◌↔◌}
use mathlib.Core.Path.{◌≡◌, sym, ap, ◌∙◌}
use Prim.Native.Nat.{ℕ, ◌+◌, ◌≤◌, ◌<◌}
use native.Mathlib.Nat.{sub_self}
use native.Mathlib.Omega.{arith}
use lib.ListN.{length}
use Rattle.answer.specs.Answer.{Answer, refuse, bare}
use Rattle.answer.specs.declared.Refusal.{Refusal}
use Rattle.answer.proofs.Answer.{ensured, ensure_yes, both, then_refused, fitting_refused, fitted}
use Rattle.frame.specs.Frame.{Frame, value_in}
use Rattle.laws.specs.Digits.{AreBytes}
use Rattle.laws.proofs.Test.{by_order}
use Rattle.sorting.specs.Private.{All}
use Rattle.stream.specs.Order.{Lies}
use Rattle.stream.specs.Stream.{Row, record_at, knows, judged, outer_from, outer, judging}
use Rattle.mending.specs.Mender.{read_in, ordered, places_of, spelled, agreed, Mended, mended, making, mending, Right, Has, FirstContradicted, unchanged, Strict}
use Rattle.mending.proofs.Accepted.{accepted_right, accepted_short}
use Rattle.mending.proofs.Answers.{mend_long, mend_short, mend_done, rising_agrees}
use Rattle.mending.proofs.Contents.{reading_fit, has_ordered, ordered_has, spelled_has}
use Rattle.mending.proofs.Contradictions.{by_agreed, first_refused}
use Rattle.mending.proofs.Frames.{Clean, Fits, right_clean, right_spelled, clean_spelled}
use Rattle.mending.proofs.Judged.{right_judged}
use Rattle.mending.proofs.Keeping.{all_ordered, ordered_strict, kept_strict, ordered_same, differing_none}
use Rattle.mending.proofs.Shorter.{mended_shorter as shorter}

clean_mended : (s : List ℕ) → Clean 0 0 s → mended s ≡ unchanged s
clean_mended s c =
    let es = read_in s in
    rw (
      ordered_same 0 es c.strict,
      kept_strict 0 es c.strict,
      c.spells,
      c.short,
      c.all,
      differing_none (places_of es),
      sub_self (length es),
      sub_self (length s),
    )

clean_mending : (s : List ℕ) (room : ℕ) → Clean 0 0 s → length s ≤ 65535 → length s ≤ room → mending s room ≡ Ok (unchanged s)
clean_mending s room c short fits =
    let m = clean_mended s c in
    mend_done s short (rising_agrees s short c.strict) room (rw (ap (λ (x : Mended). x.bytes) m) fits) ∙ ap Ok m

-- what an accepted answer says
record Was (s : List ℕ) (m : Mended) : Type 0 where
  short : length s ≤ 65535
  agree : agreed [] (read_in s) ≡ Ok tt
  is : m ≡ mended s

was : (s : List ℕ) (room : ℕ) (m : Mended) → mending s room ≡ Ok m → Was s m
unfolding making
was s room m h =
    let f = fitted (λ (x : Mended). length x.bytes) room (making s) m h in
    let a = ensured _ _ _ m f.was in
    let b = both _ _ m a.rest in
    record { short = leb-true _ _ a.holds; agree = b.first; is = cc b.second }

-- A stream of at most 65,535 bytes that is right in frame comes out the same, with four zeros, in every output that it fits.
pub right_unchanged : (s : List ℕ) (room : ℕ) → AreBytes s → Right 0 s → length s ≤ 65535 → length s ≤ room → mending s room ≡ Ok (unchanged s)
right_unchanged s room bytes r short fits = clean_mending s room (right_clean r 0 bytes) short fits

-- Every stream that the reader accepts, by any table and in any namespace, comes out the same, with four zeros, in every output that it fits.
pub accepted_unchanged : (table : List ℕ) (ns : ℕ) (s : List ℕ) (rows : List Row) (room : ℕ) → AreBytes s → judging table ns s ≡ Ok rows →
    length s ≤ room → mending s room ≡ Ok (unchanged s)
accepted_unchanged table ns s rows room bytes h fits =
    right_unchanged s room bytes (accepted_right table ns s rows h) (accepted_short table ns s rows h) fits

-- Any bytes that are mended.
module _ (s : List ℕ) (bytes : AreBytes s) (m : Mended) (room : ℕ) (done : mending s room ≡ Ok m) where
  fit : All Fits (ordered (read_in s))
  fit = all_ordered Fits (read_in s) (reading_fit (length s) 0 s bytes)

  bytes_are : m.bytes ≡ spelled (ordered (read_in s))
  bytes_are = ap (λ (x : Mended). x.bytes) (was s room m done).is

  clean : Clean 0 0 (spelled (ordered (read_in s)))
  clean = clean_spelled 0 0 (ordered (read_in s)) (ordered_strict (read_in s)) fit

  -- What is written is right in frame: record by record, the reader's rules 1 to 6 hold.
  pub mended_right : Right 0 m.bytes
  mended_right = rw bytes_are (right_spelled 0 (ordered (read_in s)) (ordered_strict (read_in s)) fit)

  -- Where the reader, by any table and in any namespace, refuses what is written at one of its records, it is for that whole record's type or value, by what
  -- the table knows of it: never for a frame, with one of 1 to 6, of the stream that is written.
  pub mended_judged : (table : List ℕ) (ns : ℕ) (r : Refusal) → outer table ns m.bytes ≡ Err r →
      (x : Frame) × (from : List ℕ) × (at : ℕ) × Lies x from m.bytes ×
      (judged table 3 (knows table (record_at ns 3 at from x)) at x.kind (at + x.head) (value_in x from) ≡ Err r)
  unfolding outer_from
  mended_judged table ns r h = right_judged table ns 3 r mended_right 0 h

  -- The types of the records in what is written rise, and none is there twice.
  pub mended_rising : Strict 0 (read_in m.bytes)
  mended_rising = rw bytes_are clean.strict

  -- What is written has no more bytes than the stream.
  pub mended_shorter : length m.bytes ≤ length s
  mended_shorter = rw bytes_are (shorter s bytes)

  -- Mended again, what was written comes out the same, with four zeros, in every output that it fits.
  pub mended_twice : (room' : ℕ) → length m.bytes ≤ room' → mending m.bytes room' ≡ Ok (unchanged m.bytes)
  mended_twice room' fits =
      let short : length (spelled (ordered (read_in s))) ≤ 65535 = omega (arith, (was s room m done).short, shorter s bytes) in
      rw bytes_are (clean_mending (spelled (ordered (read_in s))) room' clean short (rw bytes_are at fits))

  -- The stream has a whole record of a type and a value exactly where what is written has one.
  pub same_contents : (kind : ℕ) (value : List ℕ) → Has kind value (read_in s) ↔ Has kind value (read_in m.bytes)
  same_contents k v =
      let back = spelled_has k v 0 (ordered (read_in s)) fit in
      rw bytes_are (λ h. back.1 (has_ordered k v (read_in s) (was s room m done).agree h), λ h. ordered_has k v (read_in s) (back.0 h))

-- a refusal's number, place and type, 0 where there is none
abbrev numbered : Answer Mended → ℕ
numbered (Ok m) = 0
numbered (Err r) = r.number

abbrev placed : Answer Mended → ℕ
placed (Ok m) = 0
placed (Err r) = r.place

abbrev typed : Answer Mended → ℕ
typed (Ok m) = 0
typed (Err r) = r.kind

-- a record that disagrees refuses, whatever the room
disagreed : (s : List ℕ) (room : ℕ) (r : Refusal) → length s ≤ 65535 → agreed [] (read_in s) ≡ Err r → mending s room ≡ Err r
unfolding making
disagreed s room r short a = fitting_refused _ room (making s) r (ensure_yes _ _ _ (le-leb (length s) 65535 short) ∙ then_refused r _ _ a)

-- the answers of a stream that is not too long, by number
short_answers {ℓ} : {G : Type ℓ} (s : List ℕ) (room : ℕ) → length s ≤ 65535 →
    (agreed [] (read_in s) ≡ Ok tt → length (spelled (ordered (read_in s))) ≤ room → numbered (mending s room) ≡ 0 → G) →
    (agreed [] (read_in s) ≡ Ok tt → room < length (spelled (ordered (read_in s))) → numbered (mending s room) ≡ 12 → G) →
    ((place kind : ℕ) → mending s room ≡ Err (refuse 80 place kind) → FirstContradicted place kind [] (read_in s) → G) → G
short_answers s room short f g h =
    by_agreed [] (read_in s)
    (λ a. by_order room (length (spelled (ordered (read_in s))))
    (λ l. g a l (ap numbered (mend_short s short a room l)))
    (λ l. f a l (ap numbered (mend_done s short a room l))))
    (λ p k a c. h p k (disagreed s room _ short a) c)

-- The refusals.

-- The answer is 14 exactly where the stream is longer than 65,535 bytes, whatever else is wrong and whatever the room.
pub too_long : (s : List ℕ) (room : ℕ) → (mending s room ≡ Err (bare 14)) ↔ (65535 < length s)
too_long s room = (
  λ h. by_order 65535 (length s) (λ l. l) λ l.
      short_answers s room l
      (λ _ _ n. absurd (omega (arith, n, ap numbered h)))
      (λ _ _ n. absurd (omega (arith, n, ap numbered h)))
      (λ _ _ e _. absurd (omega (arith, ap numbered e, ap numbered h))),
  mend_long s room,
)

-- Streams of at most 65,535 bytes.
module _ (s : List ℕ) (short : length s ≤ 65535) (room : ℕ) where
  -- Of a stream of at most 65,535 bytes, the answer is 80 at a place and with a type exactly where the first record that has the type of an earlier one but
  -- another value stands at that place and has that type, whatever the room.
  pub contradicted : (place kind : ℕ) → (mending s room ≡ Err (refuse 80 place kind)) ↔ FirstContradicted place kind [] (read_in s)
  contradicted place kind = (
    λ h. short_answers s room short
        (λ _ _ n. absurd (omega (arith, n, ap numbered h)))
        (λ _ _ n. absurd (omega (arith, n, ap numbered h)))
        (λ p k e c.
        let is = sym e ∙ h in
        rw (ap placed is, ap typed is) at c),
    λ c. disagreed s room _ short (first_refused place kind [] (read_in s) c),
  )

  -- Of a stream of at most 65,535 bytes, the answer is 12 exactly where every record agrees with the earlier ones of its type and the mended bytes are more than
  -- the room.
  pub no_room : (mending s room ≡ Err (bare 12)) ↔ ((agreed [] (read_in s) ≡ Ok tt) × (room < length (spelled (ordered (read_in s)))))
  no_room = (
    λ h. short_answers s room short
        (λ _ _ n. absurd (omega (arith, n, ap numbered h)))
        (λ a l _. (a, l))
        (λ _ _ e _. absurd (omega (arith, ap numbered e, ap numbered h))),
    λ h. mend_short s short h.0 room h.1,
  )
