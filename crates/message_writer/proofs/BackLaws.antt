-- What writing a message back uses: a buffer whose front was lent, the answers, and the rows for which there is room. Assumes nothing.
use Rattle.std.specs.Prelude.{Ok, Err}
use mathlib.Core.List.{List, [], ◌∷◌, ◌++◌, append_assoc}
use mathlib.Core.Path.{◌≡◌, refl, sym, ap, ◌∙◌}
use Prim.Native.Nat.{ℕ, ◌*◌, ◌/◌, ◌≤◌, ◌<◌, min}
use native.Mathlib.Omega.{arith}
use lib.Dec.{leb}
use lib.ListN.{length, take, drop, length-append, length-drop, take-append-drop}
use lib.Seq.{drop-append-le, length-take-le, take_at}
use borrow.Author.Tests.{leb-true, le-leb, lt-leb}
use Rattle.laws.specs.Test.{pick}
use Rattle.laws.proofs.Test.{pick_yes, pick_no, pick_all, by_order}
use Rattle.message.specs.Message.{Outcome, passed_over, told, judging, index_of, reading}
use Rattle.message.specs.declared.layout.Payload.{Payload}
use Rattle.answer.specs.Answer.{Answer, refuse, bare, fitting, filled}
use Rattle.answer.specs.declared.Refusal.{Refusal}
use Rattle.answer.proofs.Answer.{then_accepted, then_refused, ensure_yes, ensure_all, fitting_refused, fitting_fits, fitting_short, fitted}
use Rattle.stream.specs.Stream.{Row}
use Rattle.stream_index.specs.Index.{numbers}
use Rattle.stream_index.proofs.Filling.{length_numbers}
use Rattle.stream_writer.specs.Back.{unmarking}
use Rattle.stream_writer.specs.Triples.{triples_of}
use Rattle.stream_writer.proofs.BackLaws.{unmarking_fits, numbers_triples}
use Rattle.message_writer.specs.Back.{writing_back}

-- a list without elements
none_of : (l : List ℕ) → length l ≡ 0 → l ≡ []
none_of [] h = refl
none_of (x ∷ l) h = absurd (omega (arith, h))

-- A lent front, seen in the whole: as it was, or filled.
pub front_kept : (l q : List ℕ) (n : ℕ) → q ≡ take n l → q ++ drop n l ≡ l
front_kept l q n e = rw e (take-append-drop n l)

pub front_filled : (l q xs : List ℕ) (n : ℕ) → length xs ≤ n → n ≤ length l → q ≡ filled (Ok xs) (take n l) → q ++ drop n l ≡ filled (Ok xs) l
front_filled l q xs n h k e =
    ap (λ (x : List ℕ). x ++ drop n l) e
    ∙ append_assoc xs (drop (length xs) (take n l)) (drop n l)
    ∙ ap (λ (x : List ℕ). xs ++ x) (sym (drop-append-le (length xs) (take n l) (drop n l) (rw (length-take-le n l k) h)) ∙ ap (drop (length xs)) (take-append-drop n l))

-- a buffer is as long as it was
pub length_filled : (l xs : List ℕ) → length xs ≤ length l → length (filled (Ok xs) l) ≡ length l
length_filled l xs h = omega (arith, length-append xs (drop (length xs) l), length-drop (length xs) l)

-- the triples of the rows that an index begins with
pub unmarked : (rows : List Row) (index : List ℕ) (room n : ℕ) → length rows ≡ n → n * 3 ≤ room →
    unmarking (take (n * 4) (filled (Ok (numbers rows)) index)) room ≡ Ok (triples_of rows)
unmarked rows index room n e h =
    let front = take_at (numbers rows) (drop (length (numbers rows)) index) (n * 4) (omega (arith, length_numbers rows, e)) in
    rw front (unmarking_fits (numbers rows) room (omega (arith, length_numbers rows, e))) ∙ ap Ok (numbers_triples rows)

-- how much of an index an answer takes
abbrev size : Outcome → ℕ
size o = length (index_of o)

-- The answers, by how the message is judged, one law each.
module _ (m : List ℕ) (index triples out : ℕ) where
  judged_refused : (r : Refusal) → judging m ≡ Err r → writing_back m index triples out ≡ Err r
  unfolding writing_back
  judged_refused r e = then_refused r _ _ (fitting_refused size index _ r e)

  judged_passed : (kind : ℕ) → judging m ≡ Ok (passed_over kind) → writing_back m index triples out ≡ Err (refuse 22 0 kind)
  unfolding writing_back
  judged_passed kind e = then_accepted (passed_over kind) _ _ (fitting_fits size index _ _ e (omega arith)) ∙ then_refused _ _ _ refl

  module _ (p : Payload) (rows : List Row) (e : judging m ≡ Ok (told p rows)) where
    judged_fits : 4 * length rows ≤ index → 3 * length rows ≤ triples → length m ≤ out → writing_back m index triples out ≡ Ok rows
    unfolding writing_back
    judged_fits a b c =
        then_accepted (told p rows) _ _ (fitting_fits size index _ _ e (rw (length_numbers rows) a))
        ∙ then_accepted rows _ _ refl
        ∙ ensure_yes _ _ _ (le-leb _ _ b)
        ∙ ensure_yes _ _ _ (le-leb _ _ c)

    -- 12 where not all of the three fit
    judged_short : (4 * length rows ≤ index → 3 * length rows ≤ triples → length m ≤ out → ⊥) → writing_back m index triples out ≡ Err (bare 12)
    unfolding writing_back
    judged_short no_room =
        by_order index (4 * length rows) (λ h. then_refused (bare 12) _ _ (fitting_short size index _ _ e (rw (length_numbers rows) h))) λ a.
        then_accepted (told p rows) _ _ (fitting_fits size index _ _ e (rw (length_numbers rows) a))
        ∙ then_accepted rows _ _ refl
        ∙ ensure_all (λ x. x ≡ Err (bare 12)) _ _ _
        (λ b. ensure_all (λ x. x ≡ Err (bare 12)) _ _ _ (λ c. absurd (no_room a (leb-true _ _ b) (leb-true _ _ c))) (λ _. refl))
        (λ _. refl)

-- The answers, by a reading into the n rows for which there is room in index and triples, none where the message does not fit into the output.
module _ (m : List ℕ) (index triples out n : ℕ) (is : n ≡ pick (leb (length m) out) (min (index / 4) (triples / 3)) 0) where
  pub room_index : n * 4 ≤ index
  room_index = rw is (pick_all (λ (x : ℕ). x * 4 ≤ index) _ _ _ (λ _. omega arith) (λ _. omega arith))

  pub room_triples : n * 3 ≤ triples
  room_triples = rw is (pick_all (λ (x : ℕ). x * 3 ≤ triples) _ _ _ (λ _. omega arith) (λ _. omega arith))

  room_all : length m ≤ out → n ≡ min (index / 4) (triples / 3)
  room_all h = is ∙ pick_yes _ _ _ (le-leb _ _ h)

  room_none : out < length m → n ≡ 0
  room_none h = is ∙ pick_no _ _ _ (lt-leb _ _ h)

  -- rows that do not fit into what is lent
  short : (t : Outcome) → judging m ≡ Ok t → n * 4 < length (index_of t) → writing_back m index triples out ≡ Err (bare 12)
  short (passed_over kind) e k = absurd (omega arith)
  short (told p rows) e k = judged_short m index triples out p rows e (λ a b c. omega (arith, room_all c, k, length_numbers rows))

  refused_by : (r : Refusal) (x : Answer Outcome) → judging m ≡ x → fitting size (n * 4) x ≡ Err r → writing_back m index triples out ≡ Err r
  refused_by r (Err q) e h =
      let same : q ≡ r = (let was = fitting_refused size (n * 4) (Err q) q refl in cc) in
      judged_refused m index triples out q e ∙ ap Err same
  refused_by r (Ok t) e h =
      by_order (n * 4) (size t)
      (λ few.
      let same : bare 12 ≡ r = (let was = fitting_short size (n * 4) (Ok t) t refl few in cc) in
      short t e few ∙ ap Err same)
      (λ room. absurd (let was = fitting_fits size (n * 4) (Ok t) t refl room in let z : ◌≡◌ {A = ℕ} 0 1 = cc in omega arith))

  pub back_refused : (r : Refusal) → reading m (n * 4) ≡ Err r → writing_back m index triples out ≡ Err r
  back_refused r = refused_by r (judging m) refl

  pub back_passed : (kind : ℕ) → reading m (n * 4) ≡ Ok (passed_over kind) → writing_back m index triples out ≡ Err (refuse 22 0 kind)
  back_passed kind h = judged_passed m index triples out kind (fitted size (n * 4) _ _ h).was

  module _ (p : Payload) (rows : List Row) (read : reading m (n * 4) ≡ Ok (told p rows)) where
    -- the rows fit into what is lent
    pub rows_in : length rows ≤ n
    rows_in = omega (arith, (fitted size (n * 4) _ _ read).fits, length_numbers rows)

    -- no row is there where the output is too short
    pub no_rows : out < length m → numbers rows ≡ []
    no_rows h = none_of (numbers rows) (omega (arith, rows_in, room_none h, length_numbers rows))

    pub back_out : out < length m → writing_back m index triples out ≡ Err (bare 12)
    back_out h = judged_short m index triples out p rows (fitted size (n * 4) _ _ read).was (λ _ _ c. omega (arith, c, h))

    pub back_fits : length m ≤ out → writing_back m index triples out ≡ Ok rows
    back_fits h =
        judged_fits m index triples out p rows (fitted size (n * 4) _ _ read).was (omega (arith, rows_in, room_index)) (omega (arith, rows_in, room_triples)) h
