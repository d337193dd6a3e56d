-- `message_writer::write_back` meets its contract: the reading into the rows for which there is room, then the round trip. Assumes nothing.
use Rattle.std.proofs.Common.{arith, refl, sym, ap, ◌≡◌, ◌*◌, ◌/◌, ◌≤◌, ◌++◌, min, ℕ, Ok, Err, List, length, take, drop}
use lib.Dec.{leb}
use lib.Seq.{take_at, length-take-le}
use Rattle.laws.specs.Test.{pick}
use Rattle.message.specs.Message.{told, index_of, reading, answer_of}
use Rattle.message.specs.declared.Extension.{Extension}
use Rattle.message.specs.declared.Message.TheVariants as Message
use Rattle.message.specs.declared.layout.Payload.{Payload}
use Rattle.message.proofs.MessageLaws.{answer_refused, answer_passed, answer_accepted}
use Rattle.answer.specs.Answer.{mapped, filled}
use Rattle.answer.proofs.Answer.{handed_on, not_refused, fitted}
use Rattle.stream.specs.Stream.{Row}
use Rattle.stream_index.specs.Index.{numbers}
use Rattle.stream_index.proofs.Filling.{length_numbers}
use Rattle.stream_writer.specs.Triples.{triples_of}
use Rattle.stream_writer.specs.Back.{unmarking}
use Rattle.message_writer.proofs.BackLaws.{front_kept, front_filled, length_filled, unmarked, room_index, room_triples, back_refused, back_passed, rows_in, no_rows, back_out, back_fits}
use Rattle.message_writer.proofs.write_back.Goals as goal

-- the rows that are lent lie in the index
module _ (m index triples out : List ℕ) (n : ℕ) (is : n ≡ pick (leb (length m) (length out)) (min (length index / 4) (length triples / 3)) 0) where
  lent : n * 4 ≤ length index
  lent = room_index m (length index) (length triples) (length out) n is

  -- the reading into them, and what it leaves in them
  module _ (p : Payload) (x : Extension) (q : List ℕ)
      (read : Ok (Message.Accepted p x) ≡ answer_of m (reading m (length (take (n * 4) index))))
      (left : q ≡ filled (mapped index_of (reading m (length (take (n * 4) index)))) (take (n * 4) index)) where
    read_of : (rows : List Row) × (reading m (n * 4) ≡ Ok (told p rows)) × (length rows ≡ x.records)
    read_of = answer_accepted _ _ _ _ (sym (rw (length-take-le _ _ lent) at read))

    -- they fit into the index and into the triples
    fit : (x.records ≤ n) × (x.records * 4 ≤ length index) × (x.records * 3 ≤ length triples)
    fit =
        let j = read_of in
        let few = rows_in m (length index) (length triples) (length out) n is p j.0 j.1 in
        let room = room_triples m (length index) (length triples) (length out) n is in
        (omega (arith, j.2, few), omega (arith, j.2, few, lent), omega (arith, j.2, few, room))

    -- the index with the rows
    index_is : q ++ drop (n * 4) index ≡ filled (Ok (numbers read_of.0)) index
    index_is =
        let j = read_of in
        let after = rw (length-take-le _ _ lent) at left in
        front_filled _ _ (numbers j.0) _ (omega (arith, j.2, fit, length_numbers j.0)) lent (rw j.1 at after)

    -- they lie in it
    index_long : x.records * 4 ≤ length (q ++ drop (n * 4) index)
    index_long =
        let j = read_of in
        rw (index_is, length_filled index (numbers j.0) (omega (arith, j.2, fit, length_numbers j.0))) fit.1

    -- the triples of the rows
    unmarked_is : unmarking (take (x.records * 4) (q ++ drop (n * 4) index)) (length triples) ≡ Ok (triples_of read_of.0)
    unmarked_is = rw index_is (unmarked read_of.0 index (length triples) _ read_of.2 fit.2)

-- as many as were put are taken from the front
taken : (rows : List Row) (triples after : List ℕ) (count : ℕ) → Ok count ≡ mapped length (Ok (triples_of rows)) → after ≡ filled (Ok (triples_of rows)) triples →
    take count after ≡ triples_of rows
taken rows triples after count n e =
    let is : count ≡ length (triples_of rows) = cc in
    rw e (take_at (triples_of rows) (drop (length (triples_of rows)) triples) count (sym is))

pub overflow_mul-room : goal.overflow_mul-room
overflow_mul-room c =
    let a = c.args in
    omega (arith, lent a.message.now a.index.now a.triples.now a.out.now _ c.rows_with_room-room.ensures)

pub slice_bounds-read-end : goal.slice_bounds-read-end
slice_bounds-read-end c =
    let a = c.args in
    lent a.message.now a.index.now a.triples.now a.out.now _ c.rows_with_room-room.ensures

pub slice_bounds-read-end-2 : goal.slice_bounds-read-end-2
slice_bounds-read-end-2 c =
    let a = c.args in
    sym (length-take-le _ _ (lent a.message.now a.index.now a.triples.now a.out.now _ c.rows_with_room-room.ensures))

-- a refusal leaves all as it came
pub returns-in_err-read : goal.returns-in_err-read
returns-in_err-read c =
    let a = c.args in
    let n = c.rows_with_room-room.result in
    let whole = length-take-le _ _ (lent a.message.now a.index.now a.triples.now a.out.now n c.rows_with_room-room.ensures) in
    let e = answer_refused _ _ _ (sym (rw whole at c.in_err-read.ensures.value)) in
    let after = rw whole at c.in_err-read.ensures.index_after in
    rw (back_refused _ _ _ _ _ c.rows_with_room-room.ensures _ e) (handed_on c.from_residual.ensures.1, front_kept a.index.now _ (n * 4) (rw e at after), refl, refl)

pub returns-in-PassedOver : goal.returns-in-PassedOver
returns-in-PassedOver c =
    let a = c.args in
    let n = c.rows_with_room-room.result in
    let whole = length-take-le _ _ (lent a.message.now a.index.now a.triples.now a.out.now n c.rows_with_room-room.ensures) in
    let e = answer_passed _ _ _ (sym (rw (c.in-PassedOver.is, whole) at c.in_ok-read.ensures.value)) in
    let after = rw whole at c.in_ok-read.ensures.index_after in
    rw (back_passed _ _ _ _ _ c.rows_with_room-room.ensures _ e) (ap Err c.at.ensures, front_kept a.index.now _ (n * 4) (rw e at after), refl, refl)

pub returns-then-out-message : goal.returns-then-out-message
returns-then-out-message c =
    let a = c.args in
    let room = c.rows_with_room-room.ensures in
    let read = rw c.in-Accepted.is at c.in_ok-read.ensures.value in
    let left = c.in_ok-read.ensures.index_after in
    let j = read_of a.message.now a.index.now a.triples.now a.out.now _ room _ _ _ read left in
    let none = no_rows a.message.now (length a.index.now) (length a.triples.now) (length a.out.now) _ room _ j.0 j.1 c.if-out-message.true in
    rw (back_out _ _ _ _ _ room _ j.0 j.1 c.if-out-message.true)
    (ap Err c.bare.ensures, rw none at (index_is a.message.now a.index.now a.triples.now a.out.now _ room _ _ _ read left), refl, refl)

pub overflow_mul-end : goal.overflow_mul-end
overflow_mul-end c =
    let a = c.args in
    let read = rw c.in-Accepted.is at c.in_ok-read.ensures.value in
    omega (arith, fit a.message.now a.index.now a.triples.now a.out.now _ c.rows_with_room-room.ensures _ _ _ read c.in_ok-read.ensures.index_after)

pub slice_bounds-triples_of-end : goal.slice_bounds-triples_of-end
slice_bounds-triples_of-end c =
    let a = c.args in
    let read = rw c.in-Accepted.is at c.in_ok-read.ensures.value in
    index_long a.message.now a.index.now a.triples.now a.out.now _ c.rows_with_room-room.ensures _ _ _ read c.in_ok-read.ensures.index_after

pub slice_bounds-triples_of-end-in-Accepted : goal.slice_bounds-triples_of-end-in-Accepted
slice_bounds-triples_of-end-in-Accepted c =
    let a = c.args in
    let read = rw c.in-Accepted.is at c.in_ok-read.ensures.value in
    sym (length-take-le _ _ (index_long a.message.now a.index.now a.triples.now a.out.now _ c.rows_with_room-room.ensures _ _ _ read c.in_ok-read.ensures.index_after))

-- there is room for the triples of all that was read
pub returns-in_err-count-in-Accepted : goal.returns-in_err-count-in-Accepted
returns-in_err-count-in-Accepted c =
    let a = c.args in
    let read = rw c.in-Accepted.is at c.in_ok-read.ensures.value in
    let made = unmarked_is a.message.now a.index.now a.triples.now a.out.now _ c.rows_with_room-room.ensures _ _ _ read c.in_ok-read.ensures.index_after in
    absurd (not_refused refl (sym (rw made at c.in_err-count-in-Accepted.ensures.result_value)))

pub write_payload-requires-clause-message_value : goal.write_payload-requires-clause-message_value
write_payload-requires-clause-message_value c =
    let a = c.args in
    let room = c.rows_with_room-room.ensures in
    let read = rw c.in-Accepted.is at c.in_ok-read.ensures.value in
    let left = c.in_ok-read.ensures.index_after in
    let j = read_of a.message.now a.index.now a.triples.now a.out.now _ room _ _ _ read left in
    let made = unmarked_is a.message.now a.index.now a.triples.now a.out.now _ room _ _ _ read left in
    let put = c.in_ok-count-in-Accepted.ensures in
    (j.0, (fitted _ _ _ _ j.1).was, taken j.0 a.triples.now _ _ (rw made at put.result_value) (rw made at put.triples_after))

pub returns-in_ok-count-in-Accepted : goal.returns-in_ok-count-in-Accepted
returns-in_ok-count-in-Accepted c =
    let a = c.args in
    let room = c.rows_with_room-room.ensures in
    let read = rw c.in-Accepted.is at c.in_ok-read.ensures.value in
    let left = c.in_ok-read.ensures.index_after in
    let j = read_of a.message.now a.index.now a.triples.now a.out.now _ room _ _ _ read left in
    let made = unmarked_is a.message.now a.index.now a.triples.now a.out.now _ room _ _ _ read left in
    rw (back_fits _ _ _ _ _ room _ j.0 j.1 c.if-out-message.false) (
      c.write_payload.ensures.result_value,
      index_is a.message.now a.index.now a.triples.now a.out.now _ room _ _ _ read left,
      rw made at c.in_ok-count-in-Accepted.ensures.triples_after,
      c.write_payload.ensures.out_after,
    )
