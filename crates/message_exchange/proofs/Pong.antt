-- The pong that `message::pong` writes: the writer makes it too, and the reader reads it back. Assumes nothing.
use Rattle.std.specs.Prelude.{Ok, Some}
use mathlib.Core.List.{List, [], ◌++◌, append_assoc, append-nil}
use mathlib.Core.Path.{◌≡◌, refl, sym, ap, ◌∙◌}
use Prim.Native.Nat.{ℕ, ◌+◌, ◌<◌}
use native.Mathlib.Nat.{sub_self}
use native.Mathlib.Omega.{arith}
use lib.ListN.{length, drop, replicate, length-replicate}
use lib.Seq.{drop_at}
use Rattle.laws.specs.Digits.{to_bytes}
use Rattle.laws.specs.Test.{pick}
use Rattle.laws.proofs.Digits.{length_digits}
use Rattle.laws.proofs.Test.{by_order}
use Rattle.message.specs.Layout.{part, pong, parts, nothing}
use Rattle.message.specs.Message.{built_in, sized, told, by_type, index_of, judging, answer_of}
use Rattle.message.specs.Replies.{bytes_in, pong_bytes, ponging}
use Rattle.message.specs.declared.layout.Front.TheVariants as Front
use Rattle.message.proofs.MessageLaws.{judging_type, payload_then}
use Rattle.message.proofs.LayoutLaws.{layouts}
use Rattle.message.proofs.PartLaws.{fixed_fits}
use Rattle.message.proofs.PongLaws.{length_pong, ponging_none, ponging_fits, ponging_short}
use Rattle.answer.specs.Answer.{mapped, ensure, ◌>>=◌}
use Rattle.answer.proofs.Answer.{then_accepted, fitting_short, fitting_fits}
use Rattle.stream_index.specs.Index.{numbers}
use Rattle.stream.proofs.Judging.{judging_none}
use Rattle.stream_writer.specs.Writer.{bytes_of, rows_judged, composing as composingStream}
use Rattle.stream_writer.proofs.Composing.{composing_fits as stream-fits}
use Rattle.table.specs.Table.{allowed, not_below, rising, checking}
use Rattle.message_writer.specs.Writer.{sized_bytes, draft, composing, writing}
use Rattle.message_writer.proofs.Composing.{composing_fits}
use Rattle.message_writer.proofs.PayloadLaws.{payload_is}
use Rattle.message_exchange.specs.Pong.{pong_of, ReadAsPong}
use Rattle.message_exchange.proofs.Holding.{Holds, number_found, sized_holds, sized_found}

built_in_fine : checking built_in ≡ Ok tt
unfolding checking rising not_below allowed pick ensure ◌>>=◌
built_in_fine = refl

-- no triples make an empty extension
no_extension : (source : List ℕ) → composingStream built_in pong.namespace [] source ≡ Ok []
unfolding bytes_of rows_judged pick
no_extension source = stream-fits built_in 1 [] source built_in_fine (omega arith) refl refl (omega arith)

-- a pong is the type 19 and its filler behind its length
pong_spelled : (count : ℕ) → pong_bytes count ≡ to_bytes 2 19 ++ sized_bytes (replicate count 0)
unfolding pong_bytes
pong_spelled count = rw (append_assoc, length-replicate)

module _ (wanted : ℕ) (few : wanted < 65532) where
  pong_composed : (first : List ℕ) (any : ℕ) (source : List ℕ) → composing (draft 19 first (replicate wanted 0) any [] source) ≡ Ok (pong_bytes wanted)
  pong_composed first any source =
      let filler = replicate {A = ℕ} wanted 0 in
      let is = append-nil (to_bytes 2 19 ++ sized_bytes filler) ∙ sym (pong_spelled wanted) in
      composing_fits (draft 19 first filler any [] source) pong layouts.4 _ (payload_is Front.Empty 19 first filler any [] refl) [] (no_extension source)
      (omega (arith, ap length is, length_pong wanted))
      ∙ ap Ok is

  -- What `message::pong` writes is what the writer makes of the type 19, that many zero bytes and no triples, whatever else it is given.
  pub pong_is_written : (first : List ℕ) (any : ℕ) (source : List ℕ) (room : ℕ) →
      mapped bytes_in (ponging wanted room) ≡ writing (draft 19 first (replicate wanted 0) any [] source) room
  pong_is_written first any source room =
      let made = pong_composed first any source in
      by_order room (4 + wanted)
      (λ h. ap (mapped bytes_in) (ponging_short wanted room few h) ∙ sym (fitting_short length room _ _ made (omega (arith, length_pong wanted))))
      (λ h. ap (mapped bytes_in) (ponging_fits wanted room few h) ∙ sym (fitting_fits length room _ _ made (omega (arith, length_pong wanted))))

  -- The reader finds the filler behind its length and nothing behind the filler.
  behind_type : drop 2 (pong_bytes wanted) ≡ sized_bytes (replicate wanted 0) ++ []
  behind_type = rw (pong_spelled wanted, append-nil) (drop_at (to_bytes 2 19) _ 2 (length_digits 8 2 19))

  filler_holds : Holds (pong_bytes wanted) (part 4 wanted) (replicate wanted 0) []
  filler_holds =
      rw length-replicate at
      (sized_holds (pong_bytes wanted) 2 (omega (arith, length_pong wanted)) (replicate wanted 0) [] (rw length-replicate (omega arith)) behind_type)

  filler_found : sized 19 2 (pong_bytes wanted) ≡ Ok (part 4 wanted)
  filler_found =
      rw length-replicate at
      (sized_found (pong_bytes wanted) 2 (omega (arith, length_pong wanted)) (replicate wanted 0) [] (rw length-replicate (omega arith)) behind_type 19)

  pong_judged : judging (pong_bytes wanted) ≡ Ok (told (parts 19 nothing (part 4 wanted) 0) [])
  pong_judged =
      let m = pong_bytes wanted in
      let long = length_pong wanted in
      let of = number_found m 0 (omega arith) 19 (sized_bytes (replicate wanted 0)) (omega arith) (pong_spelled wanted) in
      let typed : judging m ≡ by_type 19 (Ok pong) m = judging_type m (omega arith) (omega arith) ∙ rw (of, layouts.4) in
      typed
      ∙ payload_then 19 pong m (part 2 0) (fixed_fits 19 2 m 0 (omega arith)) (part 4 wanted) filler_found
      ∙ then_accepted [] _ _ (judging_none (4 + wanted) built_in 1 m built_in_fine (omega arith) (omega arith))

  told_pong : answer_of (pong_bytes wanted) (Ok (told (parts 19 nothing (part 4 wanted) 0) [])) ≡ Ok (pong_of wanted)
  told_pong = rw (length_pong wanted, sub_self)

  pong_read : ReadAsPong wanted (pong_bytes wanted)
  unfolding numbers
  pong_read =
      record {
        read = λ room. ap (answer_of (pong_bytes wanted)) (fitting_fits (λ o. length (index_of o)) room _ _ pong_judged (omega arith)) ∙ told_pong;
        judged = ap (answer_of (pong_bytes wanted)) pong_judged ∙ told_pong;
        filler = filler_holds.content;
      }

-- What `message::pong` writes is read as a pong with that many zero bytes of filler and an empty extension.
pub pong_is_read : (wanted room : ℕ) (pong : List ℕ) → ponging wanted room ≡ Ok (Some pong) → ReadAsPong wanted pong
pong_is_read wanted room pong h =
    by_order wanted 65532
    (λ few.
    by_order room (4 + wanted)
    (λ short. absurd (let e = ponging_short wanted room few short in let z : ◌≡◌ {A = ℕ} 0 1 = cc in omega arith))
    (λ fits.
    let e = ponging_fits wanted room few fits in
    let is : pong_bytes wanted ≡ pong = cc in
    rw is at (pong_read wanted few)))
    (λ many. absurd (let e = ponging_none wanted room many in let z : ◌≡◌ {A = ℕ} 0 1 = cc in omega arith))
