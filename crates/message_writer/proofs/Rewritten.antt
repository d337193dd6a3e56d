-- A message that the reader accepts is made again of its own parts, which lie in it. Assumes nothing.
use Rattle.std.specs.Prelude.{Ok}
use mathlib.Core.List.{List}
use mathlib.Core.Path.{◌≡◌, sym, ap, ◌∙◌}
use Prim.Native.Nat.{ℕ, ◌<◌}
use native.Mathlib.Omega.{arith}
use Rattle.laws.specs.Digits.{AreBytes}
use Rattle.laws.proofs.Digits.{from_part_below}
use Rattle.stream.specs.Stream.{Row}
use Rattle.stream_writer.specs.Triples.{triples_of}
use Rattle.message.specs.Message.{number_at, told, judging}
use Rattle.message.specs.declared.layout.Payload.{Payload}
use Rattle.message.proofs.LayoutLaws.{last_is}
use Rattle.message.proofs.MessageLaws.{read_is}
use Rattle.message.proofs.PartLaws.{front_end, sized_end, sized_length}
use Rattle.message_writer.specs.Parts.{bytes_at, PartsIn, SameFront, SameParts}
use Rattle.message_writer.specs.Writer.{draft, composing}
use Rattle.message_writer.proofs.Named.{kind_is, named_in, front_as}
use Rattle.message_writer.proofs.Spelled.{front_spelled, spelled_back}

module _ (m : List ℕ) (p : Payload) (rows : List Row) (bytes : AreBytes m) (h : judging m ≡ Ok (told p rows)) where
  -- from whatever has them, with the triples of its extension's rows, the writer makes the message
  pub rewritten : (kind : ℕ) (first last : List ℕ) (wanted : ℕ) → SameParts (draft kind first last wanted (triples_of rows) m) p m →
      composing (draft kind first last wanted (triples_of rows) m) ≡ Ok m
  rewritten kind first last wanted same =
      let d = draft kind first last wanted (triples_of rows) m in
      let r = read_is m p rows h in
      let count = number_at r.first.start m in
      let of = kind_is (number_at 0 m) r.layout r.laid r.first r.last count in
      let is : number_at 0 m ≡ kind = of ∙ ap (λ (q : Payload). q.kind) (sym r.is) ∙ sym same.type in
      let laid = rw is at r.laid in
      let front : SameFront r.layout.front d ((r.layout.payload r.first r.last count)) m = rw (← r.is) (same.front r.layout laid) in
      let own = front_as kind r.layout laid r.first r.last count d m front in
      let f = front_spelled m bytes r.layout.front kind r.first r.last d (rw is at r.fronted) own in
      let ends : bytes_at r.last m ≡ last = rw (← (last_is kind r.layout laid r.first r.last count), ← r.is) same.ending in
      spelled_back m bytes kind r.layout first last wanted f.0 _ r.last rows laid r.long r.short is f.1 f.2 (rw is at r.ended) ends r.extended

  -- its parts lie in it
  pub parts_inside : PartsIn m p
  parts_inside =
      let r = read_is m p rows h in
      let kind = number_at 0 m in
      let a = r.first in
      let inside = front_end r.layout.front kind m a r.fronted in
      let count : number_at a.start m < 65536 = from_part_below 8 m a.start 2 (omega (arith, sized_length kind _ m _ r.ended)) bytes in
      rw r.is (named_in kind r.layout r.laid a r.last _ m inside (sized_end kind _ m _ r.ended) count)
