-- A message that the writer spells is accepted by the reader, with the same content. Assumes nothing.
use Rattle.std.specs.Prelude.{Ok}
use mathlib.Core.List.{List, [], ◌++◌}
use mathlib.Core.Path.{◌≡◌, sym, ap, ◌∙◌}
use Prim.Native.Nat.{ℕ, ◌+◌, ◌^◌, ◌≤◌, ◌<◌}
use native.Mathlib.Omega.{arith}
use lib.ListN.{length, drop, get_or, length-append}
use lib.Seq.{drop_at}
use Rattle.laws.specs.Digits.{to_bytes}
use Rattle.laws.proofs.Digits.{length_digits}
use Rattle.answer.specs.declared.Part.{Part}
use Rattle.answer.proofs.Answer.{then_accepted}
use Rattle.stream.specs.Stream.{Row, judging_from}
use Rattle.stream_writer.specs.Triples.{SameContent}
use Rattle.stream_writer.specs.Writer.{composing as composingStream}
use Rattle.stream_writer.proofs.RoundTrip.{composed_is_read as stream-read}
use Rattle.message.specs.Layout.{part, end, Layout, layout_of, parts}
use Rattle.message.specs.Message.{built_in, number_at, sized, front_at, told, by_type, judging}
use Rattle.message.specs.declared.layout.Payload.{Payload}
use Rattle.message.specs.declared.layout.Front.{Front}
use Rattle.message.proofs.LayoutLaws.{each, last_is}
use Rattle.message.proofs.MessageLaws.{judging_type, payload_then}
use Rattle.message.proofs.PartLaws.{fixed_fits}
use Rattle.message_writer.specs.Parts.{SameFront}
use Rattle.message_writer.specs.Writer.{sized_bytes, front_bytes, Draft}
use Rattle.message_writer.proofs.Named.{kind_small, kind_is}
use Rattle.message_writer.proofs.PayloadLaws.{length_sized, channel_is}
use Rattle.message_exchange.specs.Same.{SameMessage}
use Rattle.message_exchange.proofs.Holding.{Holds, holds, fixed_found, number_found, sized_holds, sized_found}

-- The reader finds what the writer puts in front, and it says the same.
module _ (d : Draft) (m b rest : List ℕ) (runs : drop 2 m ≡ b ++ rest) (long : 2 + length b ≤ length m) (short : length m < 65536) (small : d.wanted < 65536)
    (last : Part) where
  pub record Fronted (front : Front) : Type 0 where
    pub part : Part
    pub there : front_at front d.kind m ≡ Ok part
    pub ends : end part ≡ 2 + length b
    pub same : SameFront front d (parts d.kind part last (number_at part.start m)) m

  pub fronted : (front : Front) → front_bytes front d.kind d.first d.wanted ≡ Ok b → Fronted front
  fronted Front.Sized h =
      let is : b ≡ sized_bytes d.first = cc h in
      let starts : drop 2 m ≡ sized_bytes d.first ++ rest = rw is at runs in
      let few : length d.first < 65536 = omega (arith, ap length is, length_sized d.first) in
      record {
        part = part 4 (length d.first);
        there = sized_found m 2 (omega arith) d.first rest few starts d.kind;
        ends = omega (arith, ap length is, length_sized d.first);
        same = (sized_holds m 2 (omega arith) d.first rest few starts).content;
      }
  fronted Front.Channel h =
      let c = channel_is d.kind d.first d.wanted b h in
      let starts : drop 2 m ≡ d.first ++ rest = rw c.0 at runs in
      record {
        part = part 2 32;
        there = rw c.1 at (fixed_found m 2 (omega arith) d.kind d.first rest starts);
        ends = omega (arith, ap length c.0, c.1);
        same = rw c.1 at (holds m 2 (omega arith) d.first rest starts).content;
      }
  fronted Front.Number h =
      let is : b ≡ to_bytes 2 d.wanted = cc h in
      let size : length b ≡ 2 = ap length is ∙ length_digits 8 2 d.wanted in
      record {
        part = part 2 2;
        there = fixed_fits d.kind 2 m 2 (omega arith);
        ends = omega arith;
        same = number_found m 2 (omega arith) d.wanted rest small (rw is at runs);
      }
  fronted Front.Empty h =
      let is : b ≡ [] = cc h in
      record { part = part 2 0; there = fixed_fits d.kind 2 m 0 (omega arith); ends = omega (arith, ap length is); same = tt }

-- A payload has the parts that it was named by, as far as its type has them in front.
front_of : (kind : ℕ) (l : Layout) → layout_of kind ≡ Ok l → (a b : Part) (wanted : ℕ) (d : Draft) (m : List ℕ) →
    SameFront l.front d (parts kind a b wanted) m → SameFront l.front d (l.payload a b wanted) m
front_of kind l laid a b wanted d m =
    each (λ k l. SameFront l.front d (parts k a b wanted) m → SameFront l.front d (l.payload a b wanted) m) kind l
    (λ s. s) (λ s. s) (λ s. s) (λ s. s) (λ s. s) laid

-- A message that the writer spells: its type, what stands before the last part, the last part and the extension.
module _ (d : Draft) (l : Layout) (laid : layout_of d.kind ≡ Ok l) (below : (k : ℕ) → get_or d.triples k 0 < 2 ^ 64) (b e : List ℕ)
    (spelled : front_bytes l.front d.kind d.first d.wanted ≡ Ok b)
    (extended : composingStream built_in l.namespace d.triples d.source ≡ Ok e) (m : List ℕ)
    (runs : m ≡ to_bytes 2 d.kind ++ (b ++ (sized_bytes d.last ++ e))) (short : length m ≤ 65535) where
  -- how long it is
  sizes : length m ≡ 4 + length b + length d.last + length e
  sizes =
      let last = sized_bytes d.last in
      let whole = length-append (to_bytes 2 d.kind) (b ++ (last ++ e)) in
      ap length runs ∙ omega (arith, whole, length-append b (last ++ e), length-append last e, length_sized d.last, length_digits 8 2 d.kind)

  -- its type, and what follows it
  kind_found : number_at 0 m ≡ d.kind
  kind_found = number_found m 0 (omega arith) d.kind _ (kind_small d.kind l laid) runs

  behind_type : drop 2 m ≡ b ++ (sized_bytes d.last ++ e)
  behind_type = rw runs (drop_at (to_bytes 2 d.kind) _ 2 (length_digits 8 2 d.kind))

  -- where the last part stands
  abbrev at : ℕ
  at = 2 + length b

  abbrev final : Part
  final = part (at + 2) (length d.last)

  final_at : drop at m ≡ sized_bytes d.last ++ e
  final_at = (holds m 2 (omega (arith, sizes)) b (sized_bytes d.last ++ e) behind_type).behind

  final_found : sized d.kind at m ≡ Ok final
  final_found = sized_found m at (omega (arith, sizes)) d.last e (omega (arith, sizes)) final_at d.kind

  final_holds : Holds m final d.last e
  final_holds = sized_holds m at (omega (arith, sizes)) d.last e (omega (arith, sizes)) final_at

  -- the extension's rows
  rows_found : (rows : List Row) × (judging_from (end final) built_in l.namespace m ≡ Ok rows) ×
      SameContent built_in l.namespace d.triples d.source rows m
  rows_found = stream-read built_in l.namespace d.triples d.source below e extended (end final) m final_holds.behind

  -- the reader accepts it, with the same content
  pub again : d.wanted < 65536 → (p : Payload) × (rows : List Row) × (judging m ≡ Ok (told p rows)) × SameMessage d p rows m
  again small =
      let f = fronted d m b (sized_bytes d.last ++ e) behind_type (omega (arith, sizes)) (omega arith) small final l.front spelled in
      let r = rows_found in
      let count = number_at f.part.start m in
      let p = l.payload f.part final count in
      let behind : sized d.kind (end f.part) m ≡ Ok final = rw f.ends final_found in
      let typed : judging m ≡ by_type d.kind (Ok l) m = judging_type m short (omega (arith, sizes)) ∙ rw (kind_found, laid) in
      let only : (x : Layout) → layout_of d.kind ≡ Ok x → l ≡ x = λ x h. (let same : Ok l ≡ Ok x = sym laid ∙ h in cc) in (
        p,
        r.0,
        typed ∙ payload_then d.kind l m f.part f.there final behind ∙ then_accepted r.0 _ _ r.1,
        record {
          parts =
              record {
                type = kind_is d.kind l laid f.part final count;
                front = λ x h. rw (← (only x h)) (front_of d.kind l laid f.part final count d m f.same);
                ending = rw (last_is d.kind l laid f.part final count) final_holds.content;
              };
          extension = λ x h. rw (← (only x h)) r.2;
        },
      )
