-- What was read as a part of a message is spelled as the writer spells it. Assumes nothing.
use Rattle.std.specs.Prelude.{Ok}
use mathlib.Core.List.{List, [], ◌++◌, append_assoc}
use mathlib.Core.Path.{◌≡◌, refl, ap, ◌∙◌}
use Prim.Native.Nat.{ℕ, ◌+◌, ◌≤◌}
use lib.ListN.{length, take, drop, take-append-drop}
use lib.Seq.{drop-drop}
use Rattle.laws.specs.Digits.{AreBytes, to_bytes}
use Rattle.laws.proofs.Digits.{to_from, part_digits}
use Rattle.laws.proofs.Lists.{length_part}
use Rattle.message.specs.Layout.{end, Layout, layout_of, parts}
use Rattle.message.specs.Message.{built_in, number_at, sized, front_at}
use Rattle.message.specs.declared.layout.Front.{Front}
use Rattle.message.proofs.PartLaws.{fixed_in}
use Rattle.answer.specs.declared.Part.{Part}
use Rattle.answer.proofs.Answer.{both}
use Rattle.stream.specs.Stream.{Row, judging_from}
use Rattle.stream_writer.specs.Triples.{triples_of}
use Rattle.stream_writer.proofs.RoundTrip.{composed_again}
use Rattle.message_writer.specs.Parts.{bytes_at, SameFront}
use Rattle.message_writer.specs.Writer.{sized_bytes, front_bytes, Draft, draft, composing}
use Rattle.message_writer.proofs.Composing.{composing_fits}
use Rattle.message_writer.proofs.PayloadLaws.{channel_fits, payload_is}

module _ (m : List ℕ) (bytes : AreBytes m) where
  -- a number of two bytes
  pub number_spelled : (at : ℕ) → at + 2 ≤ length m → to_bytes 2 (number_at at m) ≡ take 2 (drop at m)
  number_spelled at h = rw (length_part m at 2 h) at (to_from 8 (take 2 (drop at m)) (part_digits 8 m at 2 bytes))

  -- a part behind its length, and what follows it
  pub sized_spelled : (kind at : ℕ) (p : Part) → sized kind at m ≡ Ok p → sized_bytes (bytes_at p m) ++ drop (end p) m ≡ drop at m
  unfolding sized
  sized_spelled kind at p h =
      let b = both _ _ p h in
      let f = fixed_in kind at m 2 b.is b.first in
      let g = fixed_in kind (at + 2) m (number_at at m) p b.second in
      rw (g.0, length_part m (at + 2) (number_at at m) g.1, number_spelled at f.1, append_assoc)
      (rw (← (drop-drop (number_at at m) (at + 2) m), take-append-drop (number_at at m) (drop (at + 2) m), ← (drop-drop 2 at m)) (take-append-drop 2 (drop at m)))

  -- what stands in front, and what follows it
  pub front_spelled : (front : Front) (kind : ℕ) (a b : Part) (d : Draft) → front_at front kind m ≡ Ok a →
      SameFront front d (parts kind a b (number_at a.start m)) m →
      (x : List ℕ) × (front_bytes front kind d.first d.wanted ≡ Ok x) × (x ++ drop (end a) m ≡ drop 2 m)
  front_spelled Front.Sized kind a b d there same = (sized_bytes d.first, refl, rw (← same) (sized_spelled kind 2 a there))
  front_spelled Front.Channel kind a b d there same =
      let f = fixed_in kind 2 m 32 a there in
      let fits : length d.first ≡ 32 = rw (← same, f.0) (length_part m 2 32 f.1) in
      (d.first, channel_fits kind d.first d.wanted fits, rw (← same, f.0, ← (drop-drop 32 2 m)) (take-append-drop 32 (drop 2 m)))
  front_spelled Front.Number kind a b d there same =
      let f = fixed_in kind 2 m 2 a there in
      let count : number_at 2 m ≡ d.wanted = rw f.0 at same in
      (to_bytes 2 d.wanted, refl, rw (← count, f.0, number_spelled 2 f.1, ← (drop-drop 2 2 m)) (take-append-drop 2 (drop 2 m)))
  front_spelled Front.Empty kind a b d there same = ([], refl, rw (fixed_in kind 2 m 0 a there).0)

  -- A message that begins with its type and what stands before the last part, and goes on with the last part and the extension, is written back.
  pub spelled_back : (kind : ℕ) (l : Layout) (first last : List ℕ) (wanted : ℕ) (b : List ℕ) (at : ℕ) (p : Part) (rows : List Row) → layout_of kind ≡ Ok l →
      2 ≤ length m → length m ≤ 65535 → number_at 0 m ≡ kind → front_bytes l.front kind first wanted ≡ Ok b → b ++ drop at m ≡ drop 2 m →
      sized kind at m ≡ Ok p → bytes_at p m ≡ last → judging_from (end p) built_in l.namespace m ≡ Ok rows →
      composing (draft kind first last wanted (triples_of rows) m) ≡ Ok m
  spelled_back kind l first last wanted b at p rows laid long short of fronted begins there is judged =
      let ends = sized_spelled kind at p there in
      let whole : (to_bytes 2 kind ++ (b ++ sized_bytes last)) ++ drop (end p) m ≡ m =
      rw (← is, append_assoc, append_assoc, ends, begins, ← of, number_spelled 0 long) (take-append-drop 2 m) in
      composing_fits (draft kind first last wanted (triples_of rows) m) l laid _ (payload_is l.front kind first last wanted b fronted) (drop (end p) m)
      (composed_again (end p) built_in l.namespace m rows bytes judged) (rw whole short)
      ∙ ap Ok whole
