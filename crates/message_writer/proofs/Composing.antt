-- The answers of the whole message writer, one law each. Assumes nothing.
use Rattle.std.specs.Prelude.{Ok, Err}
use mathlib.Core.List.{List, ◌++◌}
use mathlib.Core.Path.{◌≡◌, sym, ◌∙◌}
use Prim.Native.Nat.{ℕ, ◌-◌, ◌≤◌, ◌<◌}
use native.Mathlib.Nat.{zero-add}
use native.Mathlib.Omega.{arith}
use lib.ListN.{length, take, drop, length-append, length-take, length-drop}
use lib.Seq.{sets, length-sets}
use borrow.Author.Tests.{le-leb, lt-leb}
use borrow.Rule.Slice.PartMut.{put_mid}
use Rattle.laws.proofs.Lists.{sets_append, sets_front, tail_put}
use Rattle.message.specs.Layout.{Layout, layout_of}
use Rattle.message.specs.Message.{built_in}
use Rattle.answer.specs.Answer.{bare, filled}
use Rattle.answer.specs.declared.Refusal.{Refusal}
use Rattle.answer.proofs.Answer.{then_accepted, then_refused, ensure_yes, ensure_no}
use Rattle.stream_writer.specs.Writer.{composing as composingStream, writing as writingStream}
use Rattle.stream_writer.proofs.Composing.{writing_fits as stream-fits}
use Rattle.message_writer.specs.Writer.{payload, Draft, composing}

module _ (d : Draft) where
  pub composing_unknown : (r : Refusal) → layout_of d.kind ≡ Err r → composing d ≡ Err r
  unfolding composing
  composing_unknown r e = then_refused r _ _ e

  module _ (l : Layout) (laid : layout_of d.kind ≡ Ok l) where
    pub composing_payload : (r : Refusal) → payload l.front d.kind d.first d.last d.wanted ≡ Err r → composing d ≡ Err r
    unfolding composing
    composing_payload r e = then_accepted l _ _ laid ∙ then_refused r _ _ e

    module _ (bytes : List ℕ) (paid : payload l.front d.kind d.first d.last d.wanted ≡ Ok bytes) where
      pub composing_stream : (r : Refusal) → composingStream built_in l.namespace d.triples d.source ≡ Err r → composing d ≡ Err r
      unfolding composing
      composing_stream r e = then_accepted l _ _ laid ∙ then_accepted bytes _ _ paid ∙ then_refused r _ _ e

      module _ (extension : List ℕ) (extended : composingStream built_in l.namespace d.triples d.source ≡ Ok extension) where
        pub composing_long : 65535 < length (bytes ++ extension) → composing d ≡ Err (bare 21)
        unfolding composing
        composing_long h = then_accepted l _ _ laid ∙ then_accepted bytes _ _ paid ∙ then_accepted extension _ _ extended ∙ ensure_no _ _ _ (lt-leb _ _ h)

        pub composing_fits : length (bytes ++ extension) ≤ 65535 → composing d ≡ Ok (bytes ++ extension)
        unfolding composing
        composing_fits h = then_accepted l _ _ laid ∙ then_accepted bytes _ _ paid ∙ then_accepted extension _ _ extended ∙ ensure_yes _ _ _ (le-leb _ _ h)

-- The payload put at the front, and the extension written into the lent tail behind it: the message at the front, the rest as it was.
module _ (l b : List ℕ) (at : ℕ) (behind : at ≡ length b) where
  -- the output with the payload, and its tail
  abbrev begun : List ℕ
  begun = sets l 0 b

  abbrev tail : List ℕ
  tail = take (length begun - at) (drop at begun)

  pub extension_written : (table : List ℕ) (ns : ℕ) (triples source e : List ℕ) → composingStream table ns triples source ≡ Ok e → length (b ++ e) ≤ length l →
      writingStream table ns triples source (length tail) ≡ Ok e
  extension_written table ns triples source e fine fits =
      stream-fits table ns triples source (length tail) e fine
      (omega (arith, length-take (length begun - at) (drop at begun), length-drop at begun, length-append b e, length-sets l 0 b))

  pub message_put : (table : List ℕ) (ns : ℕ) (triples source e q : List ℕ) → composingStream table ns triples source ≡ Ok e → length (b ++ e) ≤ length l →
      q ≡ filled (writingStream table ns triples source (length tail)) tail → put_mid at (length begun - at) begun q ≡ (b ++ e) ++ drop (length (b ++ e)) l
  message_put table ns triples source e q fine fits h =
      let long : length begun ≡ length l = length-sets l 0 b in
      tail_put begun e q at (omega (arith, length-append b e)) (rw (extension_written table ns triples source e fine fits) at h)
      ∙ rw behind (sym (rw zero-add at (sets_append l 0 b e)))
      ∙ sets_front l (b ++ e) fits
