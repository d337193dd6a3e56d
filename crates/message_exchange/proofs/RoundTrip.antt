-- The message writer and the reader, there and back. Assumes nothing.
use Rattle.std.specs.Prelude.{Ok}
use mathlib.Core.List.{List, ◌++◌, append_assoc}
use mathlib.Core.Path.{◌≡◌, sym, ap, ◌∙◌}
use Prim.Native.Nat.{ℕ, ◌^◌, ◌≤◌, ◌<◌}
use native.Mathlib.Omega.{arith}
use lib.ListN.{length, get_or}
use Rattle.laws.specs.Digits.{AreBytes, to_bytes}
use Rattle.answer.proofs.Answer.{fitting_fits, fitted}
use Rattle.stream.specs.Stream.{Row}
use Rattle.stream_writer.specs.Triples.{triples_of}
use Rattle.message.specs.Layout.{Layout, layout_of}
use Rattle.message.specs.Message.{number_at, told, judging}
use Rattle.message.specs.declared.layout.Payload.{Payload}
use Rattle.message.proofs.MessageLaws.{read_is}
use Rattle.message_writer.specs.Parts.{PartsIn, SameParts}
use Rattle.message_writer.specs.Writer.{sized_bytes, Draft, draft, writing}
use Rattle.message_writer.proofs.Named.{kind_is}
use Rattle.message_writer.proofs.PayloadLaws.{made}
use Rattle.message_writer.proofs.Rewritten.{rewritten, parts_inside}
use Rattle.message_exchange.specs.Same.{SameMessage}
use Rattle.message_exchange.proofs.Composed.{composed}
use Rattle.message_exchange.proofs.Reread.{again}

module _ (m : List ℕ) (p : Payload) (rows : List Row) (bytes : AreBytes m) (h : judging m ≡ Ok (told p rows)) where
  -- Every message that the reader accepts is written back, from its own parts and index rows, to the same bytes, whatever is given that its type does not use.
  pub read_is_written : (kind : ℕ) (first last : List ℕ) (wanted : ℕ) → SameParts (draft kind first last wanted (triples_of rows) m) p m →
      (room : ℕ) → length m ≤ room → writing (draft kind first last wanted (triples_of rows) m) room ≡ Ok m
  read_is_written kind first last wanted same room fits = fitting_fits length room _ m (rewritten m p rows bytes h kind first last wanted same) fits

  -- Its type is one of the five, so that what is the same for its layout is the same.
  pub laid_out : (l : Layout) × (layout_of p.kind ≡ Ok l)
  laid_out =
      let r = read_is m p rows h in
      let of = kind_is (number_at 0 m) r.layout r.laid r.first r.last (number_at r.first.start m) in
      (r.layout, ap (λ (q : Payload). layout_of q.kind) r.is ∙ ap layout_of (sym of) ∙ r.laid)

  -- Its parts lie in it.
  pub parts_in : PartsIn m p
  parts_in = parts_inside m p rows bytes h

-- Whatever the writer makes, the reader accepts, with the same parts and the same records in the extension.
pub written_is_read : (d : Draft) (room : ℕ) (m : List ℕ) → d.wanted < 65536 → ((k : ℕ) → get_or d.triples k 0 < 2 ^ 64) → writing d room ≡ Ok m →
    (p : Payload) × (rows : List Row) × (judging m ≡ Ok (told p rows)) × SameMessage d p rows m
written_is_read d room m small below h =
    let c = composed d m (fitted length room _ m h).was in
    let f = made c.layout.front d.kind d.first d.last d.wanted c.bytes c.paid in
    let runs : m ≡ to_bytes 2 d.kind ++ (f.before ++ (sized_bytes d.last ++ c.extension)) =
    c.is ∙ ap (λ (x : List ℕ). x ++ c.extension) f.is ∙ simp append_assoc in
    again d c.layout c.laid below f.before c.extension f.fronted c.extended m runs (omega (arith, ap length c.is, c.short)) small
