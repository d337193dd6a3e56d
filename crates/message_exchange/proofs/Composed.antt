-- What a message that the writer makes is made of. Assumes nothing.
use Rattle.std.specs.Prelude.{Ok}
use mathlib.Core.List.{List, ◌++◌}
use mathlib.Core.Path.{◌≡◌}
use Prim.Native.Nat.{ℕ, ◌≤◌}
use lib.ListN.{length}
use borrow.Author.Tests.{leb-true}
use Rattle.message.specs.Layout.{Layout, layout_of}
use Rattle.message.specs.Message.{built_in}
use Rattle.answer.proofs.Answer.{both, ensured}
use Rattle.stream_writer.specs.Writer.{composing as composingStream}
use Rattle.message_writer.specs.Writer.{payload, Draft, composing}

module _ (d : Draft) where
  pub record Composed (message : List ℕ) : Type 0 where
    pub layout : Layout
    pub laid : layout_of d.kind ≡ Ok layout
    pub bytes : List ℕ
    pub paid : payload layout.front d.kind d.first d.last d.wanted ≡ Ok bytes
    pub extension : List ℕ
    pub extended : composingStream built_in layout.namespace d.triples d.source ≡ Ok extension
    pub short : length (bytes ++ extension) ≤ 65535
    pub is : message ≡ bytes ++ extension

  pub composed : (message : List ℕ) → composing d ≡ Ok message → Composed message
  unfolding composing
  composed message h =
      let l = both _ _ message h in
      let a = both _ _ message l.second in
      let b = both _ _ message a.second in
      let c = ensured _ _ _ message b.second in
      record {
        layout = l.is;
        laid = l.first;
        bytes = a.is;
        paid = a.first;
        extension = b.is;
        extended = b.first;
        short = leb-true _ _ c.holds;
        is = cc c.rest;
      }
