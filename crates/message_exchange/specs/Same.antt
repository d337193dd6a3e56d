-- What the writer is given and all that the reader answers, compared. Assumes nothing.
use Rattle.std.specs.Prelude.{List, ◌≡◌, ℕ, Ok}
use Rattle.stream.specs.Stream.{Row}
use Rattle.stream_writer.specs.Triples.{SameContent}
use Rattle.message.specs.Layout.{Layout, layout_of}
use Rattle.message.specs.Message.{built_in}
use Rattle.message.specs.declared.layout.Payload.{Payload}
use Rattle.message_writer.specs.Parts.{SameParts}
use Rattle.message_writer.specs.Writer.{Draft}

-- What the writer is given and all that was read from a message: the same parts, and the same records in the extension.
pub record SameMessage (d : Draft) (p : Payload) (rows : List Row) (message : List ℕ) : Type 0 where
  pub parts : SameParts d p message
  pub extension : (l : Layout) → layout_of d.kind ≡ Ok l → SameContent built_in l.namespace d.triples d.source rows message
