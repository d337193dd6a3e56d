-- What the writer asks of a row, in one line, and its judgement of the value beside the reader's. Assumes nothing.
use mathlib.Core.List.{List, ◌∷◌}
use mathlib.Core.Path.{◌≡◌, refl, ap, ◌∙◌}
use Prim.Native.Nat.{ℕ, suc, ◌+◌}
use lib.Dec.{leb}
use lib.ListN.{length}
use Rattle.answer.specs.Answer.{lacking, refuse, ensure, ◌>>=◌}
use Rattle.answer.specs.declared.Refusal.{Refusal}
use Rattle.answer.proofs.Answer.{then_accepted, then_same, then_assoc}
use Rattle.stream.specs.Stream.{judged, mark_of}
use Rattle.table.specs.Table.{lookup}
use Rattle.stream_writer.specs.Alike.{Alike}
use Rattle.stream_writer.specs.Writer.{part, row_placed, value_judged, row_judged, rows_judged}
use Rattle.stream_writer.proofs.Alike.{alike_told}
use Rattle.stream_writer.proofs.Anywhere.{InRecord, judged_anywhere}

-- the reader judges it alike wherever it lies, and the writer tells the refusal at the row
pub value_alike : {E : Refusal → Type 0} (table : List ℕ) (ns r place kind start : ℕ) (v : List ℕ) →
    Alike E (λ q p. (q ≡ lacking p.number r kind p.missing) × InRecord place kind start v p) (λ _ m. m ≡ mark_of (lookup table ns kind) v)
    (value_judged table ns r kind v) (judged table 3 (lookup table ns kind) place kind start v)
value_alike table ns r place kind start v =
    alike_told (λ q. lacking q.number r kind q.missing) (judged_anywhere table 3 0 place kind 0 start v (lookup table ns kind))
    (λ q p same. (ap (λ (f : Refusal). lacking f.number r kind f.missing) same.0, same.1))

-- what is asked of a triple, and of those behind it
pub rows_asked : (table : List ℕ) (ns : ℕ) (source : List ℕ) (r low kind start size : ℕ) (triples : List ℕ) →
    rows_judged table ns source r low (kind ∷ start ∷ size ∷ triples) ≡
    (ensure (leb (start + size) (length source)) (refuse 16 r kind) >>= λ _.
    ensure (leb low kind) (refuse 3 r kind) >>= λ _.
    value_judged table ns r kind (part start size source) >>= λ _.
    rows_judged table ns source (suc r) (suc kind) triples)
unfolding rows_judged row_judged row_placed
rows_asked table ns source r low kind start size triples =
    then_assoc _ _ _
    ∙ then_assoc _ _ _
    ∙ then_same _ _ _ λ _ _. then_same _ _ _ λ _ _. then_assoc _ _ _
    ∙ then_same _ _ _ λ _ _. then_accepted tt _ _ refl
