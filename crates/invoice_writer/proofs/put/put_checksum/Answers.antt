-- The six characters behind the text.
use native.Mathlib.Omega.{arith}
use mathlib.Core.List.{List, map}
use mathlib.Core.Path.{ap, ◌∙◌}
use Prim.Native.Nat.{ℕ, ◌+◌}
use lib.ListN.{take, drop}
use lib.Seq.{sets, take-take}
use Rattle.bech32.specs.Alphabet.{char_of, groups_in}
use Rattle.bech32.specs.Checksum.{create_checksum}
use Rattle.bech32.proofs.CreateLaws.{created_groups}
use Rattle.letters.specs.Letters.{lower}
use Rattle.invoice_writer.proofs.TextLaws.{chars_low}
use Rattle.invoice_writer.proofs.put.put_checksum.Goals as goal

pub returns : goal.returns
returns c =
    let a = c.args in
    let six = c.closing_of-six in
    c.put_chars.ensures
    ∙ ap (sets a.out.now a.size)
    (chars_low six.result (λ i. rw six.ensures (created_groups _ _ i))
    ∙ ap (map char_of)
    (six.ensures
    ∙ ap (λ (l : List ℕ). create_checksum (map lower l) (groups_in (drop (a.end + 1) (take a.size a.out.now)))) (take-take a.end a.size a.out.now (omega arith))))
