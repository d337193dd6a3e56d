-- An address in words, and whether an entry is refused. Assumes nothing.
use Rattle.std.specs.Prelude.{Ok, Err}
use Rattle.std.specs.Int.{from_bool}
use mathlib.Core.List.{List, [], ◌∷◌, ◌++◌}
use mathlib.Core.Path.{◌≡◌, refl}
use Prim.Native.Nat.{ℕ, ◌<◌}
use native.Mathlib.Omega.{arith}
use lib.ListN.{length, get_or, drop}
use Rattle.hexadecimal.specs.Hex.{hex}
use Rattle.answer.specs.Answer.{Answer, mapped}
use Rattle.report_lines.specs.Lines.{address_words, is_refused, refusal}
use Rattle.report_lines.specs.Text.{text, worded}

-- a descriptor in words, by how many bytes it has
pub address_rest : (v : List ℕ) → 1 < length v → address_words v ≡ worded " address " (get_or v 0 0) ++ (text " " ++ hex (drop 1 v))
address_rest [] h = absurd (omega arith)
address_rest (kind ∷ []) h = absurd (omega arith)
address_rest (kind ∷ b ∷ rest) h = refl

-- a refusal stays one where what was accepted is told otherwise
pub refused_mapped : {A B : Type 0} (f : A → B) (x : Answer A) → is_refused (mapped f x) ≡ is_refused x
refused_mapped f (Ok a) = refl
refused_mapped f (Err r) = refl

-- a flag as a number
pub refusal_counts : {A : Type 0} (x : Answer A) → from_bool (is_refused x) ≡ refusal x
refusal_counts (Ok a) = refl
refusal_counts (Err r) = refl
