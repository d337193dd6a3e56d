-- What a message holds at a place, and that the reader finds it there. Assumes nothing.
use Rattle.std.specs.Prelude.{Ok}
use mathlib.Core.List.{List, ◌++◌, append_assoc}
use mathlib.Core.Path.{◌≡◌, refl, ap, ◌∙◌}
use Prim.Native.Nat.{ℕ, ◌+◌, ◌≤◌, ◌<◌}
use native.Mathlib.Omega.{arith}
use lib.ListN.{length, drop, length-append, length-drop}
use lib.Seq.{drop-drop, take_at, drop_at}
use Rattle.laws.specs.Digits.{to_bytes}
use Rattle.laws.proofs.Digits.{length_digits, from_to_whole}
use Rattle.message.specs.Layout.{part, end}
use Rattle.message.specs.Message.{number_at, fixed, sized}
use Rattle.message.proofs.PartLaws.{fixed_fits, sized_then}
use Rattle.answer.specs.declared.Part.{Part}
use Rattle.message_writer.specs.Parts.{bytes_at}
use Rattle.message_writer.specs.Writer.{sized_bytes}

module _ (m : List ℕ) where
  -- a part with its content, and what follows it
  pub record Holds (p : Part) (v rest : List ℕ) : Type 0 where
    pub content : bytes_at p m ≡ v
    pub behind : drop (end p) m ≡ rest
    pub inside : end p ≤ length m

  module _ (at : ℕ) (inside : at ≤ length m) where
    -- bytes at a place
    pub holds : (v rest : List ℕ) → drop at m ≡ v ++ rest → Holds (part at (length v)) v rest
    holds v rest h =
        record {
          content = rw h (take_at v rest (length v) refl);
          behind = rw (← (drop-drop (length v) at m), h) (drop_at v rest (length v) refl);
          inside = omega (arith, ap length h, length-drop at m, length-append v rest);
        }

    pub fixed_found : (kind : ℕ) (v rest : List ℕ) → drop at m ≡ v ++ rest → fixed kind at (length v) m ≡ Ok (part at (length v))
    fixed_found kind v rest h = fixed_fits kind at m (length v) (holds v rest h).inside

    -- a number of two bytes
    pub number_found : (n : ℕ) (rest : List ℕ) → n < 65536 → drop at m ≡ to_bytes 2 n ++ rest → number_at at m ≡ n
    number_found n rest small h = rw (h, take_at (to_bytes 2 n) rest 2 (length_digits 8 2 n)) (from_to_whole 8 2 n small)

  -- a part behind its length
  module _ (at : ℕ) (inside : at ≤ length m) (v rest : List ℕ) (short : length v < 65536) (h : drop at m ≡ sized_bytes v ++ rest) where
    runs : drop at m ≡ to_bytes 2 (length v) ++ (v ++ rest)
    runs = rw append_assoc at h

    head : Holds (part at 2) (to_bytes 2 (length v)) (v ++ rest)
    head = rw (length_digits 8) at (holds at inside (to_bytes 2 (length v)) (v ++ rest) runs)

    pub sized_holds : Holds (part (at + 2) (length v)) v rest
    sized_holds = holds (at + 2) head.inside v rest head.behind

    pub sized_found : (kind : ℕ) → sized kind at m ≡ Ok (part (at + 2) (length v))
    sized_found kind =
        sized_then kind at m _ (fixed_fits kind at m 2 head.inside)
        ∙ rw (number_found at inside (length v) (v ++ rest) short runs) (fixed_found (at + 2) head.inside kind v rest head.behind)
