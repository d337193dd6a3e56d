-- Reading and writing a descriptor are inverse. Assumes nothing.
use Rattle.std.specs.Prelude.{Ok}
use mathlib.Core.List.{List, [], ◌∷◌}
use mathlib.Core.Path.{◌≡◌}
use Prim.Native.Nat.{ℕ, ◌≤◌}
use native.Mathlib.Omega.{arith}
use lib.ListN.{length}
use Rattle.answer.proofs.Answer.{ensured, ensure_yes}
use Rattle.address.specs.Address.{is_rest, Descriptor, reading, writing}
use Rattle.address.proofs.Laws.{writing_fits}

-- What is read is written back to the same bytes, wherever there is room for them.
pub read_is_written : (value : List ℕ) (d : Descriptor) (room : ℕ) → reading value ≡ Ok d → length value ≤ room → writing d room ≡ Ok value
unfolding reading
read_is_written [] d room h fits = absurd (let z : ◌≡◌ {A = ℕ} 0 1 = cc in omega arith)
read_is_written (kind ∷ rest) d room h fits =
    let e = ensured (is_rest kind rest) _ _ d h in
    let same : record { kind = kind; rest = rest } ≡ d = cc e.rest in
    rw (← same) (writing_fits _ room e.holds (omega arith))

-- What is written is read with the same type and the same rest.
pub written_is_read : (d : Descriptor) (value : List ℕ) (room : ℕ) → writing d room ≡ Ok value → reading value ≡ Ok d
unfolding writing reading
written_is_read d value room h =
    let a = ensured _ _ _ value h in
    let b = ensured _ _ _ value a.rest in
    let same : d.kind ∷ d.rest ≡ value = cc b.rest in
    rw (← same) (ensure_yes _ _ _ a.holds)
