-- `message::pong` meets its contract: none, 12, or the four bytes in front and the zero bytes behind them. Assumes nothing.
use Rattle.std.proofs.Common.{arith, refl, sym, ap, ◌≡◌, ◌+◌, ◌-◌, ◌/◌, ◌%◌, ℕ, Ok, Err, Some, List, [], ◌∷◌, length, drop, replicate, length-drop}
use lib.ListN.{length-take}
use lib.Seq.{sets, length-sets}
use Rattle.message.proofs.PongLaws.{length_pong, pong_put, ponging_none, ponging_fits, ponging_short}
use Rattle.message.proofs.pong.Goals as goal

pub returns-then-wanted-ge65532 : goal.returns-then-wanted-ge65532
returns-then-wanted-ge65532 c =
    let a = c.args in
    rw (ponging_none a.wanted (length a.out.now) (omega arith)) record { result_value = refl; out_after = refl }

pub returns-then-out-size : goal.returns-then-out-size
returns-then-out-size c =
    let a = c.args in
    rw (ponging_short a.wanted (length a.out.now) (omega arith) (omega arith)) record { result_value = ap Err c.bare.ensures; out_after = refl }

-- an output with a pong's four bytes at the front
abbrev fronted : List ℕ → (wanted : ℕ) → List ℕ
fronted out wanted = sets out 0 (0 ∷ 19 ∷ wanted / 256 ∷ wanted % 256 ∷ [])

-- the bytes behind the front are filled with zeros
zeros : (wanted : ℕ) (l : List ℕ) {q : List ℕ} → length l ≡ wanted → (((y : ℕ) → y ≡ 0 → y ≡ 0) → q ≡ replicate (length l) 0) → q ≡ replicate wanted 0
zeros wanted l n filled = rw (← n) (filled (λ y is. is))

pub returns : goal.returns
returns c =
    let a = c.args in
    rw (ponging_fits a.wanted (length a.out.now) (omega arith) (omega arith)) record {
      result_value = ap (λ (n : ℕ). Ok (Some n)) (sym (length_pong a.wanted));
      out_after =
          pong_put a.out.now _ a.wanted (omega arith) (omega arith) (zeros a.wanted _ (omega (
            arith,
            length-take (4 + a.wanted - 4) (drop 4 (fronted a.out.now a.wanted)),
            length-drop 4 (fronted a.out.now a.wanted),
            length-sets a.out.now 0 (0 ∷ 19 ∷ a.wanted / 256 ∷ a.wanted % 256 ∷ []),
          )) c.fill.ensures.after);
    }
