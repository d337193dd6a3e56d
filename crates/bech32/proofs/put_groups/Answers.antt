-- A byte is taken in where five bits are not there, and a group put out.
use Rattle.std.proofs.Common.{◌≡◌, ℕ, zero, suc, ◌+◌, ◌-◌, ◌*◌, ◌/◌, ◌%◌, ◌^◌, ◌<◌, ◌≤◌, List, [], ◌∷◌, ◌++◌, length, get_or, take, drop, sym, refl, ap, ◌∙◌, ap₂, map-id, mod-eq_of_lt, arith, lit<, length-append}
use Rattle.laws.specs.Digits.{from_digits, to_digits}
use Rattle.bech32.proofs.GroupLaws.{length_groups_of, whole_groups}
use Rattle.bech32.proofs.RegroupLaws.{Regrouping, start, took, put}
use Rattle.bech32.proofs.put_groups.Goals as goal
use Rattle.bech32.proofs.put_groups.Goals.{then-bits-lt5, else-bits-lt5}

-- a zero byte behind the bytes does not show
behind : (bs : List ℕ) (i : ℕ) → get_or (bs ++ 0 ∷ []) i 0 ≡ get_or bs i 0
behind [] zero = refl
behind [] (suc i) = refl
behind (b ∷ bs) zero = refl
behind (b ∷ bs) (suc i) = behind bs i

-- a byte stays as it is
abbrev same : (x : ℕ) → ℕ
same x = x

pub loop-m-init : goal.loop-m-init
loop-m-init c = (start 8 5 same (c.args.bytes.now ++ 0 ∷ []) c.args.out.now, lit< tt)

-- five bits are there
record Ready (c : goal.After-bits_at) : Type 0 where
  state : Regrouping 8 5 same (c.args.bytes.now ++ 0 ∷ []) c.args.out.now c.loop-m.out c.if-bits-lt5.held c.if-bits-lt5.bits c.loop-m.m c.if-bits-lt5.i
  least : 5 ≤ c.if-bits-lt5.bits
  most : c.if-bits-lt5.bits < 13

ready : (c : goal.After-bits_at) → Ready c
ready c =
    let bs = c.args.bytes.now in
    let l = c.loop-m in
    let s = bs ++ 0 ∷ [] in
    let here : get_or bs l.i 0 < 256 = (c.type_inv.bytes l.i).fits in
    let byte : get_or s l.i 0 < 256 = rw (behind bs l.i) here in
    let whole : get_or bs l.i 0 % 256 ≡ get_or bs l.i 0 = mod-eq_of_lt here in
    elim c.if-bits-lt5.branch [
      | then-bits-lt5 w ↦
          let more : l.i < length s = omega (arith, l.invariant.0.spread, length-append bs (0 ∷ [])) in
          let taken = took 8 5 same s c.args.out.now l.out l.held l.bits l.m l.i l.invariant.0 more byte in
          record {
            state = rw (w.held-is, w.bits-is, w.i-is, w.push-held.ensures, w.byte_at.ensures, whole) (rw (behind bs l.i) at taken);
            least = omega arith;
            most = omega arith;
          }
      | else-bits-lt5 w ↦ record { state = rw (w.held-is, w.bits-is, w.i-is) l.invariant.0; least = omega arith; most = omega arith }
    ]

pub loop-m-preserved : goal.loop-m-preserved
loop-m-preserved c =
    let j = c.if-bits-lt5 in
    let r = ready c in (
      rw c.bits_at.ensures
          (put 8 5 same (c.args.bytes.now ++ 0 ∷ []) c.args.out.now c.loop-m.out j.held j.bits c.loop-m.m j.i r.state (j.bits - 5) (omega arith) (omega arith)
          (omega arith)),
      omega arith,
    )

pub returns : goal.returns
returns c =
    let out = c.args.out.now in
    let l = c.loop-m in
    let bs = c.args.bytes.now in
    let s = bs ++ 0 ∷ [] in
    let count : l.m ≡ (8 * length bs + 4) / 5 = omega arith in
    let read : l.i ≤ length bs + 1 = omega (arith, l.invariant.0.read, length-append bs (0 ∷ [])) in
    l.invariant.0.written
    ∙ ap (λ (x : List ℕ). to_digits 5 l.m (from_digits 8 (take l.i x) / 2 ^ l.bits) ++ drop l.m out) (map-id s)
    ∙ ap₂ (λ (x : List ℕ) (n : ℕ). x ++ drop n out) (whole_groups bs l.m l.i l.bits count l.invariant.0.spread read) (count ∙ sym (length_groups_of bs))
