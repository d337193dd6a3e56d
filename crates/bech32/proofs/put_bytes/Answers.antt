-- A group is taken in, and a byte put out as soon as eight bits are there.
use Rattle.std.proofs.Common.{◌≡◌, ℕ, ◌+◌, ◌-◌, ◌*◌, ◌/◌, ◌%◌, ◌^◌, List, ◌++◌, map, length, get_or, drop, ap, ◌∙◌, ap₂, mod-lt, arith, lit<, take_all}
use lib.ListN.{length-map}
use Rattle.laws.specs.Digits.{to_digits}
use Rattle.bech32.specs.Groups.{low5, number, bytes_of}
use Rattle.bech32.proofs.GroupLaws.{length_bytes_of, whole_bytes_of_groups}
use Rattle.bech32.proofs.RegroupLaws.{start, took, put}
use Rattle.bech32.proofs.put_bytes.Goals as goal
use Rattle.bech32.proofs.put_bytes.Goals.{then-bits-ge8, else-bits-ge8}

pub loop-group-init : goal.loop-group-init
loop-group-init c = (start 5 8 low5 c.args.groups.now c.args.out.now, lit< tt)

pub loop-group-preserved : goal.loop-group-preserved
loop-group-preserved c =
    let a = c.args in
    let l = c.loop-group in
    let g = low5 (get_or a.groups.now l.group-index 0) in
    let taken = took 5 8 low5 a.groups.now a.out.now l.out l.held l.bits l.count l.group-index l.invariant.0 (omega arith) (mod-lt _ (lit< tt)) in
    elim c.if-bits-ge8.branch [
      | then-bits-ge8 w ↦
          rw (w.out-is, w.bits-is, w.count-is, w.bits_at.ensures, c.push-held.ensures) (
            put 5 8 low5 a.groups.now a.out.now l.out ((l.held * 32 + g) % 2 ^ 64) (l.bits + 5) l.count (l.group-index + 1) taken (l.bits + 5 - 8)
                (omega arith) (omega arith) (omega (arith, l.invariant.0.spread, c.requires)),
            omega arith,
          )
      | else-bits-ge8 w ↦ rw (w.out-is, w.bits-is, w.count-is, c.push-held.ensures) (taken, omega arith)
    ]

-- the groups, and how many bytes they make
whole : (c : goal.After-loop-group) → c.loop-group.count ≡ length (bytes_of (map low5 c.args.groups.now))
whole c =
    let gs = map low5 c.args.groups.now in
    omega (arith, c.loop-group.invariant.0.spread, length-map c.args.groups.now low5, length_bytes_of gs)

pub returns-clause-value : goal.returns-clause-value
returns-clause-value c = whole c

pub returns-clause-out_after : goal.returns-clause-out_after
returns-clause-out_after c =
    let l = c.loop-group in
    let out = c.args.out.now in
    let gs = map low5 c.args.groups.now in
    let size = length-map c.args.groups.now low5 in
    l.invariant.0.written
    ∙ ap (λ (x : List ℕ). to_digits 8 l.count (number x / 2 ^ l.bits) ++ drop l.count out) (take_all l.group-index gs (omega arith))
    ∙ ap₂ (λ (x : List ℕ) (n : ℕ). x ++ drop n out) (whole_bytes_of_groups gs l.count l.bits (omega (arith, l.invariant.0.spread)) l.invariant.1) (whole c)
