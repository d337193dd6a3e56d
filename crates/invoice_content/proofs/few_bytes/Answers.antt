-- The groups that hold the bytes' bits, without the bits before and behind.
use native.Mathlib.Nat.{mul_comm}
use native.Mathlib.Omega.{arith}
use mathlib.Core.Path.{sym, ap, ◌∙◌}
use Prim.Native.Nat.{ℕ, ◌+◌, ◌-◌, ◌*◌, ◌/◌, ◌%◌, ◌^◌, ◌≤◌}
use lib.Bits.{and_mask}
use lib.ListN.{length, take, drop}
use lib.Pow.{pow_pos}
use Rattle.bech32.proofs.GroupLaws.{number_fits, take_groups, drop_groups}
use Rattle.bech32.specs.Groups.{number}
use Rattle.laws.proofs.Lists.{length_part}
use Rattle.invoice_content.proofs.RouteLaws.{bytes_number, one_shifted}
use Rattle.invoice_content.proofs.few_bytes.Goals as goal

pub overflow_sub-result : goal.overflow_sub-result
overflow_sub-result c =
    let n = c.args.count in
    rw (one_shifted (n * 8) (omega arith)) (pow_pos (n * 8))

pub returns : goal.returns
returns c =
    let at = c.args.at in
    let n = c.args.count in
    let gs = c.args.groups.now in
    let end-bit = at % 5 * 8 + n * 8 in
    let first = at / 5 * 8 + at % 5 * 8 / 5 in
    let size = at / 5 * 8 + (end-bit + 4) / 5 - first in
    let behind = (end-bit + 4) / 5 * 5 - end-bit in
    let p = take size (drop first gs) in
    let few : length p ≤ 12 = omega (arith, length_part gs first size (omega arith)) in
    let fits = number_fits p (take_groups size (drop first gs) (drop_groups first gs c.requires.0)) few in
    rw (one_shifted (n * 8) (omega arith), c.number.ensures, fits)
    (and_mask (number p / 2 ^ behind) (n * 8)
    ∙ ap (λ (x : ℕ). number p / 2 ^ behind % 2 ^ x) (mul_comm n 8)
    ∙ sym (bytes_number gs c.requires.0 at n first size behind (omega arith) (omega arith) (omega arith)))
