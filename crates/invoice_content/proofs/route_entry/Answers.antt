-- The refusal of the field's groups, none, 12, or the entry.
use Rattle.std.specs.Prelude.{Some, Ok, Err}
use native.Mathlib.Omega.{arith}
use mathlib.Core.Path.{refl, sym, ap}
use Prim.Native.Nat.{◌+◌, ◌*◌, ◌≤◌, ◌<◌}
use lib.ListN.{length}
use Rattle.answer.proofs.Answer.{handed_on, mapped_refused}
use Rattle.invoice_content.specs.Content.{entries_in}
use Rattle.invoice_content.specs.declared.Hop.{Hop}
use Rattle.invoice_content.proofs.CheckLaws.{Parted, parted}
use Rattle.invoice_content.proofs.ContentLaws.{entry_refused, entry_inside, entry_none, entry_short, entry_fits}
use Rattle.invoice_content.proofs.RouteSizes.{entries_whole}
use Rattle.invoice_content.proofs.route_entry.Goals as goal
use Rattle.invoice_content.proofs.route_entry.Goals.{Else-entries-k, In_ok-route}

pub returns-in_err-route : goal.returns-in_err-route
returns-in_err-route c =
    rw (handed_on c.from_residual.ensures.1, entry_refused _ _ _ _ (mapped_refused _ _ _ (sym c.in_err-route.ensures)) _ _ _) record { result_value = refl; key_after = refl }

parted_of : (k : In_ok-route) → Parted k.args.groups.now k.args.start k.args.size k.in_ok-route.route.now
parted_of k = parted _ _ _ _ (sym k.in_ok-route.ensures)

pub returns-then-entries-k : goal.returns-then-entries-k
returns-then-entries-k c =
    let p = parted_of (goal.at.returns-then-entries-k c).In_ok-route in
    let a = c.args in
    rw (entry_none _ _ _ p.checked a.kind a.k (length a.key.now) (omega (arith, c.entries.ensures))) record { result_value = refl; key_after = refl }

-- there is an entry k, and it lies in the field's groups
has : (c : Else-entries-k) → c.args.k < entries_in c.args.kind c.args.size
has c = omega (arith, c.entries.ensures)

within : (c : Else-entries-k) → (p : Parted c.args.groups.now c.args.start c.args.size c.in_ok-route.route.now) → 8 * (51 * c.args.k + 51) ≤ 5 * length c.in_ok-route.route.now
within c p = rw p.is (entry_inside _ _ _ p.checked _ _ (has c))

pub returns-then-key-lt33 : goal.returns-then-key-lt33
returns-then-key-lt33 c =
    let p = parted_of (goal.at.returns-then-key-lt33 c).In_ok-route in
    let k2 = (goal.at.returns-then-key-lt33 c).Else-entries-k in
    let a = c.args in
    rw (entry_short _ _ _ p.checked a.kind a.k (length a.key.now) (has k2) (omega arith)) record { result_value = ap Err c.bare.ensures; key_after = refl }

pub overflow_mul-at : goal.overflow_mul-at
overflow_mul-at c = omega (arith, has (goal.at.overflow_mul-at c).Else-entries-k, entries_whole c.args.kind c.args.size)

pub put_key-requires : goal.put_key-requires
put_key-requires c =
    let p = parted_of (goal.at.put_key-requires c).In_ok-route in
    (p.are, within (goal.at.put_key-requires c).Else-entries-k p, omega arith)

pub hop_at-requires : goal.hop_at-requires
hop_at-requires c =
    let p = parted_of (goal.at.hop_at-requires c).In_ok-route in
    (p.are, within (goal.at.hop_at-requires c).Else-entries-k p)

pub returns : goal.returns
returns c =
    let p = parted_of (goal.at.returns c).In_ok-route in
    let a = c.args in
    rw (entry_fits _ _ _ p.checked a.kind a.k (length a.key.now) (has (goal.at.returns c).Else-entries-k) (omega arith), ← p.is) record {
      result_value = ap (λ (h : Hop). Ok (Some h)) c.hop_at.ensures;
      key_after = c.put_key.ensures;
    }
