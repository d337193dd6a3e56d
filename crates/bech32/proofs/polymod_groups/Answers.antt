-- The groups left, from the state so far.
use Rattle.std.proofs.Common.{sym, ap, ◌∙◌, map-id, lt_of_lt_of_le, lit≤}
use Rattle.bech32.specs.Checksum.{polymod_from}
use Rattle.bech32.proofs.ChecksumLaws.{step_below, polymod_turn, polymod_end}
use Rattle.bech32.proofs.polymod_groups.Goals as goal

pub loop-group-init : goal.loop-group-init
loop-group-init c = (c.requires, ap (polymod_from c.args.state) (map-id c.args.groups.now))

pub loop-group-preserved : goal.loop-group-preserved
loop-group-preserved c =
    let l = c.loop-group in (
      rw c.polymod_step_by-c.ensures (step_below l.c _ (lt_of_lt_of_le (c.type_inv.groups l.group-index).fits (lit≤ tt))),
      rw c.polymod_step_by-c.ensures (polymod_turn (λ g. g) c.args.groups.now l.group-index l.c c.loop-group-test.true ∙ l.invariant.1),
    )

pub returns : goal.returns
returns c =
    let l = c.loop-group in
    sym (polymod_end (λ g. g) c.args.groups.now l.group-index l.c c.loop-group-test.false) ∙ l.invariant.1
