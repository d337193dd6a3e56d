-- Group by group.
use Rattle.std.proofs.Common.{sym, ◌∙◌, arith}
use Rattle.laws.proofs.Lists.{sets_front}
use Rattle.bech32.specs.Alphabet.{groups_in}
use Rattle.bech32.proofs.AlphabetLaws.{length_groups_in, put_next, put_end}
use Rattle.bech32.proofs.put_text_groups.Goals as goal

pub loop-i-preserved : goal.loop-i-preserved
loop-i-preserved c =
    let l = c.loop-i in
    put_next l.out c.args.text.now l.i c.group_of.result c.loop-i-test.true c.group_of.ensures ∙ l.invariant

pub returns : goal.returns
returns c =
    let l = c.loop-i in
    let s = c.args.text.now in
    sym (put_end l.out s l.i c.loop-i-test.false) ∙ l.invariant ∙ sets_front c.args.out.now (groups_in s) (omega (arith, length_groups_in s, c.requires))
