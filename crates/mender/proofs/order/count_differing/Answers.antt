use Rattle.std.proofs.Common.{◌∙◌, length, sym, arith, rules}
use Rattle.std.proofs.lemmas.List.{length_push}
use Rattle.std.proofs.lemmas.Slice.Zip.{zip_turn, zip_end}
use Rattle.mender.proofs.Places.{differing_more, differing_same, differing_end}
use Rattle.mender.proofs.order.count_differing.Goals as goal

pub loop-x-preserved-then-x-y : goal.loop-x-preserved-then-x-y
loop-x-preserved-then-x-y c =
    let old = c.args.old.now in
    let new = c.args.new.now in
    let i = length c.loop-x.yielded in
    let t = zip_turn old new c.loop-x.yielded _ _ c.next.new.self _ (search rules) (search rules) c.loop-x.yielded_by (c.in-Some.x, c.in-Some.y) c.in-Some.is c.next.ensures.steps in
    let n = length_push c.loop-x.yielded (c.in-Some.x, c.in-Some.y) in
    record {
      at_most = omega (arith, n);
      so_far = rw n (omega (arith, differing_more old new i t.0 t.1 (λ e. c.if-x-y.true (t.2 0 ∙ e ∙ sym (t.3 0)))));
    }

pub loop-x-preserved : goal.loop-x-preserved
loop-x-preserved c =
    let old = c.args.old.now in
    let new = c.args.new.now in
    let i = length c.loop-x.yielded in
    let t = zip_turn old new c.loop-x.yielded _ _ c.next.new.self _ (search rules) (search rules) c.loop-x.yielded_by (c.in-Some.x, c.in-Some.y) c.in-Some.is c.next.ensures.steps in
    let n = length_push c.loop-x.yielded (c.in-Some.x, c.in-Some.y) in
    record {
      at_most = omega (arith, n);
      so_far = rw n (omega (arith, differing_same old new i t.0 t.1 (sym (t.2 0) ∙ c.if-x-y.false ∙ t.3 0)));
    }

pub returns : goal.returns
returns c =
    let old = c.args.old.now in
    let new = c.args.new.now in
    let t = zip_end old new c.loop-x.yielded _ _ c.next.new.self _ (search rules) (search rules) c.loop-x.yielded_by c.in-None.is c.next.ensures.steps in
    omega (arith, differing_end old new (length c.loop-x.yielded) (omega (arith, t)))
